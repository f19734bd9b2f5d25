pub mod Agreed
pub mod Pieces
pub mod Replay
pub mod ReplayHistory
pub mod ReplayPromises
pub mod inner
