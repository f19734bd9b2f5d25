pub mod Blocks
pub mod DsmHistory
pub mod DsmRecovery
pub mod DsmRun
pub mod DsmSound
pub mod DsmUnique
pub mod DsmViewUnique
pub mod Kept
