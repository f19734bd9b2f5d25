pub mod Agreed
pub mod Examples
pub mod Histories
pub mod Listing
pub mod PiecePromises
pub mod Pieces
pub mod inner
