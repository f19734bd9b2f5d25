pub mod Examples
pub mod Histories
pub mod KrootExample
pub mod ListingUnique
pub mod Pages
pub mod PieceSteps
pub mod Putting
