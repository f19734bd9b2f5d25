pub mod Telling
pub mod Unique
pub mod Manual
