pub mod Telling
pub mod Calls
