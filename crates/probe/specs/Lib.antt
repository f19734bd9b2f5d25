pub mod Telling
pub mod Subframe
pub mod Dsm
pub mod Store
pub mod Writers
pub mod Walks
