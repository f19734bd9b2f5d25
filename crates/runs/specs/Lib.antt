pub mod Rising
pub mod Runs
