pub mod Basics
pub mod Rising
pub mod Runs
