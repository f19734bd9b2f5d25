-- For the prover alone: no promise cites a file of this folder.
pub mod Answered
pub mod Little
