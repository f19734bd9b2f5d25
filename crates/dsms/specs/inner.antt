-- For the prover alone: no promise cites a file of this folder.
pub mod Dsm
