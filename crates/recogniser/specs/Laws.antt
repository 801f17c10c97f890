-- Laws for the recogniser's proofs: one byte of the loop.
pub mod Loop
