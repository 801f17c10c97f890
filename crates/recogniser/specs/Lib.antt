-- What the recogniser's contracts name: its verdict (Verdict), and laws for its proofs (Laws).
pub mod Verdict
pub mod Laws
