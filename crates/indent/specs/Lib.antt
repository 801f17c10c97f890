-- A written text laid out for a person: what stands behind each byte (Breaks), and that it is read as before (Laws).
-- Laws that are named here and not declared below lie in proofs/.
pub mod Breaks
