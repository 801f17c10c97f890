-- The fields of a chart in a text, read into numbers: what is read (Fields), and laws for the proofs (Laws).
pub mod Fields
pub mod Laws
