-- A sequential chart in a text and its lists, read into numbers: what is read (Lists), where the sequential charts of a
-- text begin (Found), and laws for the proofs (Laws).
pub mod Lists
pub mod Found
pub mod Laws
