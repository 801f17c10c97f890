-- What a day's posting is (Posting), and what its functions compute one after another (Turns). Read the first; no
-- public contract uses the second.
-- Laws that are named here and not declared below lie in proofs/.
pub mod Posting
pub mod Turns
