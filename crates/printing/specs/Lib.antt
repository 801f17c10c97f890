-- The text of a file in code: tokens typed at a place of a buffer (Prints), lists with a sign between their members
-- (Separated), forms by the numbers of a file (Forms), and laws for the proofs (Laws).
pub mod Prints
pub mod Separated
pub mod Forms
pub mod Laws
