-- When two files hold the same charts in the same tree (Same), and which texts are as a file is written (Written); that
-- a file which is written as text and read again is the same, and what follows (Laws).
-- Laws that are named here and not declared below lie in proofs/.
pub mod Same
pub mod Written
pub mod Laws
