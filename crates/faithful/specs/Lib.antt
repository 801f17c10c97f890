-- When a file holds a chart as typed (Faithful), and that the file which is read from a text does (Laws).
-- Laws that are named here and not declared below lie in proofs/.
pub mod Faithful
pub mod Laws
