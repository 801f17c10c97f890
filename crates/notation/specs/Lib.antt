-- The typed notation of charts (docs/NOTATION.md): what is typed, as a tree (Syntax), and which texts spell it
-- (Grammar). Then a reader, as a function (Reader), and that it is right (Laws).
-- Laws that are named here and not declared below lie in proofs/.
pub mod Syntax
pub mod Grammar
pub mod Reader
pub mod Laws
