-- What reading a text answers (docs/NOTATION.md): its numbers (Numbers), refusal 52 (Names), the file that a chart
-- means (Meant), the answer (Read), and theorems about it (Laws).
-- Laws that are named here and not declared below lie in proofs/.
pub mod Numbers
pub mod Names
pub mod Meant
pub mod Read
pub mod Laws
