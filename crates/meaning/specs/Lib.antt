-- The meaning of chart files. What a reader must believe: the numbers that have names (Numbers, Sums), each member of a
-- list (Each), what a step means (Meaning), the file (File), its check (Check), open choices (Open), the public calls
-- (Calls), what is active in a step (Active), the rewriting (Rewriting), plain files (Plain); and the words by which
-- the promises are read (Words). The theorems are under Laws.
-- Laws that are named here and not declared below lie in proofs/.
pub mod Numbers
pub mod Sums
pub mod Each
pub mod Meaning
pub mod File
pub mod Check
pub mod Open
pub mod Calls
pub mod Active
pub mod Rewriting
pub mod Plain
pub mod Words
pub mod Laws
