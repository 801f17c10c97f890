-- Exchanging the two parts of a composed node (RULES 2.6) in the bytes of a file. `Laws` says that every answer stays
-- as it was; the paper on mu-Charts has it of charts, as Proposition 4. What leads to it, in this order: over a tree
-- (Trees), and of any two files with such trees (Answers); over records (Records); two bytes exchanged (Swap), and
-- those of a node (Bytes).
pub mod Answers
pub mod Bytes
pub mod Laws
pub mod Records
pub mod Trees
