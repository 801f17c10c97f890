-- The cleared file steps as the file does, and is a file again. What a reader must believe is in Clearing, and the
-- promises are in Calls; what leads to them, in this order: a dead transition is in no permitted choice (Dead); lists
-- without them (Alive); over a tree, interfaces and outcomes (Outcomes); over records (Result); any file whose records
-- are in order passes, once it is written (InOrder); the records of the cleared file are (New). Then the list as code
-- goes through it (Left), what else clearing keeps (Kept), the rewriting of a cleared file (Limits over records,
-- Rewrites over bytes), and files cleared by computation (Examples).
-- Laws that are named here and not declared below lie in proofs/.
pub mod Clearing
pub mod InOrder
pub mod Left
