-- Theorems on the meaning of chart files: tests (Bools), the test of a guard (Guards), choices in order (Choices),
-- charts inside a tree (Above), the tree of a file by node kind (Trees), values of its nodes (Folds), the sets of a
-- chart (Faces), and what test 10 gives, that each node has one place in the whole (Names); what the editions do not
-- share (Editions); open choices (Open); files that step alike are answered alike (Alike). Then the promises: the step
-- in words (Demand2), the rows of a run (Runs), both of files as calls answer them (Files), when 24 is answered and
-- when 23 (Many), what is inactive in a step (Activity), the table (Thirteen). And of two files, that their runs agree
-- until a step is refused with a number, if their steps do (Until).
pub mod Bools
pub mod Guards
pub mod Above
pub mod Trees
pub mod Folds
pub mod Faces
pub mod Names
pub mod Alike
