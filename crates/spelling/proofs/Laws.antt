-- Laws of the typed form: lists (Lists); sets and guards (Sets); states, transitions and sequential charts (Charts).
-- Theorems on the text of a file: how long each form of it is at most (Sizes), and all of it (Bound).
pub mod Bound
pub mod Charts
pub mod Lists
pub mod Sets
pub mod Sizes
