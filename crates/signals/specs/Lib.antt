-- Sets of signals: the definitions (Mask, Lowest), their laws (Mask/Laws, All), and `sets`, which decides identities of
-- sets (Decide). The test of a guard (Guard), and how its code finds what is lacking (Look) and a signal of it
-- (Halving). Laws of tests (Bools).
pub mod Bools
pub mod Mask
pub mod Decide
pub mod All
pub mod Lowest
pub mod Guard
pub mod Look
pub mod Halving
