-- The nodes and slaves of a text, laid down: brackets (Brackets), slaves in the order of a file (Order), what the walk
-- over a text lays down (Walk), and laws for the proofs (Laws).
pub mod Brackets
pub mod Order
pub mod Walk
pub mod Laws
