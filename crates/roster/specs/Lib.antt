-- The sequential charts of a text, by number: what is found of them (Roster), the walk that finds them (Walk), their
-- records (Records), and laws for the proofs (Laws).
pub mod Roster
pub mod Walk
pub mod Records
pub mod Laws
