-- Where a search of the table may start (Start), a step as the numbers of the scan (Step), and laws for the proofs
-- (Laws).
pub mod Start
pub mod Step
pub mod Laws
