-- What the contracts of staying cite: how triggers get into their table, and what a search is told of charts that may
-- stay (Staying).
pub mod Staying
