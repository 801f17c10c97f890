-- What the contracts of assembly cite beyond the crates below: what is known (Known), and the records of the rewritten
-- file as code makes them, from sets in tables (Records).
pub mod Known
pub mod Records
