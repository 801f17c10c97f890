-- The tables that a search reads and writes: masks and small numbers (Table), a beginning of a choice (Trail), what
-- triggers charts that may stay (Triggers).
pub mod Table
pub mod Trail
pub mod Triggers
