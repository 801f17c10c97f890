-- What the contracts of counting cite: the count over rows and a table, what it asks, and what it leaves (Counting).
pub mod Counting
