-- What proofs of nesting share: a record that was read is the file's (Records); the walk down the nodes to each one's
-- nearest enclosing slave (Near).
pub mod Records
pub mod Near
