-- What the contracts of plan cite: what the wiring of a file leaves, the masks (ByNode), the charts' nearest enclosing
-- slaves (Noted), and both in a search's tables (Plan).
pub mod ByNode
pub mod Noted
pub mod Plan
