-- What proofs of plan share: what a node's record says (Nodes); one node more is wired (NextNode); the charts' nearest
-- enclosing slaves, noted node by node (Noted).
pub mod Nodes
pub mod NextNode
pub mod Noted
