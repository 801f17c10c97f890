-- The double count (Double): over all nodes, what their trees weigh is what the nodes weigh and what the trees of the
-- named ones weigh; each node but the last is named once. What follows of nodes, charts and slaves (Whole).
pub mod Double
pub mod Whole
