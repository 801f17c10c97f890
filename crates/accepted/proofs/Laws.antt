-- Theorems on the file of a chart to which 52 and 3 do not apply: 1 to 5 do not apply to it (Shape), nor does 9
-- (Nodes); what the nodes and slaves of a part name and hold (Runs), so 10 does not apply to it (Test10). The slaves of
-- an accepted file come in their order (Records). On what is typed for an accepted file: its charts (Fits), names
-- (Names) and numbers (Counts); and on its file, 6 and 7 (Charts), 8 (Slaves). Of two files with the same tree, 11
-- (Inside).
pub mod Charts
pub mod Counts
pub mod Inside
pub mod Names
pub mod Nodes
pub mod Runs
pub mod Shape
pub mod Slaves
pub mod Test10
