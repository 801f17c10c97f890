-- Theorems on the file of a chart: its sets are of 8 bytes (Small), its records read back (Back), its charts are those
-- typed (Charts). For its tree: lists sorted by one key and picked by another (Order), the slaves of a part (Parts),
-- those of one chart (Rising), and that the tree means the chart (Tree). All of it, and of texts (Theorems).
pub mod Small
pub mod Back
pub mod Order
pub mod Parts
pub mod Rising
