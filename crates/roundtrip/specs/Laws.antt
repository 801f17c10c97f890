-- Theorems on a file, its text, and the file that is read from it. For the tree: rising keys (Rising), the trees of
-- accepted files (Proper), trees that are the same but for the numbers of slaves (Like). The file read has the same
-- charts and the same tree (Back), so it is accepted (Accepted), typed in the same way (Kept) and answered alike
-- (Answers). Of the file of a chart: it is made of bytes (Bytes), the chart that it holds is laid down again as it was
-- (Relaid), so reading, writing and reading give one file (Again). Texts in written form (Written).
pub mod Rising
pub mod Proper
pub mod Like
pub mod Bytes
pub mod Relaid
