-- Theorems on reading without a stack, in this order: looking back finds what encloses a part (Look), the table has the
-- reader's ways on (Table), the reading answers as the reader does (Scan). For the code: one byte back (Back), one byte
-- further (Steps), the levels around each byte (Levels).
pub mod Look
pub mod Table
pub mod Scan
pub mod Back
pub mod Steps
pub mod Levels
