-- Reading without a stack: looking back over the text (Look), how what encloses a byte changes (Levels), the states by
-- number with what can come in each (Table), the reading itself (Scan), and that it answers as the reader does (Laws).
pub mod Look
pub mod Levels
pub mod Table
pub mod Scan
pub mod Laws
