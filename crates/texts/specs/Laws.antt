-- Theorems on reading a text: its tests in their order (Tests), the parts of the file that it means (Parts), and the
-- counts of its records, some of which are cut (Counts).
pub mod Tests
pub mod Parts
pub mod Counts
pub mod Laying
pub mod Steps
