-- Theorems on reading a text: a file that is read passes 1 to 11, and what a refusal says (Read); how long its body is
-- (Body); texts by computation (Examples); lists of names (Lists); lists picked and sorted by a key (Sorted).
pub mod Body
pub mod Lists
pub mod Sorted
