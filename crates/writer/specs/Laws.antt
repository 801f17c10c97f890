-- Theorems on writing a file as text: its tests in their order, and that its promise determines the answer (Tests);
-- what is known of the body of an accepted file (Body).
pub mod Tests
pub mod Body
