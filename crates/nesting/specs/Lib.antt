-- What the contracts of nesting cite: what is known of a body whose nodes are walked (Known), and the nearest enclosing
-- slaves (Nearest).
pub mod Known
pub mod Nearest
