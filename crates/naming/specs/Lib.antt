-- What the contracts of naming cite beyond the crates meaning and checks: the walk of 10 (Names), the lowest charts of
-- 11 (Inside).
pub mod Names
pub mod Inside
