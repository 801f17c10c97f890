-- Laws that are proved here, apart from the definitions.
pub mod Alive
pub mod Calls
pub mod Dead
pub mod Examples
pub mod Kept
pub mod LeftLaws
pub mod Limits
pub mod New
pub mod Outcomes
pub mod Result
pub mod Rewrites
