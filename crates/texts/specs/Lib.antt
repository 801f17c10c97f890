-- What reading a text promises (Promises), how many records a text means (Shapes), what is known of it
-- on the way to its file (Ready), and laws (Laws).
pub mod Promises
pub mod Shapes
pub mod Ready
pub mod Laws
