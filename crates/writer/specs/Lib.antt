-- What writing a file as text promises (Promises), and laws (Laws).
pub mod Promises
pub mod Laws
