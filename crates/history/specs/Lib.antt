-- The words of the theorems on posted days (Words), and the theorems (Laws).
pub mod Words
pub mod Laws
