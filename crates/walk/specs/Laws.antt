-- Laws of brackets in a text (Brackets), of slaves in their order (Order), of what is laid down and written (Laid), of
-- each step of the walk (Walk), of a master and its slaves (Slaves), and of a text as a whole (Text).
pub mod Brackets
pub mod Order
pub mod Laid
pub mod Walk
pub mod Slaves
pub mod Text
