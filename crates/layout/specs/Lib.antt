-- A chart file in bytes: numbers (Le), records (Record, Kind), and the body by its counts (Body); bytes written at a
-- place of a buffer (Put); rows of a list (Row).
pub mod Le
pub mod Record
pub mod Kind
pub mod Body
pub mod Put
pub mod Row
