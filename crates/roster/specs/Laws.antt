-- Laws of the sequential charts of a text: sorted by number (Sorted), found one after another (Walk); bytes laid down
-- one behind another (Laid), records that are exact (Right), the transitions of a chart (Lines); and the front of a
-- file's body (Front).
pub mod Sorted
pub mod Walk
pub mod Laid
pub mod Right
pub mod Lines
pub mod Front
