-- Theorems on the notation, in this order: numbers in decimal (Decimal), the bytes of signs and letters (Signs), the
-- grammar with the last token first (Backward), what the reader has read in each state (Before), that it takes the
-- tokens of every chart (Reads) and their bytes (Fed), that its bytes lead where its tokens do (Led), that these begin
-- some text (Begun). Then the promises: the reader is right (Theorems), every chart has a text (Write), texts by
-- computation (Examples).
pub mod Before
pub mod Begun
pub mod Examples
pub mod Fed
pub mod Led
pub mod Theorems
pub mod Write
