-- What writing a file as text answers (docs/NOTATION.md): the chart that the file holds, as it is typed (Typed), its
-- text and the answer (Write), and the longest text (Numbers). What is typed for records that fit (Fits) has their
-- meaning; this and how long a text is are theorems (Laws).
-- Laws that are named here and not declared below lie in proofs/.
pub mod Numbers
pub mod Typed
pub mod Write
pub mod Fits
