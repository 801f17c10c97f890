-- Which texts are as a file is written (docs/NOTATION.md): `InWrittenForm` says it of a text by reading it and writing
-- what was read, `TextOfFile` by a file that has this text. They are the same texts (Laws/Written).
use Rattle.std.specs.Prelude.{◌≡◌, List, ℕ, length}
use Rattle.layout.specs.Le.{AllBytes}
use Rattle.reading.specs.Read.{read_refusal, read_file}
use Rattle.spelling.specs.Write.{text_of, write_refusal}

-- w is read without refusal, into a buffer that has room for its file, and what was read is written as w again
pub record InWrittenForm (w : List ℕ) : Type 0 where
  pub read : read_refusal w (length (read_file w)) ≡ 0
  pub written : text_of (read_file w) ≡ w

-- w is the text of a file that can be written: it passes 1 to 11, is of edition 1 and not nested too deep
pub record TextOfFile (w : List ℕ) : Type 0 where
  pub file : List ℕ
  pub bytes : AllBytes file
  pub passes : write_refusal file (length w) ≡ 0
  pub text : text_of file ≡ w
