-- `of_body` meets its contract: 51; 45, by the length that was counted in an empty buffer; or the text over the front
-- of the buffer.
use mathlib.Core.Path.{◌≡◌, sym, ◌∙◌}
use mathlib.Core.Bool.{false}
use native.Mathlib.Nat.{zero-add}
use lib.Dec.{ltb}
use lib.ListN.{length}
use Rattle.layout.specs.Put.Laws.{put-over}
use Rattle.meaning.specs.File.{File, file_at}
use Rattle.notation.specs.Syntax.{depth}
use Rattle.reading.specs.Numbers.{most_depth}
use Rattle.spelling.specs.Write.{chart_in, text_in}
use Rattle.writer.specs.Laws.Tests.{body-deep, body-short, body-written}
use Rattle.writer.proofs.of_body.Goals as goal
use Rattle.writer.proofs.of_body.Goals.{After-text-size, After-too_deep, Else-too_deep}

-- the file that was read
abbrev at : After-too_deep → File
at c = file_at c.args.n c.args.body.now

shallow : (c : Else-too_deep) → ltb most_depth (depth (chart_in (at (goal.at.Else-too_deep c).After-too_deep))) ≡ false
shallow c = sym c.too_deep.ensures ∙ c.if-too_deep.false

size_is : (c : After-text-size) → c.text-size.result ≡ length (text_in (at (goal.at.After-text-size c).After-too_deep))
size_is c = c.text-size.ensures.place ∙ zero-add _

pub returns-then-too_deep : goal.returns-then-too_deep
returns-then-too_deep c =
    body-deep (at (goal.at.returns-then-too_deep c).After-too_deep) c.args.out.now (sym c.too_deep.ensures ∙ c.if-too_deep.true)

pub returns-then-out-size : goal.returns-then-out-size
returns-then-out-size c =
    body-short (at (goal.at.returns-then-out-size c).After-too_deep) c.args.out.now (shallow (goal.at.returns-then-out-size c).Else-too_deep) (rw (size_is (goal.at.returns-then-out-size c).After-text-size) at c.if-out-size.true)

pub returns : goal.returns
returns c =
    let l = rw (size_is (goal.at.returns c).After-text-size) at c.if-out-size.false in
    body-written (at (goal.at.returns c).After-too_deep) c.args.out.now _ _ (shallow (goal.at.returns c).Else-too_deep) l (size_is (goal.at.returns c).After-text-size) (put-over c.text.ensures l).1
