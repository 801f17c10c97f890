-- `step::read_by` meets its contract: where few choices are open, or all comes out, nothing changes; else the rows have
-- what is read.
use Rattle.stepping.specs.Step.Laws.{read_rows}
use Rattle.stepping.proofs.step.read_by.Goals as goal

pub returns : goal.returns
returns c =
    let p = c.puts_all.ensures in
    λ a z q.
    record {
      read = read_rows c.args.n c.args.body.now a c.args.masks.now z c.args.config.now q
          c.rows-rows.result c.rows-rows.ensures;
      mays = p.mays;
      sure = p.sure;
    }

pub returns-then-open_choices-le-FEW_OPEN : goal.returns-then-open_choices-le-FEW_OPEN
returns-then-open_choices-le-FEW_OPEN c = λ a z q. c.requires.2

pub returns-then-all_out : goal.returns-then-all_out
returns-then-all_out c = λ a z q. c.requires.2
