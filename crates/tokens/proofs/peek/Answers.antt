-- `peek` meets its contract.
use Rattle.tokens.specs.Laws.Steps.{peek_in, peek_out}
use Rattle.tokens.proofs.peek.Goals as goal

pub returns-then-i-text : goal.returns-then-i-text
returns-then-i-text c =
    let a = c.args in
    peek_in a.text.now a.at c.next_token-i.result c.next_token-i.ensures.0 c.if-i-text.true

pub returns : goal.returns
returns c =
    let a = c.args in
    peek_out a.text.now a.at c.next_token-i.result c.next_token-i.ensures.0 c.if-i-text.false
