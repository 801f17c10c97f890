-- `typed::put_signal` meets its contract.
use borrow.Author.Rules.{rules}
use Rattle.layout.specs.Put.Laws.{put-append}
use Rattle.typed.specs.Typed.{shown_signal}
use Rattle.typed.proofs.put_signal.Goals as goal

pub put_byte-next-requires : goal.put_byte-next-requires
unfolding shown_signal
put_byte-next-requires c = search rules

pub put_decimal-requires : goal.put_decimal-requires
unfolding shown_signal
put_decimal-requires c = search rules

pub returns : goal.returns
unfolding shown_signal
returns c =
    put-append c.put_byte-next.ensures
    c.put_decimal.ensures
