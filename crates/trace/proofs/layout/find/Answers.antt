-- `trace::layout::find` meets its contract: the buffer is opened, and the slot is one of its slots.
use Rattle.trace.proofs.Finding.{not_found, found}
use Rattle.trace.proofs.layout.find.Goals as goal

pub returns-then-h-i : goal.returns-then-h-i
returns-then-h-i c = not_found _ _ _ c.in_ok-h.ensures c.if-h-i.true

pub returns : goal.returns
returns c = found _ _ _ c.in_ok-h.ensures c.if-h-i.false _ c.slot.ensures
