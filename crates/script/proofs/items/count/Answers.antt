-- An item more is counted, or one can't be read.
use Rattle.std.proofs.Common.{◌∙◌}
use Rattle.script.proofs.Walks.{counting_next, counting_none, counting_end}
use Rattle.script.proofs.items.count.Goals as goal

pub loop-item-preserved : goal.loop-item-preserved
loop-item-preserved g c =
    λ all are. (counting_next _ c.loop-item.item-iterator c.next.new.self _ all c.in_ok-item.field-0 c.in-Some.item (c.loop-item.invariant all are) c.in-Some.ensures.steps c.in_ok-item.was).1

pub returns-in_err-item : goal.returns-in_err-item
returns-in_err-item g c =
    λ all are. c.from_residual.ensures ∙ counting_none _ c.loop-item.item-iterator c.next.new.self _ all c.in-Some.item (c.loop-item.invariant all are) c.in-Some.ensures.steps c.in_err-item.was

pub returns : goal.returns
returns g c = λ all are. counting_end _ c.loop-item.item-iterator c.next.new.self _ all (c.loop-item.invariant all are) c.in-None.ensures.steps
