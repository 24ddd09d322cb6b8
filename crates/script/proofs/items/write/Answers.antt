-- An item more is written, and none is left out.
use Rattle.script.proofs.Walks.{writing_next, writing_none, writing_end}
use Rattle.script.proofs.items.write.Goals as goal

pub loop-item-preserved : goal.loop-item-preserved
loop-item-preserved g c =
    λ all are fit. (writing_next _ all _ c.loop-item.item-iterator c.next.new.self _ _ c.in-Some-item.x c.in-Some.item (c.loop-item.invariant all are fit) c.in-Some.ensures.steps c.in-Some-item.is fit).1

pub returns-in_default : goal.returns-in_default
returns-in_default g c =
    λ all are fit. absurd (writing_none _ all _ c.loop-item.item-iterator c.next.new.self _ _ c.in-Some.item (c.loop-item.invariant all are fit) c.in-Some.ensures.steps c.in_default.is)

pub returns : goal.returns
returns g c = λ all are fit. writing_end _ all _ c.loop-item.item-iterator c.next.new.self _ _ (c.loop-item.invariant all are fit) c.in-None.ensures.steps
