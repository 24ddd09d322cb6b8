-- `trace::loads::draw_all` meets its contract: at first none is drawn, each round draws one, and at the end all are.
use Rattle.std.proofs.Common.{◌≡◌, refl, ◌∙◌, arith}
use Rattle.trace.proofs.PickLaws.{none_drawn, one_drawn, all_drawn}
use Rattle.trace.proofs.loads.draw_all.Goals as goal

pub loop-drawn-init : goal.loop-drawn-init
loop-drawn-init c = (refl, none_drawn _ _ _ c.requires.1)

pub loop-drawn-preserved : goal.loop-drawn-preserved
loop-drawn-preserved c =
    let here = c.loop-drawn.invariant in
    let after = c.pick.ensures in
    (after.width ∙ here.0, rw (after.number, after.picked, here.0) (one_drawn _ _ _ c.requires.1 _ _ _ here.1 c.loop-drawn-test.true))

pub returns : goal.returns
returns c =
    let here = c.loop-drawn.invariant in
    let all : c.loop-drawn.drawn ≡ c.args.count = omega arith in
    all_drawn _ _ _ c.requires.1 _ _ (rw all at here.1)
