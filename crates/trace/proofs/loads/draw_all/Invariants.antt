-- What is left to draw leads where all draws lead.
use Rattle.std.proofs.Common.{◌≡◌}
use Rattle.trace.proofs.PickLaws.{Drawing}
use Rattle.trace.proofs.loads.draw_all.Given as goal

abbrev pub invariant-loop-drawn : goal.invariant-loop-drawn
invariant-loop-drawn l = (l.load.width ≡ l.width) × Drawing l.width l.seed l.count l.drawn l.load.generator.number l.load.picked
