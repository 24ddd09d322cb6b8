-- The items that are counted and those that are still to come are all.
use Rattle.std.proofs.Common.{List, Option}
use Rattle.script.specs.ContractsOfSteps.{Gives}
use Rattle.script.proofs.Walks.{Counting}
use Rattle.script.proofs.items.count.Given as goal

abbrev pub invariant-loop-item : goal.invariant-loop-item
invariant-loop-item g l = (all : List (Option g.row.T.Denot)) → Gives g.I.Iterator.next_gives l.fn.items all → Counting g.I.Iterator.next_gives l.item-iterator l.n all
