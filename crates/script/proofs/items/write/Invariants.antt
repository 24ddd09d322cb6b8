-- The items that are written are the first of all, and the others are still to come.
use Rattle.std.proofs.Common.{List, Some, map, length, ◌≤◌}
use Rattle.script.specs.ContractsOfSteps.{Gives}
use Rattle.script.proofs.Walks.{Writing}
use Rattle.script.proofs.items.write.Given as goal

abbrev pub invariant-loop-item : goal.invariant-loop-item
invariant-loop-item g l = (all : List g.row.T.Denot) → Gives g.I.Iterator.next_gives l.fn.items (map (λ x. Some x) all) → length all ≤ length l.fn.buffer
    → Writing g.I.Iterator.next_gives all l.fn.buffer l.item-iterator l.i l.buffer
