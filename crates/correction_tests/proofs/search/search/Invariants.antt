-- What `search` keeps: no more messages are encoded otherwise than were tried.
use Rattle.std.proofs.Common.{◌≤◌}
use Rattle.correction_tests.proofs.search.search.Given as goal

abbrev pub invariant-loop-message : goal.invariant-loop-message
invariant-loop-message l = l.otherwise ≤ l.message
