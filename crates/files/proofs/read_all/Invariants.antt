-- What `read_all` keeps: the buffer has its length, `end` is within it, and up to there it has what the reader gave. Each turn but the last brings `end` nearer to
-- the buffer's end.
use Rattle.std.proofs.Common.{◌≡◌, length, take, ◌-◌, ◌≤◌}
use Rattle.std.specs.Io.KnownBytes.{Consumes}
use Rattle.files.proofs.read_all.Given as goal

abbrev pub invariant-loop-end : goal.invariant-loop-end
invariant-loop-end g l = (length l.buf ≡ length l.initial.buf) × (l.end ≤ length l.buf) × Consumes (g.R.Read.remaining l.initial.reader) (g.R.Read.remaining l.reader) (take l.end l.buf)

abbrev pub decreases-loop-end : goal.decreases-loop-end
decreases-loop-end g l = length l.initial.buf - l.end
