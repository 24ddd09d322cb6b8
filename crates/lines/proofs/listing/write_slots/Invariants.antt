-- The lines of the slots before this one are written, in at most 131 bytes each.
use Rattle.std.proofs.Common.{◌≡◌, ◌++◌, ◌+◌, ◌*◌, ◌≤◌}
use Rattle.arrayvec.specs.ArrayString.{array_string_len}
use Rattle.trace.specs.Trace.{alone_in}
use Rattle.lines.specs.Listing.{slot_lines}
use Rattle.lines.proofs.listing.write_slots.Given as goal

abbrev pub invariant-loop-slot : goal.invariant-loop-slot
invariant-loop-slot g l = record {
  lines : l.out.bytes ≡ l.initial.out.bytes ++ slot_lines (alone_in l.file) l.slot;
  upper_bound : array_string_len l.out ≤ array_string_len l.initial.out + 131 * l.slot;
}
