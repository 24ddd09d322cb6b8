-- What is written, and the parts that are left, are all.
use Rattle.std.proofs.Common.{◌≡◌, ◌++◌}
use Rattle.std.specs.Slice.Iter.{chunks_rest, chunks_size}
use Rattle.lines.specs.Text.{hex, each}
use Rattle.lines.proofs.text.write_hexes.Given as goal

abbrev pub invariant-loop-part : goal.invariant-loop-part
invariant-loop-part g l = record {
  can_next : (goal.iterator-loop-part g).can_next l.part-iterator;
  finite : (goal.iterator-loop-part g).is_finite l.part-iterator;
  size : chunks_size l.part-iterator ≡ 256;
  written : l.out.bytes ++ each hex (chunks_rest l.part-iterator) ≡ l.initial.out.bytes ++ each hex l.fn.bytes;
}
