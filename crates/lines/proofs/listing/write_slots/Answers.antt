-- A slot's line has at most 131 bytes, since what a read answers are numbers of 64 bits.
use Rattle.std.proofs.Common.{length, IfOk, arith, rules, ap, append_assoc, length-append, add-one}
use Rattle.trace.specs.Answers.{reading_values}
use Rattle.lines.specs.Listing.{slot_lines}
use Rattle.lines.specs.Claims.{AllOf}
use Rattle.lines.proofs.Lengths.{Word, slot_short}
use Rattle.lines.proofs.listing.write_slots.Goals as goal

pub loop-slot-preserved : goal.loop-slot-preserved
unfolding slot_lines
loop-slot-preserved g c =
    let fit : IfOk c.read_alone.result (λ v. AllOf Word (reading_values v)) = search rules in
    let slot : Word c.loop-slot.slot = omega arith in
    let short = slot_short c.loop-slot.slot slot c.read_alone.result fit in
    record {
      lines = rw (add-one, ← c.read_alone.ensures, c.write_slot.ensures, c.loop-slot.invariant.lines) (simp append_assoc);
      upper_bound = omega (arith, short, simp length-append at (ap length c.write_slot.ensures));
    }
