-- `codes::word::unpack` meets its contract.
use Rattle.std.proofs.Common.{◌≡◌, suc, ◌+◌, ◌-◌, arith, length-set}
use Rattle.codes.specs.Projection.{size}
use Rattle.codes.specs.Codes.{projection}
use Rattle.codes.proofs.Arrays.{unpack_step, next_quotient, aligned}
use Rattle.codes.proofs.Codes.{size_le}
use Rattle.codes.proofs.word.unpack.Goals as goal

pub loop-i-preserved : goal.loop-i-preserved
loop-i-preserved c =
    let l = c.loop-i in
    let k = 10 - l.i in
    let more : 10 - (l.i - 1) ≡ suc k = omega arith in
    let next : l.i - 1 + 1 ≡ l.i = omega arith in
    record {
      room = simp length-set l.invariant.room;
      rest = rw (l.invariant.rest, more) (next_quotient k _);
      stored = rw (l.invariant.rest, more) (unpack_step l.columns (l.i - 1) k _ (omega arith) (rw next l.invariant.stored));
    }

pub returns : goal.returns
returns c =
    let l = c.loop-i in
    let code = c.args.code in
    let first : l.i ≡ 0 = omega arith in
    aligned l.columns (size (projection code)) c.args.packed (size_le code) (rw (first, c.columns.ensures) at l.invariant.stored)
