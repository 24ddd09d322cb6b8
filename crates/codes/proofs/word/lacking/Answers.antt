-- `codes::word::lacking` meets its contract: the columns that lack an odd parity are those that are not odd.
use Rattle.std.proofs.Common.{◌≡◌, ◌*◌, ◌%◌, ◌^◌, ap, ◌∙◌, arith}
use Rattle.codes.specs.Projection.{size}
use Rattle.codes.specs.Codes.{projection}
use Rattle.codes.proofs.Codes.{size_le}
use Rattle.codes.proofs.Digits.{power_fits}
use Rattle.codes.proofs.Masks.{mask_others, parity_false, parity_true}
use Rattle.codes.proofs.word.lacking.Goals as goal

pub returns-then-odd : goal.returns-then-odd
returns-then-odd c l long e =
    let all : (1 * 2 ^ c.columns.result) % 2 ^ 64 ≡ 2 ^ size (projection c.args.code) =
    power_fits c.columns.result (omega (arith, size_le c.args.code)) ∙ rw c.columns.ensures in
    rw (c.if-odd.true, parity_true l) (omega (arith, all, mask_others l, ap (λ k. 2 ^ k) long))

pub returns : goal.returns
returns c l long e = rw (c.if-odd.false, parity_false l) e
