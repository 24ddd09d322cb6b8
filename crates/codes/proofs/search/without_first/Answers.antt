-- A mask and the number before it have all bits but the lowest one in common.
use Rattle.std.proofs.Common.{◌≡◌, ℕ, ◌+◌, ◌%◌, ◌^◌, ◌<◌, arith}
use Rattle.codes.specs.Digits.{mask}
use Rattle.codes.proofs.Masks.{before_mask}
use Rattle.codes.proofs.search.without_first.Goals as goal

-- one is taken away modulo 2 to the power 64, and added again
added_again : (m : ℕ) → m < 2 ^ 64 → ((m + 18446744073709551615) % 18446744073709551616 + 1) % 2 ^ 64 ≡ m
added_again m h = omega arith

pub returns : goal.returns
returns c l e =
    let fits : c.args.columns < 2 ^ 64 = omega arith in
    let small = rw e at fits in
    rw e (before_mask l _ (omega arith) (added_again (mask l) small))
