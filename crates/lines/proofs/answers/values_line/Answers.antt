-- The values are numbers of 64 bits, and at most five.
use Rattle.std.proofs.Common.{ℕ, ◌≡◌, ◌<◌, ◌^◌, length, get_or, arith, rules}
use Rattle.lines.proofs.Lengths.{values_short}
use Rattle.lines.proofs.answers.values_line.Goals as goal

pub write_line-requires : goal.write_line-requires
write_line-requires g c =
    let fit : (i : ℕ) → get_or c.in-Ok.values i 0 < 2 ^ 64 = search rules in
    let size : length c.in-Ok.values ≡ g.row.N = search rules in
    (search rules, rw c.clear.ensures (omega (arith, values_short c.in-Ok.values fit (omega (arith, size, c.requires)))))
