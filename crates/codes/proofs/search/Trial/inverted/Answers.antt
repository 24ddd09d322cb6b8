-- The shifted bits stay below 2 ^ 64.
use Rattle.std.proofs.Common.{◌-◌, ◌*◌, ◌^◌, ◌<◌, ap, ◌∙◌, arith, shl_exact}
use lib.Bits.{bit_xor}
use Rattle.codes.proofs.Codes.{size_le}
use Rattle.codes.proofs.search.Trial.inverted.Goals as goal

pub returns : goal.returns
returns c =
    let a = c.args in
    let after = c.columns.result - 1 - a.column in
    let small : c.from.result < 2 ^ 4 = omega (arith, c.from.ensures, c.requires.1) in
    ap (bit_xor a.self.word)
    (shl_exact 4 (4 * after) 64 small (omega (arith, size_le a.self.code))
    ∙ rw (c.from.ensures, c.columns.ensures))
