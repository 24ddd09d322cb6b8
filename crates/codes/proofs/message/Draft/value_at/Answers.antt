-- `codes::message::Draft::value_at` meets its contract: the digit of the message or of the syndrome that has as many digits behind it as there
-- are columns of its kind behind the column.
use Rattle.std.proofs.Common.{◌≡◌, suc, ◌+◌, ◌-◌, ◌*◌, ◌/◌, ◌^◌, not, map, drop, sym, ◌∙◌, arith}
use Rattle.symbols.proofs.Claims.{numbers}
use Rattle.codes.specs.Projection.{count, top_bits}
use Rattle.codes.specs.Codes.{projection}
use Rattle.codes.proofs.Digits.{pow_mul, shift_shift}
use Rattle.codes.proofs.Codes.{systematic}
use Rattle.codes.proofs.Drafts.{count_behind, value_from}
use Rattle.codes.proofs.message.Draft.value_at.Goals as goal

pub returns-then-is_free : goal.returns-then-is_free
returns-then-is_free c =
    let a = c.args in
    let π = projection a.self.code in
    let columns = c.columns-last in
    let free = c.free_behind-free in
    let last : columns.result - 1 ≡ top_bits π = omega (arith, columns.ensures) in
    numbers.symbols.modulo (a.self.message / 2 ^ (columns.result - 1 + 2 * free.result))
    ∙ rw (last, free.ensures, ← shift_shift a.self.message (top_bits π) (count (drop (suc a.column) π.free)))
    (sym (value_from π.free a.column (omega (arith, c.requires, (systematic a.self.code).flags)) (a.self.message / 2 ^ top_bits π) a.self.syndrome
    (sym c.is_free.ensures ∙ c.if-is_free.true)))

pub returns : goal.returns
returns c =
    let a = c.args in
    let π = projection a.self.code in
    let columns = c.columns-last in
    let free = c.free_behind-free in
    let others : columns.result - 1 - a.column - free.result ≡ count (map not (drop (suc a.column) π.free)) =
    omega (arith, count_behind π.free a.column, (systematic a.self.code).flags, free.ensures, columns.ensures) in
    rw c.from.ensures (numbers.symbols.modulo (a.self.syndrome / 2 ^ (2 * (columns.result - 1 - a.column - free.result)))
    ∙ rw (others, ← pow_mul 2 2 (count (map not (drop (suc a.column) π.free))))
    (sym (value_from π.free a.column (omega (arith, c.requires, (systematic a.self.code).flags)) (a.self.message / 2 ^ top_bits π) a.self.syndrome
    (sym c.is_free.ensures ∙ c.if-is_free.false))))
