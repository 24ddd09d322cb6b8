-- `codes::word::Walk::with_column` meets its contract: a column of the code adds its parity, its top bit and its multiple of the matrix's column.
use Rattle.std.proofs.Common.{◌≡◌, ◌+◌, ◌*◌, not, refl, ap, ◌∙◌, arith, rules}
use mathlib.Core.Bool.{beq}
use Rattle.symbols.specs.Symbol.{symbol_of}
use Rattle.symbols.specs.Column.{value, parity, one, column_of}
use Rattle.symbols.proofs.Claims.{numbers}
use Rattle.codes.specs.Codes.{projection}
use Rattle.codes.proofs.Codes.{systematic}
use Rattle.codes.proofs.Walks.{one_column_more}
use Rattle.codes.proofs.word.Walk.with_column.Goals as goal

pub returns : goal.returns
returns c =
    let a = c.args in
    let π = projection a.code in
    let column = column_of a.column in
    let symbol : symbol_of c.value.result ≡ value column = ap symbol_of c.value.ensures ∙ numbers.symbols.back (value column) in
    let odd : c.from.result ≡ one (parity column) = search rules in
    one_column_more π a.i a.column (systematic a.code).shape (omega (arith, c.columns.ensures)) a.self _
    c.multiple.result
    (c.multiple.ensures ∙ c.multiples.ensures c.value.result (omega (arith, c.value.ensures, numbers.symbols.small (value column))) ∙ rw symbol)
    (ap (λ n. a.self.parities * 2 + n) odd)
    (ap (λ b. not (beq a.self.top b)) c.top.ensures)
    refl
