-- `codes::word::pack` meets its contract.
use Rattle.std.proofs.Common.{◌≡◌, ℕ, suc, ◌^◌, ◌<◌, List, map, length, get_or, take, drop, add-one, arith, drop-cons, length-take-le}
use lib.ListN.{length-map}
use Rattle.symbols.specs.Column.{column_of}
use Rattle.codes.specs.declared.code.Code.{Code}
use Rattle.codes.specs.Digits.{columns}
use Rattle.codes.specs.Projection.{size}
use Rattle.codes.specs.Word.{word_number}
use Rattle.codes.specs.Codes.{projection}
use Rattle.codes.proofs.Digits.{columns_fit}
use Rattle.codes.proofs.Horner.{followed, followed_next, followed_le}
use Rattle.codes.proofs.Codes.{size_le}
use Rattle.codes.proofs.Messages.{word_below}
use Rattle.codes.proofs.word.pack.Goals as goal

-- the number so far is at most the whole, and that is a word
small : (code : Code) (a : List ℕ) (m i number : ℕ) → length a ≡ 10 → m ≡ size (projection code) →
    followed columns number (map column_of (drop i (take m a))) ≡ word_number (map column_of (take m a)) → number < 2 ^ 40
small code a m i number room all e =
    omega (
      arith,
      followed_le columns columns_fit number (map column_of (drop i (take m a))),
      word_below (map column_of (take m a))
          (omega (arith, length-map (take m a) column_of, length-take-le m a (omega (arith, size_le code)), size_le code)),
    )

pub overflow_mul-number : goal.overflow_mul-number
overflow_mul-number c =
    let a = c.args in
    let l = c.loop-column in
    omega (arith, small a.code a.columns c.columns.result l.column-index l.number (omega arith) c.columns.ensures l.invariant)

pub overflow_add-number : goal.overflow_add-number
overflow_add-number c =
    let a = c.args in
    let l = c.loop-column in
    omega (arith, small a.code a.columns c.columns.result l.column-index l.number (omega arith) c.columns.ensures l.invariant)

pub loop-column-preserved : goal.loop-column-preserved
loop-column-preserved c =
    let items = take c.columns.result c.args.columns in
    let l = c.loop-column in
    let i = l.column-index in
    let x = get_or items i 0 in
    rw (add-one i, c.from.ensures, ← columns_fit.there x, ← followed_next columns l.number (column_of x) (map column_of (drop (suc i) items)))
    (rw (drop-cons items i 0 c.loop-column-test.true) at l.invariant)
