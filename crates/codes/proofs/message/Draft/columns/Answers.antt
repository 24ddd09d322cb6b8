-- `codes::message::Draft::columns` meets its contract.
use Rattle.std.proofs.Common.{◌≡◌, ℕ, suc, ◌+◌, ◌-◌, ◌<◌, Bool, not, List, ◌++◌, map, length, take, set, ◌∙◌, add-one, arith, length-set}
use mathlib.Core.Bool.{beq}
use lib.Seq.{append_snoc}
use Rattle.symbols.specs.Symbol.{◌⊻◌, has_bit}
use Rattle.symbols.specs.Column.{column_of}
use Rattle.symbols.proofs.Claims.{exclusive_or}
use Rattle.codes.specs.Projection.{Projection, size, top_bits}
use Rattle.codes.specs.Codes.{projection}
use Rattle.codes.proofs.Codes.{size_le, systematic}
use Rattle.codes.proofs.Placing.{Systematic}
use Rattle.codes.proofs.Drafts.{stored_more, parity_bit, draft_at, draft_from, draft_next, draft_last}
use Rattle.codes.proofs.message.Draft.columns.Goals as goal

-- the first of the columns that are left is stored
stored_next : (π : Projection) (sys : Systematic π) (n s i : ℕ) (t t' : Bool) (a : List ℕ) (v : ℕ) → i < top_bits π → i < length a →
    column_of v ≡ draft_at π n s i (has_bit (top_bits π - 1 - i) n) → t' ≡ has_bit (top_bits π - 1 - i) n ⊻ t →
    map column_of (take (i + 1) (set a i v)) ++ draft_from π n s (i + 1) t' ≡ map column_of (take i a) ++ draft_from π n s i t
stored_next π sys n s i t t' a v h ha ec et =
    let b = has_bit (top_bits π - 1 - i) n in
    rw (add-one i, et, stored_more a i v ha, ec, draft_next π sys n s i t h)
    (append_snoc (map column_of (take i a)) (draft_at π n s i b) (draft_from π n s (suc i) (b ⊻ t)))

-- the last column is stored
stored_last : (π : Projection) (sys : Systematic π) (n s m k i : ℕ) (t : Bool) (a : List ℕ) (v : ℕ) →
    m ≡ suc (top_bits π) → k ≡ top_bits π → i ≡ top_bits π → top_bits π < length a → column_of v ≡ draft_at π n s (top_bits π) t →
    map column_of (take m (set a k v)) ≡ map column_of (take i a) ++ draft_from π n s i t
stored_last π sys n s m k i t a v em ek ei h ec = rw (em, ek, ei, stored_more a (top_bits π) v h, ec, draft_last π sys n s t)

pub loop-i-preserved : goal.loop-i-preserved
loop-i-preserved c =
    let a = c.args in
    let π = projection a.self.code in
    let l = c.loop-i in
    let b = c.has_bit-bit.result in
    let v = c.column_at.result in
    let place : c.columns-last.result - 1 - 1 - l.i ≡ top_bits π - 1 - l.i = omega (arith, c.columns-last.ensures) in
    let eb : b ≡ has_bit (top_bits π - 1 - l.i) a.self.message = rw (place) at c.has_bit-bit.ensures in
    let ec : column_of v ≡ draft_at π a.self.message a.self.syndrome l.i (has_bit (top_bits π - 1 - l.i) a.self.message) =
    rw (parity_bit π a.self.message, eb) at c.column_at.ensures in
    let et : not (beq l.top b) ≡ has_bit (top_bits π - 1 - l.i) a.self.message ⊻ l.top =
    rw (exclusive_or.unequal l.top b, eb) (exclusive_or.comm l.top (has_bit (top_bits π - 1 - l.i) a.self.message)) in
    record {
      room = simp length-set l.invariant.room;
      drafted =
          stored_next π (systematic a.self.code) a.self.message a.self.syndrome l.i l.top _ l.columns v
          (omega (arith, c.columns-last.ensures)) (omega (arith, c.columns-last.ensures, size_le a.self.code)) ec et
          ∙ l.invariant.drafted;
    }

pub returns : goal.returns
returns c =
    let a = c.args in
    let π = projection a.self.code in
    let sys = systematic a.self.code in
    let l = c.loop-i in
    let columns = c.columns-last in
    let v = c.column_at-2.result in
    let last : columns.result - 1 ≡ top_bits π = omega (arith, columns.ensures) in
    let ec : column_of v ≡ draft_at π a.self.message a.self.syndrome (top_bits π) l.top = rw (parity_bit π a.self.message, last) at c.column_at-2.ensures in
    stored_last π sys a.self.message a.self.syndrome (size π) (columns.result - 1) l.i l.top l.columns v
    (omega (arith, sys.some)) last (omega (arith, last)) (omega (arith, size_le a.self.code, sys.some)) ec
    ∙ l.invariant.drafted
