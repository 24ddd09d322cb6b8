-- Each test decides one part of what makes a word a codeword, by what the walk hands on.
use Rattle.std.proofs.Common.{◌≡◌, ℕ, Bool, ◌&&◌, eqb, List, map, length, sym, ap, ◌∙◌, eq-eqb, ne_eqb}
use mathlib.Core.Bool.{beq, false≢true}
use lib.ListN.{length-map}
use Rattle.symbols.specs.Symbol.{◌⊻◌, has_bit}
use Rattle.symbols.specs.Column.{parity}
use Rattle.codes.specs.declared.code.Code.{Code}
use Rattle.codes.specs.declared.word.Walk.{Walk}
use Rattle.codes.specs.Claims.{WalkCollects}
use Rattle.codes.specs.Digits.{mask}
use Rattle.codes.specs.Projection.{wanted, size}
use Rattle.codes.specs.Word.{word, is_codeword}
use Rattle.codes.specs.Codes.{projection}
use Rattle.codes.proofs.Strict.{walked_codeword}
use Rattle.codes.proofs.Words.{length_word}
use Rattle.codes.proofs.calls.is_codeword.Goals as goal
use Rattle.codes.proofs.calls.is_codeword.Goals.{then-walk-eq0, else-walk-eq0}

-- the three tests
by_tests : (code : Code) (w : ℕ) (walk : Walk) → WalkCollects code w walk → {odd : Bool} → odd ≡ has_bit 0 walk.parities → {d : ℕ} →
    ((l : List Bool) → length l ≡ size (projection code) → walk.parities ≡ mask l → d ≡ mask (map (λ b. odd ⊻ b) l)) →
    is_codeword (projection code) (word (projection code) w)
    ≡ eqb walk.syndrome 0 && (eqb d 0 && beq walk.top (wanted (projection code).rule odd))
by_tests code w walk k {odd} first {d} lacks =
    let cs = word (projection code) w in
    let lacking = lacks (map parity cs) (length-map cs parity ∙ length_word (projection code) w) k.parities in
    walked_codeword code w walk k ∙ rw (← first, ← lacking)

pub returns-then-lacking-eq0 : goal.returns-then-lacking-eq0
returns-then-lacking-eq0 c w k =
    let a = c.args in
    elim c.if-walk-eq0.branch [
      | then-walk-eq0 b ↦
          ap (beq a.walk.top) c.top_parity.ensures
          ∙ sym (by_tests a.code w a.walk k c.is_first_odd-odd.ensures b.lacking.ensures
          ∙ rw (eq-eqb a.walk.syndrome 0 b.if-walk-eq0.true, sym b.value-is ∙ c.if-lacking-eq0.true))
      | else-walk-eq0 b ↦ absurd (false≢true (sym (ne_eqb a.walk.syndrome 0 b.if-walk-eq0.false) ∙ sym b.value-is ∙ c.if-lacking-eq0.true))
    ]

pub returns-else-lacking-eq0 : goal.returns-else-lacking-eq0
returns-else-lacking-eq0 c w k =
    let a = c.args in
    elim c.if-walk-eq0.branch [
      | then-walk-eq0 b ↦
          c.if-lacking-eq0.false
          ∙ sym (by_tests a.code w a.walk k c.is_first_odd-odd.ensures b.lacking.ensures
          ∙ rw (eq-eqb a.walk.syndrome 0 b.if-walk-eq0.true, sym b.value-is ∙ c.if-lacking-eq0.false))
      | else-walk-eq0 b ↦ c.if-lacking-eq0.false ∙ sym (walked_codeword a.code w a.walk k ∙ rw (ne_eqb a.walk.syndrome 0 b.if-walk-eq0.false))
    ]
