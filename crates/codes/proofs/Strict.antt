-- Strict reading: whether a word is a codeword, by what the walk over its columns hands on.
-- The syndrome is zero just where its number is 0. All columns have a parity just where none lacks it, which is where the mask of those that do
-- is 0. Columns of one parity have the first one's, and its parity is the lowest bit of the parities; so a word is a codeword just where it is
-- one of that parity, and what the walk hands on decides each part of that.
use Rattle.std.proofs.Common.{◌≡◌, ℕ, ◌+◌, ◌*◌, ◌<◌, Bool, true, false, not, ◌&&◌, ◌||◌, eqb, List, [], ◌∷◌, map, length, sym, refl, ◌∙◌, arith, eq-eqb, ne_eqb, eqb-true}
use mathlib.Core.Bool.{beq, Bool-discrete, false≢true, or-false}
use borrow.Author.Tests.{eqb-false}
use Rattle.symbols.specs.Symbol.{◌⊻◌, Symbol, has_bit}
use Rattle.symbols.specs.Column.{Column, parity, one}
use Rattle.symbols.proofs.Every.{bits, ◌⊗◌, law}
use Rattle.codes.specs.declared.code.Code.{Code}
use Rattle.codes.specs.declared.word.Walk.{Walk}
use Rattle.codes.specs.Digits.{symbols, number_of, mask}
use Rattle.codes.specs.Vector.{is_zero_v}
use Rattle.codes.specs.Projection.{Projection, wanted}
use Rattle.codes.specs.Word.{word, syndrome_of, all_parity, top_row, is_codeword_of, is_codeword}
use Rattle.codes.specs.Message.{first_parity}
use Rattle.codes.specs.Codes.{projection}
use Rattle.codes.specs.Claims.{WalkCollects}
use Rattle.codes.proofs.Digits.{symbols_fit, digits_again}
use Rattle.codes.proofs.Vectors.{zeros_zero}
use Rattle.codes.proofs.Words.{length_word}
use Rattle.codes.proofs.Sums.{digits_zero, zero_number}
use Rattle.codes.proofs.Masks.{mask_bit}
use Rattle.codes.proofs.Codes.{systematic}

-- a vector is zero just where its number is
zero_by_number : (x : List Symbol) → is_zero_v x ≡ eqb (number_of symbols x) 0
zero_by_number x = go (is_zero_v x) refl
  where
    go : (b : Bool) → is_zero_v x ≡ b → b ≡ eqb (number_of symbols x) 0
    go true e = sym (eq-eqb (number_of symbols x) 0 (zero_number x e))
    go false e =
        sym (ne_eqb (number_of symbols x) 0 (λ (z : number_of symbols x ≡ 0).
        let same = digits_again symbols symbols_fit (length x) x refl in
        false≢true (sym e ∙ rw (← same, z, digits_zero (length x)) (zeros_zero (length x)))))

-- all columns have a parity just where the mask of those that lack it is 0
mask_cons_zero : (b : Bool) (m : ℕ) → eqb (m * 2 + one b) 0 ≡ (not b && eqb m 0)
mask_cons_zero true m = ne_eqb (m * 2 + 1) 0 (λ (z : m * 2 + 1 ≡ 0). omega arith)
mask_cons_zero false m = go (eqb m 0) refl
  where
    go : (b : Bool) → eqb m 0 ≡ b → eqb (m * 2 + 0) 0 ≡ b
    go true e = eq-eqb (m * 2 + 0) 0 (omega (arith, eqb-true m 0 e))
    go false e = ne_eqb (m * 2 + 0) 0 (λ (z : m * 2 + 0 ≡ 0). eqb-false m 0 e (omega arith))

beq_not_xor : (a p : Bool) → beq a p ≡ not (p ⊻ a)
beq_not_xor a p = law (bits ⊗ bits) Bool-discrete (λ (a, p). beq a p) (λ (a, p). not (p ⊻ a)) tt (a, p)

parity_by_mask : (p : Bool) (cs : List Column) → all_parity p cs ≡ eqb (mask (map (λ b. p ⊻ b) (map parity cs))) 0
parity_by_mask p [] = refl
parity_by_mask p (c ∷ cs) =
    rw (beq_not_xor (parity c) p, parity_by_mask p cs, mask_cons_zero (p ⊻ parity c) (mask (map (λ b. p ⊻ b) (map parity cs))))

-- the first column's parity is the lowest bit of all parities
pub first_parity_lem : (cs : List Column) → has_bit 0 (mask (map parity cs)) ≡ first_parity cs
first_parity_lem [] = refl
first_parity_lem (c ∷ cs) = mask_bit (map parity (c ∷ cs)) 0

-- a word with a column is a codeword just where it is one of the first column's parity
of_first : (π : Projection) (cs : List Column) → 0 < length cs → is_codeword π cs ≡ is_codeword_of π (first_parity cs) cs
unfolding is_codeword
of_first π [] h = absurd (omega arith)
of_first π (c ∷ cs) h = go (is_zero_v (syndrome_of π (c ∷ cs))) (parity c)
  where
    go : (z p : Bool) →
        z && (beq p false && all_parity false cs && beq (top_row (c ∷ cs)) (wanted π.rule false))
        || z && (beq p true && all_parity true cs && beq (top_row (c ∷ cs)) (wanted π.rule true))
        ≡ z && (beq p p && all_parity p cs && beq (top_row (c ∷ cs)) (wanted π.rule p))
    go false p = refl
    go true true = refl
    go true false = or-false (all_parity false cs && beq (top_row (c ∷ cs)) (wanted π.rule false))

-- whether a word that was walked is a codeword
pub walked_codeword : (c : Code) (w : ℕ) (walk : Walk) → WalkCollects c w walk →
    is_codeword (projection c) (word (projection c) w)
    ≡ eqb walk.syndrome 0
    && (eqb (mask (map (λ b. has_bit 0 walk.parities ⊻ b) (map parity (word (projection c) w)))) 0
    && beq walk.top (wanted (projection c).rule (has_bit 0 walk.parities)))
walked_codeword c w walk k =
    let π = projection c in
    let cs = word π w in
    let p = first_parity cs in
    let some : 0 < length cs = omega (arith, length_word π w, (systematic c).some) in
    of_first π cs some
    ∙ rw (k.syndrome, k.top, k.parities, first_parity_lem cs, zero_by_number (syndrome_of π cs), parity_by_mask p cs)
