-- Two different codewords of one code differ in at least eight positions.
-- Their sum is a codeword. Where its columns are odd, each has a one, so eight columns make eight ones. Where they are even, a column
-- whose value isn't 0 has two ones. So four such columns make eight ones; and with fewer all values are 0, since no three columns of the
-- matrix are dependent. Then each column is empty or full, and the top rule shuts out exactly one full column.
-- Of the code this takes a computed test of its matrix, and that odd codewords have eight ones (`Apart`).
use Rattle.std.proofs.Common.{◌≡◌, ℕ, ◌+◌, ◌-◌, ◌*◌, ◌≤◌, Bool, true, false, not, ◌&&◌, ◌||◌, T, leb, List, [], ◌∷◌, map, length, sym, refl, ap, ◌∙◌, subst, ap₂, arith, le-leb}
use mathlib.Core.Bool.{and-eq-true_iff, and-true, and_assoc}
use lib.ListN.{length-map}
use Rattle.symbols.specs.Symbol.{◌⊻◌, Symbol, is_zero}
use Rattle.symbols.specs.Column.{Column, value, top, one}
use Rattle.symbols.proofs.Every.{symbols, implies}
use Rattle.symbols.proofs.Claims.{weights}
use Rattle.codes.specs.Vector.{zeros, add_v, scale, is_zero_v}
use Rattle.codes.specs.Projection.{Projection, size, count}
use Rattle.codes.specs.Word.{◌⊞◌, syndrome, syndrome_of, all_parity, top_row, weight_of, distance}
use Rattle.codes.proofs.Vectors.{add_v_assoc, add_zero_vector, zeros_zero}
use Rattle.codes.proofs.Words.{Codeword, codeword_sum, wanted_even, length_sum, parity_first, parity_rest, count_cons}

-- a value that is not 0 is live, and so is a column that has it: the number of live values
abbrev is_live : Symbol → ℕ
is_live v = one (not (is_zero v))

abbrev pub live : List Symbol → ℕ
live [] = 0
live (v ∷ vs) = is_live v + live vs

-- a test of a matrix: every choice of values, at most k of them live, whose syndrome added to s is zero, is all zeros, and z is true.
-- With s zero and z true it says that no k columns are dependent
abbrev pub only_zeros : List (List Symbol) → ℕ → List Symbol → Bool → Bool
only_zeros [] k s z = not (is_zero_v s) || z
only_zeros (h ∷ hs) k s z =
    symbols.all (λ v.
    let rest = only_zeros hs (k - is_live v) (add_v s (scale v h)) (z && is_zero v) in
    not (leb (is_live v) k) || rest)

test_true : (b : Bool) → T b → b ≡ true
test_true true t = refl
test_true false t = absurd t

only_zeros_lem : (r : ℕ) (H : List (List Symbol)) (k : ℕ) (s : List Symbol) (z : Bool) → T (only_zeros H k s z) →
    (vs : List Symbol) → length vs ≡ length H → live vs ≤ k → is_zero_v (add_v s (syndrome r H vs)) ≡ true → T (z && is_zero_v vs)
only_zeros_lem r [] k s z f [] e l i = subst T (sym (and-true z)) (implies (is_zero_v s) z f (sym (add_zero_vector s (zeros r) (zeros_zero r)) ∙ i))
only_zeros_lem r [] k s z f (v ∷ vs) e l i = absurd (omega arith)
only_zeros_lem r (h ∷ H) k s z f [] e l i = absurd (omega arith)
only_zeros_lem r (h ∷ H) k s z f (v ∷ vs) e l i =
    subst T (and_assoc z (is_zero v) (is_zero_v vs))
    (only_zeros_lem r H (k - is_live v) (add_v s (scale v h)) (z && is_zero v)
    (implies (leb (is_live v) k) (only_zeros H (k - is_live v) (add_v s (scale v h)) (z && is_zero v))
    (symbols.at (λ v. not (leb (is_live v) k) || only_zeros H (k - is_live v) (add_v s (scale v h)) (z && is_zero v)) f v)
    (le-leb (is_live v) k (omega arith)))
    vs (omega arith) (omega arith)
    (rw (add_v_assoc s (scale v h) (syndrome r H vs)) i))

-- the ones of a word whose columns all have one parity: at least two for each live column of an even word; four for each top bit
-- of an even word with no live column; at least one for each column of an odd word
pub even_word_weight : (cs : List Column) → all_parity false cs ≡ true → 2 * live (map value cs) ≤ weight_of cs
even_word_weight [] e = omega arith
even_word_weight (c ∷ cs) e = go (is_zero (value c)) refl (even_word_weight cs (parity_rest false c cs e))
  where
    go : (b : Bool) → is_zero (value c) ≡ b → 2 * live (map value cs) ≤ weight_of cs → 2 * live (map value (c ∷ cs)) ≤ weight_of (c ∷ cs)
    go true z h = rw z (omega arith)
    go false z h = rw z (omega (arith, weights.even c (parity_first false c cs e) z))

flat_word_weight : (cs : List Column) → all_parity false cs ≡ true → is_zero_v (map value cs) ≡ true → weight_of cs ≡ 4 * count (map top cs)
flat_word_weight [] e z = refl
flat_word_weight (c ∷ cs) e z =
    let both = (and-eq-true_iff (is_zero (value c)) (is_zero_v (map value cs))).0 z in
    let rest = flat_word_weight cs (parity_rest false c cs e) both.1 in
    omega (arith, weights.flat c (parity_first false c cs e) both.0, count_cons (top c) (map top cs))

odd_word_weight : (cs : List Column) → all_parity true cs ≡ true → length cs ≤ weight_of cs
odd_word_weight [] e = omega arith
odd_word_weight (c ∷ cs) e = omega (arith, weights.odd c (parity_first true c cs e), odd_word_weight cs (parity_rest true c cs e))

-- where the top row has at most one one, its parity says whether it has one
few_step : (t r : Bool) (l : List Bool) → (count l ≤ 1 → one r ≡ count l) → count (t ∷ l) ≤ 1 → one (t ⊻ r) ≡ count (t ∷ l)
few_step false r l f h = f h
few_step true true l f h = absurd (omega (arith, f (omega arith)))
few_step true false l f h = omega arith

few_tops : (cs : List Column) → count (map top cs) ≤ 1 → one (top_row cs) ≡ count (map top cs)
few_tops [] h = refl
few_tops (c ∷ cs) h = few_step (top c) (top_row cs) (map top cs) (few_tops cs) h

-- what a code has to satisfy for its codewords to be eight apart; at eight columns or more its odd codewords do by their length
pub record Apart (π : Projection) : Type 0 where
  pub independent : T (only_zeros π.matrix 3 [] true)
  pub odd : (cs : List Column) → length cs ≡ size π → Codeword π true cs → 8 ≤ weight_of cs

pub apart_by_length : (π : Projection) → T (only_zeros π.matrix 3 [] true) → 8 ≤ size π → Apart π
apart_by_length π f h = record { independent = f; odd = λ cs e k. omega (arith, odd_word_weight cs k.parities) }

-- an even word whose syndrome is zero and that has fewer than eight ones has none, or one full column
pub even_light : (π : Projection) → Apart π → (cs : List Column) → length cs ≡ size π →
    is_zero_v (syndrome_of π cs) ≡ true → all_parity false cs ≡ true → weight_of cs ≤ 7 → weight_of cs ≡ 4 * one (top_row cs)
even_light π a cs e z t h =
    let flat = only_zeros_lem π.rows π.matrix 3 [] true a.independent (map value cs) (length-map cs value ∙ e) (omega (arith, even_word_weight cs t)) z in
    let full = flat_word_weight cs t (test_true (is_zero_v (map value cs)) flat) in
    omega (arith, few_tops cs (omega arith))

-- a codeword with fewer than eight ones has none
pub light : (π : Projection) → Apart π → (p : Bool) (cs : List Column) → length cs ≡ size π → Codeword π p cs →
    weight_of cs ≤ 7 → weight_of cs ≡ 0
light π a true cs e k h = absurd (omega (arith, a.odd cs e k))
light π a false cs e k h = omega (arith, even_light π a cs e k.zero k.parities h, ap one (k.tops ∙ wanted_even π.rule))

-- words of one length that differ nowhere are equal
same_word : (a b : List Column) → length a ≡ length b → distance a b ≡ 0 → a ≡ b
same_word [] [] e z = refl
same_word [] (y ∷ ys) e z = absurd (omega arith)
same_word (x ∷ xs) [] e z = absurd (omega arith)
same_word (x ∷ xs) (y ∷ ys) e z = ap₂ ◌∷◌ (weights.other x y (omega arith)) (same_word xs ys (omega arith) (omega arith))

-- two codewords of one code that differ in at most seven positions are one
pub close_same : (π : Projection) → Apart π → (p q : Bool) (a b : List Column) → length a ≡ size π → length b ≡ size π →
    Codeword π p a → Codeword π q b → distance a b ≤ 7 → a ≡ b
close_same π far p q a b ea eb ka kb h =
    same_word a b (ea ∙ sym eb)
    (light π far (p ⊻ q) (a ⊞ b) (length_sum a b (ea ∙ sym eb) ∙ ea) (codeword_sum π p q a b (ea ∙ sym eb) ka kb) h)
