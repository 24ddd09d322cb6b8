-- What a word's parities and syndrome say of its difference from a codeword.
-- A column of another parity than the codeword's differs in a position. The difference's syndrome is the word's, so where no choice of at
-- most l live values has that syndrome, the difference has more than l live columns: where all its columns are even, each of these has two ones.
use Rattle.std.proofs.Common.{◌≡◌, ℕ, ◌+◌, ◌*◌, ◌≤◌, Bool, true, false, not, List, [], ◌∷◌, map, length, sym, refl, ◌∙◌, arith}
use Rattle.symbols.specs.Symbol.{◌⊻◌, Symbol}
use Rattle.symbols.specs.Column.{Column, value, parity, one, weight, ◌⊕◌}
use Rattle.symbols.proofs.Claims.{weights}
use Rattle.codes.specs.Vector.{add_v, is_zero_v}
use Rattle.codes.specs.Projection.{Projection, count, size}
use Rattle.codes.specs.Word.{◌⊞◌, syndrome, syndrome_of, all_parity, distance}
use Rattle.codes.specs.ContractsOfSearch.{lacking}
use Rattle.codes.proofs.Vectors.{add_v_assoc, add_zero_vector, add_v_self}
use Rattle.codes.proofs.Words.{syndrome_sum, parity_first, parity_rest, parity_cons, count_cons}
use Rattle.codes.proofs.Distance.{live, even_word_weight}

-- the number of columns that lack parity p
abbrev pub lacks : Bool → List Column → ℕ
lacks p cs = count (lacking p cs)

-- a column, and a word, differs from one that has the parity in at least as many positions as columns lack it
lacks_weight : (p : Bool) (x y : Column) → parity y ≡ p → one (p ⊻ parity x) ≤ weight (x ⊕ y)
lacks_weight p x y e = rw (← e) (weights.differ y x)

pub lacks_distance : (p : Bool) (f c : List Column) → length f ≡ length c → all_parity p c ≡ true → lacks p f ≤ distance f c
lacks_distance p [] c e t = omega arith
lacks_distance p (x ∷ xs) [] e t = absurd (omega arith)
lacks_distance p (x ∷ xs) (y ∷ ys) e t =
    omega (
      arith,
      count_cons (p ⊻ parity x) (map (λ c. p ⊻ parity c) xs),
      lacks_weight p x y (parity_first p y ys t),
      lacks_distance p xs ys (omega arith) (parity_rest p y ys t),
    )

-- each column lacks one of the parities; where none lacks a parity, all have it
pub lacks_both : (cs : List Column) → lacks true cs + lacks false cs ≡ length cs
lacks_both [] = refl
lacks_both (c ∷ cs) =
    omega (
      arith,
      lacks_both cs,
      count_cons (not (parity c)) (map (λ c. not (parity c)) cs),
      count_cons (parity c) (map parity cs),
      one_either (parity c),
    )
  where
    one_either : (b : Bool) → one (not b) + one b ≡ 1
    one_either true = refl
    one_either false = refl

pub lacks_none : (p : Bool) (cs : List Column) → lacks p cs ≡ 0 → all_parity p cs ≡ true
lacks_none p [] e = refl
lacks_none p (c ∷ cs) e =
    let h = count_cons (p ⊻ parity c) (map (λ c. p ⊻ parity c) cs) in
    parity_cons p c cs (agree p (parity c) (omega arith)) (lacks_none p cs (omega arith))
  where
    agree : (p q : Bool) → one (p ⊻ q) ≡ 0 → q ≡ p
    agree true true z = refl
    agree true false z = absurd (omega arith)
    agree false true z = absurd (omega arith)
    agree false false z = refl

-- no choice of a code's values, at most l of them live, has the syndrome s
abbrev pub Unmade : Projection → ℕ → List Symbol → Type 0
Unmade π l s = (vs : List Symbol) → live vs ≤ l → is_zero_v (add_v s (syndrome π.rows π.matrix vs)) ≡ true → ⊥

-- f is a word with such a syndrome, and c one with syndrome zero
module _ (π : Projection) (l : ℕ) (s : List Symbol) (unmade : Unmade π l s) (f c : List Column)
    (known : s ≡ syndrome_of π f) (no_syndrome : is_zero_v (syndrome_of π c) ≡ true) (ef : length f ≡ size π) (ec : length c ≡ size π) where
  none_live : live (map value (f ⊞ c)) ≤ l → ⊥
  none_live h =
      let e : length f ≡ length c = ef ∙ sym ec in
      let a = syndrome_of π f in
      let b = syndrome_of π c in
      unmade (map value (f ⊞ c)) h
      (rw (known, syndrome_sum π f c e, ← add_v_assoc a a b) (add_zero_vector (add_v a a) b no_syndrome ∙ add_v_self a))

  -- where the difference is even, each live column has two ones
  pub none_even : all_parity false (f ⊞ c) ≡ true → distance f c ≤ 2 * l + 1 → ⊥
  none_even t h = none_live (omega (arith, even_word_weight (f ⊞ c) t))
