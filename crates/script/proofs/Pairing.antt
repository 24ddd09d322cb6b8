-- Bytes in hexadecimal, one by one: blanks in front are nothing, and then two digits stand, or what can't be read.
use Rattle.std.proofs.Common.{◌≡◌, Bool, true, false, cond, Option, Some, None, List, [], ◌∷◌, ℕ, ◌≤◌, ◌<◌, length, get_or, take, drop, ◌-◌, length-drop, refl, sym, ap, ◌∙◌, arith}
use Rattle.script.specs.Script.{is_blank, skip_blanks, hex_byte, number_on, hex_bytes}
use Rattle.std.proofs.lemmas.List.{take_all}
use Rattle.script.specs.ContractsOfSteps.{pairs, all_of}
use Rattle.script.proofs.Walks.{all_front}

pub all_pairs : (l : List ℕ) → all_of (pairs l) ≡ hex_bytes l
all_pairs [] = refl
all_pairs (c ∷ []) = go (is_blank c)
  where
    go : (blank : Bool) → all_of {A = ℕ} (cond blank [] (None ∷ [])) ≡ cond blank (Some []) None
    go true = refl
    go false = refl
all_pairs (c ∷ (d ∷ cs)) = go (is_blank c) (all_pairs (d ∷ cs)) (all_pairs cs)
  where
    go : (blank : Bool) → all_of (pairs (d ∷ cs)) ≡ hex_bytes (d ∷ cs) → all_of (pairs cs) ≡ hex_bytes cs
        → all_of (cond blank (pairs (d ∷ cs)) (hex_byte c d ∷ pairs cs)) ≡ cond blank (hex_bytes (d ∷ cs)) (number_on (hex_byte c d) (hex_bytes cs))
    go true e f = e
    go false e f = all_front (hex_byte c d) (pairs cs) ∙ ap (number_on (hex_byte c d)) f

-- no blank stands in front
abbrev Starts : List ℕ → Type 0
Starts [] = Unit {0}
Starts (c ∷ cs) = is_blank c ≡ false

starts : (l : List ℕ) → Starts (skip_blanks l)
starts [] = tt
starts (c ∷ cs) = go (is_blank c) refl (starts cs)
  where
    go : (t : Bool) → is_blank c ≡ t → Starts (skip_blanks cs) → Starts (cond t (skip_blanks cs) (c ∷ cs))
    go true e s = s
    go false e s = e

pairs_skip : (l : List ℕ) → pairs (skip_blanks l) ≡ pairs l
pairs_skip [] = refl
pairs_skip (c ∷ []) = go (is_blank c) refl
  where
    go : (t : Bool) → is_blank c ≡ t → pairs (cond t [] (c ∷ [])) ≡ cond t [] (None ∷ [])
    go true e = refl
    go false e = rw e
pairs_skip (c ∷ (d ∷ cs)) = go (is_blank c) refl (pairs_skip (d ∷ cs))
  where
    go : (t : Bool) → is_blank c ≡ t → pairs (skip_blanks (d ∷ cs)) ≡ pairs (d ∷ cs)
        → pairs (cond t (skip_blanks (d ∷ cs)) (c ∷ (d ∷ cs))) ≡ cond t (pairs (d ∷ cs)) (hex_byte c d ∷ pairs cs)
    go true e more = more
    go false e more = rw e

-- a text in which no blank stands in front
two : (t : List ℕ) → Starts t → 2 ≤ length t → pairs t ≡ hex_byte (get_or t 0 0) (get_or t 1 0) ∷ pairs (drop 2 t)
two [] s h = absurd (omega arith)
two (c ∷ []) s h = absurd (omega arith)
two (c ∷ (d ∷ cs)) s h = rw s

one : (t : List ℕ) → Starts t → 1 ≤ length t → (2 ≤ length t → ⊥) → pairs t ≡ None ∷ pairs (drop 1 t)
one [] s h less = absurd (omega arith)
one (c ∷ []) s h less = rw s
one (c ∷ (d ∷ cs)) s h less = absurd (less (omega arith))

-- what stands behind the first items of a list
behind : (n : ℕ) (t : List ℕ) → take (length t - n) (drop n t) ≡ drop n t
behind n t = take_all (length t - n) (drop n t) (omega (arith, length-drop n t))

-- the text that is left of another without the blanks in front
module _ (l t : List ℕ) (skip : t ≡ skip_blanks l) where
  same : pairs l ≡ pairs t
  same = sym (ap pairs skip ∙ pairs_skip l)

  pub pairs_two : 2 ≤ length t → pairs l ≡ hex_byte (get_or t 0 0) (get_or t 1 0) ∷ pairs (take (length t - 2) (drop 2 t))
  pairs_two h = rw (behind 2 t) (same ∙ two t (rw skip (starts l)) h)

  pub pairs_one : 1 ≤ length t → length t < 2 → pairs l ≡ None ∷ pairs (take (length t - 1) (drop 1 t))
  pairs_one h less = rw (behind 1 t) (same ∙ one t (rw skip (starts l)) h (λ more. omega arith))

  pub pairs_none : length t < 1 → (pairs l ≡ []) × (pairs t ≡ [])
  pairs_none h = let none = empty t h in (same ∙ none, none)
    where
      empty : (t : List ℕ) → length t < 1 → pairs t ≡ []
      empty [] h = refl
      empty (c ∷ cs) h = absurd (omega arith)

pub length-pairs : (l : List ℕ) → length (pairs l) ≤ length l
length-pairs [] = omega arith
length-pairs (c ∷ []) = go (is_blank c)
  where
    go : (t : Bool) → length {A = Option ℕ} (cond t [] (None ∷ [])) ≤ length (c ∷ [])
    go true = omega arith
    go false = omega arith
length-pairs (c ∷ (d ∷ cs)) = go (is_blank c) (length-pairs (d ∷ cs)) (length-pairs cs)
  where
    go : (t : Bool) → length (pairs (d ∷ cs)) ≤ length (d ∷ cs) → length (pairs cs) ≤ length cs
        → length (cond t (pairs (d ∷ cs)) (hex_byte c d ∷ pairs cs)) ≤ length (c ∷ (d ∷ cs))
    go true h k = omega arith
    go false h k = omega arith
