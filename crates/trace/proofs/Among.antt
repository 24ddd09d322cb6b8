-- Numbers among lists of numbers: a list within another, and lists that share no number, by computed tests.
use Rattle.std.proofs.Common.{◌≡◌, ℕ, Bool, true, false, not, ◌&&◌, ◌||◌, eqb, List, [], ◌∷◌, refl, inl, inr, ⊎_elim, arith, eq-eqb, eqb-true}
use mathlib.Core.Bool.{and-eq-true_iff}
use borrow.Author.Tests.{not-true}
use Rattle.codes.specs.Claims.{Among}

abbrev pub has : List ℕ → ℕ → Bool
has [] n = false
has (x ∷ xs) n = eqb n x || has xs n

has_among : (xs : List ℕ) (n : ℕ) → has xs n ≡ true → Among n xs
has_among [] n e = let z : ◌≡◌ {A = ℕ} 0 1 = cc in absurd (omega arith)
has_among (x ∷ xs) n e = go (eqb n x) refl e (has_among xs n)
  where
    go : (t : Bool) → eqb n x ≡ t → t || has xs n ≡ true → (has xs n ≡ true → Among n xs) → Among n (x ∷ xs)
    go true t e rest = inl (eqb-true n x t)
    go false t e rest = inr (rest e)

among_has : (xs : List ℕ) (n : ℕ) → Among n xs → has xs n ≡ true
among_has [] n k = absurd k
among_has (x ∷ xs) n k = ⊎_elim (λ e. simp (eq-eqb n x e)) (λ k. go (eqb n x) (among_has xs n k)) k
  where
    go : (t : Bool) → has xs n ≡ true → t || has xs n ≡ true
    go true e = refl
    go false e = e

-- a test that each number of a list passes
abbrev pub each : (ℕ → Bool) → List ℕ → Bool
each f [] = true
each f (x ∷ xs) = f x && each f xs

passed : (f : ℕ → Bool) (xs : List ℕ) (n : ℕ) → each f xs ≡ true → Among n xs → f n ≡ true
passed f [] n e k = absurd k
passed f (x ∷ xs) n e k =
    let both = (and-eq-true_iff (f x) (each f xs)).0 e in
    ⊎_elim (λ same. rw same both.0) (passed f xs n both.1) k

pub among_within : (xs ys : List ℕ) → each (has ys) xs ≡ true → (n : ℕ) → Among n xs → Among n ys
among_within xs ys e n k = has_among ys n (passed (has ys) xs n e k)

pub among_apart : (xs ys : List ℕ) → each (λ n. not (has ys n)) xs ≡ true → (n : ℕ) → Among n xs → Among n ys → ⊥
among_apart xs ys e n k l =
    let out = not-true (has ys n) (passed (λ n. not (has ys n)) xs n e k) in
    let there = among_has ys n l in
    let z : ◌≡◌ {A = ℕ} 0 1 = cc in
    omega arith
