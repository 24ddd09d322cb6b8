-- Lists of different numbers: one without a number has one entry less where it had that number, and its numbers are the others. A span has the
-- numbers from its first up, each once.
use Rattle.std.proofs.Common.{◌≡◌, ℕ, zero, suc, ◌+◌, ◌<◌, ◌≤◌, Bool, true, false, cond, eqb, List, [], ◌∷◌, length, get_or, refl, ap, ◌∙◌, inl, inr, ⊎_elim, arith, eqb-true}
use borrow.Author.Tests.{eqb-false}
use Rattle.codes.specs.Claims.{Among}
use Rattle.trace.specs.Lists.{span, without}

-- no number stands twice
abbrev pub Distinct : List ℕ → Type 0
Distinct [] = Unit {0}
Distinct (x ∷ xs) = (Among x xs → ⊥) × Distinct xs

-- what stands at an index is among the list
pub get_d_among : (xs : List ℕ) (i : ℕ) → i < length xs → Among (get_or xs i 0) xs
get_d_among [] i h = absurd (omega arith)
get_d_among (x ∷ xs) zero h = inl refl
get_d_among (x ∷ xs) (suc i) h = inr (get_d_among xs i (omega arith))

-- ---- a list without a number

module _ (x : ℕ) where
  pub without_among : (ys : List ℕ) (z : ℕ) → Among z (without x ys) → Among z ys × (x ≡ z → ⊥)
  without_among [] z k = absurd k
  without_among (y ∷ ys) z k = go (eqb x y) refl (without_among ys z) k
    where
      behind : (Among z ys × (x ≡ z → ⊥)) → Among z (y ∷ ys) × (x ≡ z → ⊥)
      behind r = (inr r.0, r.1)

      go : (t : Bool) → eqb x y ≡ t → (Among z (without x ys) → Among z ys × (x ≡ z → ⊥))
          → Among z (cond t (without x ys) (y ∷ without x ys)) → Among z (y ∷ ys) × (x ≡ z → ⊥)
      go true t rest k = behind (rest k)
      go false t rest k = ⊎_elim (λ same. (inl same, λ e. eqb-false x y t (e ∙ same))) (λ k. behind (rest k)) k

  without_same : (ys : List ℕ) → (Among x ys → ⊥) → without x ys ≡ ys
  without_same [] h = refl
  without_same (y ∷ ys) h = go (eqb x y) refl (without_same ys (λ k. h (inr k)))
    where
      go : (t : Bool) → eqb x y ≡ t → without x ys ≡ ys → cond t (without x ys) (y ∷ without x ys) ≡ y ∷ ys
      go true t rest = absurd (h (inl (eqb-true x y t)))
      go false t rest = ap (◌∷◌ y) rest

  pub without_distinct : (ys : List ℕ) → Distinct ys → Distinct (without x ys)
  without_distinct [] d = tt
  without_distinct (y ∷ ys) d = go (eqb x y) (without_distinct ys d.1)
    where
      go : (t : Bool) → Distinct (without x ys) → Distinct (cond t (without x ys) (y ∷ without x ys))
      go true rest = rest
      go false rest = (λ k. d.0 (without_among ys y k).0, rest)

  pub without_length : (ys : List ℕ) → Distinct ys → Among x ys → suc (length (without x ys)) ≡ length ys
  without_length [] d k = absurd k
  without_length (y ∷ ys) d k = go (eqb x y) refl (without_length ys d.1)
    where
      go : (t : Bool) → eqb x y ≡ t → (Among x ys → suc (length (without x ys)) ≡ length ys)
          → suc (length (cond t (without x ys) (y ∷ without x ys))) ≡ suc (length ys)
      go true t rest = ap (λ l. suc (length l)) (without_same ys (λ k. d.0 (rw (eqb-true x y t) at k)))
      go false t rest = ap suc (rest (⊎_elim (λ same. absurd (eqb-false x y t same)) (λ k. k) k))

-- ---- a span

pub span_among : (k n x : ℕ) → Among x (span k n) → (k ≤ x) × (x < k + n)
span_among k zero x h = absurd h
span_among k (suc n) x h = ⊎_elim (λ e. (omega arith, omega arith)) (λ h. let r = span_among (suc k) n x h in (omega arith, omega arith)) h

pub span_length : (k n : ℕ) → length (span k n) ≡ n
span_length k zero = refl
span_length k (suc n) = ap suc (span_length (suc k) n)

pub span_distinct : (k n : ℕ) → Distinct (span k n)
span_distinct k zero = tt
span_distinct k (suc n) = (λ h. let r = span_among (suc k) n k h in omega arith, span_distinct (suc k) n)
