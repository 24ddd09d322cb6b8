-- What a test says, both ways: a comparison of numbers, and a test that is made of tests. The layers above cite this file.
use Rattle.std.proofs.Common.{◌≡◌, ℕ, ◌<◌, ◌≤◌, Bool, true, false, not, ◌&&◌, ◌||◌, eqb, ltb, leb, ◌⊎◌, ◌↔◌, refl, inl, inr, ⊎_elim, ltb-true, lt-ltb, eq-eqb, eqb-true, le-leb, leb-true}
use mathlib.Core.Bool.{false≢true, and-eq-true_iff}

module _ (a b : ℕ) where
  pub leb_iff : leb a b ≡ true ↔ a ≤ b
  leb_iff = (leb-true a b, le-leb a b)

  pub ltb_iff : ltb a b ≡ true ↔ a < b
  ltb_iff = (ltb-true a b, lt-ltb a b)

  pub eqb_iff : eqb a b ≡ true ↔ a ≡ b
  eqb_iff = (eqb-true a b, eq-eqb a b)

pub not_iff : {P : Type 0} (t : Bool) → (t ≡ true ↔ P) → not t ≡ true ↔ (P → ⊥)
not_iff true says = (λ e p. false≢true e, λ none. absurd (none (says.0 refl)))
not_iff false says = (λ e p. false≢true (says.1 p), λ none. refl)

module _ {P Q : Type 0} where
  pub and_iff : (s t : Bool) → (s ≡ true ↔ P) → (t ≡ true ↔ Q) → s && t ≡ true ↔ P × Q
  and_iff s t first second =
      let both = and-eq-true_iff s t in
      (λ e. (first.0 (both.0 e).0, second.0 (both.0 e).1), λ k. both.1 (first.1 k.0, second.1 k.1))

  pub or_iff : (s t : Bool) → (s ≡ true ↔ P) → (t ≡ true ↔ Q) → s || t ≡ true ↔ P ⊎ Q
  or_iff true t first second = (λ e. inl (first.0 refl), λ k. refl)
  or_iff false t first second = (λ e. inr (second.0 e), λ k. ⊎_elim (λ p. absurd (false≢true (first.1 p))) second.1 k)
