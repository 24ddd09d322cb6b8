-- Laws over finite types: bits, symbols, columns, tuples of them, and the numbers below a bound.
-- A test is computed at every value of the type; that it passes everywhere is then its own proof, `tt`, and `at`, `law`, `law_le` or `implied`
-- makes of it the fact at one value. Several variables are a tuple: `bits ⊗ symbols ⊗ columns`.
use mathlib.Core.Path.{◌≡◌, refl}
use mathlib.Core.Bool.{Bool, true, false, not, ◌&&◌, ◌||◌}
use mathlib.Core.Logic.{⊎_elim}
use Prim.Native.Nat.{ℕ, zero, suc, ◌≤◌, ◌<◌}
use native.Mathlib.Nat.{le_of_suc-le-suc, eq-or-lt_of_le, not-suc-le-zero}
use lib.Dec.{T, leb, leb→le, eqb}
use borrow.Author.Tests.{eqb-true, eqb-false}
use Rattle.symbols.specs.Symbol.{Symbol, s0, s1, s2, s3}
use Rattle.symbols.specs.Column.{Column, column}

pub and_left : (a b : Bool) → T (a && b) → T a
and_left true b t = tt
and_left false b t = t

pub and_right : (a b : Bool) → T (a && b) → T b
and_right true b t = t
and_right false b t = absurd t

-- a test at every value of a type, and what it says at one
pub record Every (A : Type 0) : Type 1 where
  pub all : (A → Bool) → Bool
  pub at : (f : A → Bool) → T (all f) → (a : A) → T (f a)

pub at_bit : (f : Bool → Bool) → T (f false && f true) → (b : Bool) → T (f b)
at_bit f t false = and_left (f false) (f true) t
at_bit f t true = and_right (f false) (f true) t

abbrev pub bits : Every Bool
bits = record { all = λ f. f false && f true; at = at_bit }

pub at_pair : {A B : Type 0} (p : Every A) (q : Every B) (f : A × B → Bool) → T (p.all (λ a. q.all (λ b. f (a, b)))) → (x : A × B) → T (f x)
at_pair p q f t x = q.at (λ b. f (x.0, b)) (p.at (λ a. q.all (λ b. f (a, b))) t x.0) x.1

infixr 60 ◌⊗◌
abbrev pub ◌⊗◌ : {A B : Type 0} → Every A → Every B → Every (A × B)
p ⊗ q = record { all = λ f. p.all (λ a. q.all (λ b. f (a, b))); at = at_pair p q }

pub at_symbol : (f : Symbol → Bool) → T (f s0 && (f s1 && (f s2 && f s3))) → (s : Symbol) → T (f s)
at_symbol f t s0 = and_left (f s0) _ t
at_symbol f t s1 = and_left (f s1) _ (and_right (f s0) _ t)
at_symbol f t s2 = and_left (f s2) _ (and_right (f s1) _ (and_right (f s0) _ t))
at_symbol f t s3 = and_right (f s2) _ (and_right (f s1) _ (and_right (f s0) _ t))

abbrev pub symbols : Every Symbol
symbols = record { all = λ f. f s0 && (f s1 && (f s2 && f s3)); at = at_symbol }

abbrev pub all_columns : (Column → Bool) → Bool
all_columns f = (bits ⊗ bits ⊗ bits ⊗ bits).all (λ (a, (b, (c, d))). f (column a b c d))

pub at_column : (f : Column → Bool) → T (all_columns f) → (c : Column) → T (f c)
at_column f t (column a b c d) = (bits ⊗ bits ⊗ bits ⊗ bits).at (λ (a, (b, (c, d))). f (column a b c d)) t (a, (b, (c, d)))

abbrev pub columns : Every Column
columns = record { all = all_columns; at = at_column }

-- a test at every number below a bound
abbrev pub below : ℕ → (ℕ → Bool) → Bool
below zero f = true
below (suc n) f = f n && below n f

pub at_below : (n : ℕ) (f : ℕ → Bool) → T (below n f) → (k : ℕ) → k < n → T (f k)
at_below zero f t k h = absurd (not-suc-le-zero h)
at_below (suc n) f t k h =
    ⊎_elim (λ e. rw e (and_left (f n) (below n f) t))
    (λ l. at_below n f (and_right (f n) (below n f) t) k l) (eq-or-lt_of_le (le_of_suc-le-suc h))

-- a decided statement as a test
abbrev pub passes : {A : Type 0} → Dec A → Bool
passes (yes a) = true
passes (no f) = false

pub passed : {A : Type 0} (d : Dec A) → T (passes d) → A
passed (yes a) t = a
passed (no f) t = absurd t

abbrev decided : (m n : ℕ) (b : Bool) → eqb m n ≡ b → Dec (m ≡ n)
decided m n true e = yes (eqb-true m n e)
decided m n false e = no (eqb-false m n e)

abbrev pub number_discrete : Discrete ℕ
number_discrete m n = decided m n (eqb m n) refl

-- two functions that agree at every value, one that is at most another at every value, and two that agree
-- below a bound, at a number or at two
pub law : {A B : Type 0} (p : Every A) (d : Discrete B) (f g : A → B) → T (p.all (λ a. passes (d (f a) (g a)))) → (a : A) → f a ≡ g a
law p d f g t a = passed (d (f a) (g a)) (p.at (λ a. passes (d (f a) (g a))) t a)

pub law_le : {A : Type 0} (p : Every A) (f g : A → ℕ) → T (p.all (λ a. leb (f a) (g a))) → (a : A) → f a ≤ g a
law_le p f g t a = leb→le (f a) (g a) (p.at (λ a. leb (f a) (g a)) t a)

pub law_below : {B : Type 0} (n : ℕ) (d : Discrete B) (f g : ℕ → B) → T (below n (λ k. passes (d (f k) (g k)))) → (k : ℕ) → k < n → f k ≡ g k
law_below n d f g t k h = passed (d (f k) (g k)) (at_below n (λ k. passes (d (f k) (g k))) t k h)

pub law_below_both : {B : Type 0} (n : ℕ) (d : Discrete B) (f g : ℕ → ℕ → B) →
    T (below n (λ j. below n (λ k. passes (d (f j k) (g j k))))) → (j k : ℕ) → j < n → k < n → f j k ≡ g j k
law_below_both n d f g t j k hj hk =
    law_below n d (f j) (g j) (at_below n (λ j. below n (λ k. passes (d (f j k) (g j k)))) t j hj) k hk

-- where a test that is an implication passes; one that passes at every value of a type; two functions that agree where a test passes
pub implies : (a b : Bool) → T (not a || b) → a ≡ true → T b
implies a b t e = rw (e) at t

pub implied : {A : Type 0} (p : Every A) (f g : A → Bool) → T (p.all (λ a. not (f a) || g a)) → (a : A) → f a ≡ true → T (g a)
implied p f g t a e = implies (f a) (g a) (p.at (λ a. not (f a) || g a) t a) e

pub law_where : {A B : Type 0} (p : Every A) (d : Discrete B) (h : A → Bool) (f g : A → B) →
    T (p.all (λ a. not (h a) || passes (d (f a) (g a)))) → (a : A) → h a ≡ true → f a ≡ g a
law_where p d h f g t a e = passed (d (f a) (g a)) (implied p h (λ a. passes (d (f a) (g a))) t a e)
