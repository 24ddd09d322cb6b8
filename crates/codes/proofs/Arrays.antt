-- Words and tables in arrays: a word's columns stored from the last to the first, the matrix's columns times each symbol, and a table of a function.
-- The columns of a number are its digits in base 16, so one more is the next quotient's remainder. A number is shifted so that its lowest m
-- columns are the first m of ten; bits beyond the ten are no digits of theirs. The multiples of the matrix's columns stand four by four in the
-- order of the columns and of the symbols, and as four bytes of one number for each column, which is a test of all of them.
use Rattle.std.proofs.Common.{◌≡◌, ℕ, zero, suc, ◌+◌, ◌-◌, ◌*◌, ◌/◌, ◌%◌, ◌^◌, ◌<◌, ◌≤◌, Bool, T, List, [], ◌∷◌, map, length, get_or, take, drop, set, sym, refl, ap, ◌∙◌, ap₂, add-zero, pow-suc, zero-add, arith, pow-add}
use native.Mathlib.Nat.{div-div-eq-div-mul, mul-div-mul_right}
use lib.Pow.{mod-mod-pow}
use Rattle.std.proofs.lemmas.List.{drop-set, take-map}
use Rattle.symbols.specs.Symbol.{Symbol, s0, s1, s2, s3, symbol_of}
use Rattle.symbols.specs.Column.{column_of}
use Rattle.symbols.proofs.Claims.{numbers}
use Rattle.symbols.proofs.Every.{below, at_below, passes, number_discrete, law_below}
use Rattle.codes.specs.Digits.{Digit, symbols, columns, digits, number_of}
use Rattle.codes.specs.Vector.{scale}
use Rattle.codes.specs.Projection.{Projection}
use Rattle.codes.specs.ContractsOfWalk.{multiple, Multiples}
use Rattle.codes.specs.ContractsOfSearch.{all_multiples}
use Rattle.codes.proofs.Digits.{Fit, columns_fit, place_pos, digits_remainder, pow_mul}

-- the columns of a number, stored from the last to the first: one column more, and what is then left of the number
pub unpack_step : (l : List ℕ) (j k n : ℕ) → j < length l → map column_of (drop (j + 1) l) ≡ digits columns k n →
    map column_of (drop j (set l j (n / 16 ^ k % 16))) ≡ digits columns (suc k) n
unpack_step l j k n h e =
    rw (drop-set l j (n / 16 ^ k % 16) h) (ap₂ ◌∷◌ (numbers.columns.modulo (n / 16 ^ k)) e)

pub next_quotient : (k n : ℕ) → n / 16 ^ k / 16 ≡ n / 16 ^ suc k
next_quotient k n = rw (div-div-eq-div-mul n (16 ^ k) 16, pow-suc 16 k)

-- a number shifted by k digits has its own digits above them
digits_shifted : {A : Type 0} (d : Digit A) → Fit d → (m k n : ℕ) → take m (digits d (m + k) (n * d.base ^ k)) ≡ digits d m n
digits_shifted d fit zero k n = refl
digits_shifted d fit (suc m) k n =
    let more : suc m + k ≡ suc (m + k) = omega arith in
    let first : n * d.base ^ k / d.base ^ (m + k) ≡ n / d.base ^ m =
    rw (pow-add d.base m k) (mul-div-mul_right n (d.base ^ m) (place_pos d fit k)) in
    rw more (ap₂ ◌∷◌ (ap d.lowest first) (digits_shifted d fit m k n))

-- a number's lowest m columns, shifted to be the first m of ten
pub aligned : (l : List ℕ) (m n : ℕ) → m ≤ 10 → map column_of l ≡ digits columns 10 ((n * 2 ^ (4 * (10 - m))) % 2 ^ 64) →
    map column_of (take m l) ≡ digits columns m n
aligned l m n hm e =
    let ten : 10 ≡ m + (10 - m) = omega arith in
    let shifted = n * 2 ^ (4 * (10 - m)) in
    let power : shifted ≡ n * 16 ^ (10 - m) = ap (λ b. n * b) (sym (pow_mul 2 4 (10 - m))) in
    let low : digits columns 10 (shifted % 2 ^ 64) ≡ digits columns 10 shifted =
    sym (digits_remainder columns columns_fit 10 (shifted % 2 ^ 64)) ∙ ap (digits columns 10) (mod-mod-pow shifted 24 40)
    ∙ digits_remainder columns columns_fit 10 shifted in
    sym (take-map column_of m l) ∙ ap (take m) (e ∙ low ∙ ap₂ (digits columns) ten power) ∙ digits_shifted columns columns_fit m (10 - m) n

-- the table of the matrix's columns times each symbol
pub length_multiples : (H : List (List Symbol)) → length (all_multiples H) ≡ 4 * length H
length_multiples [] = refl
length_multiples (h ∷ hs) = omega (arith, length_multiples hs)

pub multiple_at : (H : List (List Symbol)) (i v : ℕ) → i < length H → v < 4 →
    get_or (all_multiples H) (4 * i + v) 0 ≡ number_of symbols (scale (symbol_of v) (get_or H i []))
multiple_at [] i v h l = absurd (omega arith)
multiple_at (h ∷ hs) zero v hi hv = first v hv
  where
    first : (v : ℕ) → v < 4 → get_or (all_multiples (h ∷ hs)) (4 * 0 + v) 0 ≡ number_of symbols (scale (symbol_of v) h)
    first zero l = refl
    first (suc zero) l = refl
    first (suc (suc zero)) l = refl
    first (suc (suc (suc zero))) l = refl
    first (suc (suc (suc (suc v)))) l = absurd (omega arith)
multiple_at (h ∷ hs) (suc i) v hi hv =
    let next : 4 * suc i + v ≡ suc (suc (suc (suc (4 * i + v)))) = omega arith in
    rw next (multiple_at hs i v (omega arith) hv)

-- the multiples of column j as the bytes of a number, that by 0 lowest: a test of ten columns and four symbols
abbrev pub multiples_of : Projection → ℕ → ℕ
multiples_of π j = multiple π j s0 + 256 * (multiple π j s1 + 256 * (multiple π j s2 + 256 * multiple π j s3))

abbrev bytes_test : Projection → ℕ → Bool
bytes_test π j = below 4 (λ v. passes (number_discrete (multiples_of π j / 2 ^ (8 * v) % 256) (multiple π j (symbol_of v))))

pub are_multiples : (π : Projection) → T (below 10 (bytes_test π)) → (j : ℕ) → j < 10 → Multiples π j (multiples_of π j)
are_multiples π t j h =
    law_below 4 number_discrete (λ v. multiples_of π j / 2 ^ (8 * v) % 256) (λ v. multiple π j (symbol_of v)) (at_below 10 (bytes_test π) t j h)

-- the table of a function at k numbers from i on
abbrev pub tabulated : {A : Type 0} → ℕ → ℕ → (ℕ → A) → List A
tabulated zero i f = []
tabulated (suc k) i f = f i ∷ tabulated k (suc i) f

tabulated_at : {A : Type 0} (k i : ℕ) (f : ℕ → A) (d : A) (n : ℕ) → n < k → get_or (tabulated k i f) n d ≡ f (i + n)
tabulated_at zero i f d n h = absurd (omega arith)
tabulated_at (suc k) i f d zero h = ap f (sym (add-zero i))
tabulated_at (suc k) i f d (suc n) h =
    let e : suc i + n ≡ i + suc n = omega arith in
    tabulated_at k (suc i) f d n (omega arith) ∙ ap f e

pub table_at : {A : Type 0} (k : ℕ) (f : ℕ → A) (d : A) (n : ℕ) → n < k → get_or (tabulated k 0 f) n d ≡ f n
table_at k f d n h = tabulated_at k 0 f d n h ∙ ap f (zero-add n)
