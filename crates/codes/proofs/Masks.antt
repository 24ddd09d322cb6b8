-- Masks: some of a word's columns, as the bits of a number, the first column's lowest.
-- The zeros below the lowest one of a mask count the place of the first column, and the mask and the number before it have all bits but that
-- one in common. A mask of bits and that of the other bits make up all ones. The columns that lack a parity are the odd ones, or the others.
-- Halving a mask leaves that of the columns behind the first, so bit j is that of column j, counted from 0.
use Rattle.std.proofs.Common.{◌≡◌, ℕ, zero, suc, ◌+◌, ◌-◌, ◌*◌, ◌/◌, ◌%◌, ◌^◌, ◌<◌, ◌≤◌, min, Bool, true, false, not, eqb, ltb, List, [], ◌∷◌, map, length, get_or, sym, refl, ap, ◌∙◌, ap₂, pow-suc, arith, le-ltb, lt-ltb, eqb-true}
use native.Mathlib.Nat.{div-div-eq-div-mul, pow-succ', zero-div}
use borrow.Author.Tests.{eqb-false}
use lib.Bits.{bit_and, and_step, and_self, and_le_l}
use lib.Count.{count_trailing_zeros, under}
use lib.ListN.{length-map}
use Rattle.symbols.specs.Symbol.{◌⊻◌, has_bit}
use Rattle.symbols.specs.Column.{Column, parity, one}
use Rattle.symbols.proofs.Claims.{numbers}
use Rattle.codes.specs.Digits.{mask}
use Rattle.codes.specs.Projection.{Projection, count, size}
use Rattle.codes.specs.ContractsOfSearch.{lacking, first, cleared, SomeSet}

-- a mask is 0 just where no bit is set, and below 2 to the power of the bits
mask_none : (l : List Bool) → count l ≡ 0 → mask l ≡ 0
mask_none [] h = refl
mask_none (true ∷ l) h = absurd (omega arith)
mask_none (false ∷ l) h = omega (arith, mask_none l h)

pub none_set : (l : List Bool) → mask l ≡ 0 → count l ≡ 0
none_set [] h = refl
none_set (true ∷ l) h = absurd (omega arith)
none_set (false ∷ l) h = none_set l (omega arith)

pub mask_lt : (l : List Bool) → mask l < 2 ^ length l
mask_lt [] = omega arith
mask_lt (b ∷ l) = omega (arith, mask_lt l, pow-suc 2 (length l), numbers.bits.small b)

-- one bit fewer is set, if one is
pub count_cleared : (l : List Bool) → count (cleared l) ≡ count l - 1
count_cleared [] = refl
count_cleared (true ∷ l) = omega arith
count_cleared (false ∷ l) = count_cleared l

pub length_cleared : (l : List Bool) → length (cleared l) ≡ length l
length_cleared [] = refl
length_cleared (true ∷ l) = refl
length_cleared (false ∷ l) = ap suc (length_cleared l)

pub first_lt : (l : List Bool) → 0 < count l → first l < length l
first_lt [] h = absurd (omega arith)
first_lt (true ∷ l) h = omega arith
first_lt (false ∷ l) h = omega (arith, first_lt l h)

-- the zeros below the lowest one
pub lowest_first : (k : ℕ) (l : List Bool) → 0 < count l → length l ≤ k → count_trailing_zeros k (mask l) ≡ first l
unfolding count_trailing_zeros
lowest_first k [] h e = absurd (omega arith)
lowest_first zero (b ∷ l) h e = absurd (omega arith)
lowest_first (suc k) (true ∷ l) h e =
    let odd : (mask l * 2 + 1) % 2 ≡ 1 = omega arith in
    ap (λ n. under n (count_trailing_zeros k ((mask l * 2 + 1) / 2))) odd
lowest_first (suc k) (false ∷ l) h e =
    let even : (mask l * 2 + 0) % 2 ≡ 0 = omega arith in
    let half : (mask l * 2 + 0) / 2 ≡ mask l = omega arith in
    ap (λ n. under n (count_trailing_zeros k ((mask l * 2 + 0) / 2))) even ∙ ap (λ n. suc (count_trailing_zeros k n)) half ∙ ap suc (lowest_first k l h (omega arith))

-- the mask without its lowest one
without_first : (l : List Bool) → 0 < count l → bit_and (mask l) (mask l - 1) ≡ mask (cleared l)
without_first [] h = absurd (omega arith)
without_first (true ∷ l) h =
    let m = mask l in
    let a : (m * 2 + 1) / 2 ≡ m = omega arith in
    let b : (m * 2 + 1 - 1) / 2 ≡ m = omega arith in
    let c : (m * 2 + 1) % 2 ≡ 1 = omega arith in
    let d : (m * 2 + 1 - 1) % 2 ≡ 0 = omega arith in
    and_step (m * 2 + 1) (m * 2 + 1 - 1) ∙ ap₂ (λ x y. x * 2 + y) (ap₂ bit_and a b ∙ and_self m) (ap₂ min c d)
without_first (false ∷ l) h =
    let m = mask l in
    let some : m ≡ 0 → ⊥ = λ e. absurd (omega (arith, none_set l e)) in
    let a : (m * 2 + 0) / 2 ≡ m = omega arith in
    let b : (m * 2 + 0 - 1) / 2 ≡ m - 1 = omega (arith, some) in
    let c : (m * 2 + 0) % 2 ≡ 0 = omega arith in
    let d : (m * 2 + 0 - 1) % 2 ≡ 1 = omega (arith, some) in
    and_step (m * 2 + 0) (m * 2 + 0 - 1) ∙ ap₂ (λ x y. x * 2 + y) (ap₂ bit_and a b ∙ without_first l h) (ap₂ min c d)

-- with no bit set there is nothing to clear
cleared_none : (l : List Bool) → count l ≡ 0 → cleared l ≡ l
cleared_none [] h = refl
cleared_none (true ∷ l) h = absurd (omega arith)
cleared_none (false ∷ l) h = ap (λ l. false ∷ l) (cleared_none l h)

-- the number before a mask, modulo 2 to the power 64, takes its lowest one away
pub before_mask : (l : List Bool) (w : ℕ) → w < 2 ^ 64 → (w + 1) % 2 ^ 64 ≡ mask l → bit_and (mask l) w ≡ mask (cleared l)
before_mask l w h e = go (eqb (count l) 0) refl
  where
    go : (b : Bool) → eqb (count l) 0 ≡ b → bit_and (mask l) w ≡ mask (cleared l)
    go true z =
        let none : count l ≡ 0 = eqb-true (count l) 0 z in
        omega (arith, and_le_l (mask l) w, mask_none l none, ap mask (cleared_none l none))
    go false z =
        let some = eqb-false (count l) 0 z in
        let set : mask l ≡ 0 → ⊥ = λ m. some (none_set l m) in
        let before : w ≡ mask l - 1 = omega (arith, set) in
        rw before (without_first l (omega (arith, some)))

-- a mask that is not 0 has some bits set
pub some_set : {π : Projection} (l : List Bool) {d : ℕ} → d ≡ mask l → length l ≡ size π → (d ≡ 0 → ⊥) → SomeSet π l d
some_set l e long n =
    let some : count l ≡ 0 → ⊥ = λ z. n (e ∙ mask_none l z) in
    record { masks = e; some = omega (arith, some); long = long }

-- more than three bits are set just where the mask without three of them is not 0
pub four_set : (l : List Bool) {d : ℕ} → d ≡ mask (cleared (cleared (cleared l))) → not (eqb d 0) ≡ ltb 3 (count l)
four_set l {d} e = go (eqb d 0) refl
  where
    left : count (cleared (cleared (cleared l))) ≡ count l - 3
    left = omega (arith, count_cleared l, count_cleared (cleared l), count_cleared (cleared (cleared l)))

    go : (b : Bool) → eqb d 0 ≡ b → not b ≡ ltb 3 (count l)
    go true z =
        let none = none_set (cleared (cleared (cleared l))) (sym e ∙ eqb-true d 0 z) in
        sym (le-ltb 3 (count l) (omega (arith, left)))
    go false z =
        let some : count (cleared (cleared (cleared l))) ≡ 0 → ⊥ = λ n. eqb-false d 0 z (e ∙ mask_none (cleared (cleared (cleared l))) n) in
        sym (lt-ltb 3 (count l) (omega (arith, left, some)))

-- the mask of the other bits is what is left of all ones
pub mask_others : (l : List Bool) → mask l + mask (map not l) + 1 ≡ 2 ^ length l
mask_others [] = refl
mask_others (true ∷ l) = omega (arith, mask_others l, pow-suc 2 (length l))
mask_others (false ∷ l) = omega (arith, mask_others l, pow-suc 2 (length l))

-- the columns that lack a parity, by the parities of all
pub lacking_parities : (p : Bool) (cs : List Column) → lacking p cs ≡ map (λ b. p ⊻ b) (map parity cs)
lacking_parities p [] = refl
lacking_parities p (c ∷ cs) = ap (λ l. (p ⊻ parity c) ∷ l) (lacking_parities p cs)

pub length_lacking : (p : Bool) (cs : List Column) → length (lacking p cs) ≡ length cs
length_lacking p cs = length-map cs (λ c. p ⊻ parity c)

pub parity_false : (l : List Bool) → map (λ b. false ⊻ b) l ≡ l
parity_false [] = refl
parity_false (b ∷ l) = ap (λ l. b ∷ l) (parity_false l)

pub parity_true : (l : List Bool) → map (λ b. true ⊻ b) l ≡ map not l
parity_true [] = refl
parity_true (b ∷ l) = ap (λ l. not b ∷ l) (parity_true l)

-- a bit of a mask
pub mask_bit : (l : List Bool) (j : ℕ) → has_bit j (mask l) ≡ get_or l j false
mask_bit [] j = rw (zero-div (2 ^ j))
mask_bit (b ∷ l) zero =
    let low : (mask l * 2 + one b) % 2 ≡ one b = omega (arith, numbers.bits.small b) in
    sym (numbers.bits.modulo (mask l * 2 + one b)) ∙ ap (has_bit 0) low ∙ numbers.bits.back b
mask_bit (b ∷ l) (suc j) =
    let half : (mask l * 2 + one b) / 2 ≡ mask l = omega (arith, numbers.bits.small b) in
    rw (pow-succ' 2 j, ← div-div-eq-div-mul (mask l * 2 + one b) 2 (2 ^ j), half) (mask_bit l j)
