-- Vectors of symbols add as symbols do, and the syndrome is linear in the values.
-- By induction on the vectors, from the laws of symbols. Where one of two vectors ends it counts as zero, so that the laws of sums need no
-- lengths; that two vectors with a zero sum are equal, and that the syndrome of a sum is the sum of syndromes, holds at equal lengths.
use Rattle.std.proofs.Common.{◌≡◌, ℕ, zero, suc, Bool, true, ◌&&◌, eqb, List, [], ◌∷◌, length, sym, refl, ap, ◌∙◌, ap₂, arith, eqb-true}
use mathlib.Core.Bool.{and-eq-true_iff}
use lib.ListN.{length-replicate}
use Rattle.symbols.specs.Symbol.{Symbol, s0, is_zero, add}
use Rattle.symbols.proofs.Claims.{field}
use Rattle.codes.specs.Vector.{zeros, add_v, scale, is_zero_v}
use Rattle.codes.specs.Word.{syndrome}

pub add_v_comm : (x y : List Symbol) → add_v x y ≡ add_v y x
add_v_comm [] [] = refl
add_v_comm [] (y ∷ ys) = refl
add_v_comm (x ∷ xs) [] = refl
add_v_comm (x ∷ xs) (y ∷ ys) = ap₂ ◌∷◌ (field.add_comm x y) (add_v_comm xs ys)

pub add_v_assoc : (x y z : List Symbol) → add_v (add_v x y) z ≡ add_v x (add_v y z)
add_v_assoc [] y z = refl
add_v_assoc (x ∷ xs) [] z = refl
add_v_assoc (x ∷ xs) (y ∷ ys) [] = refl
add_v_assoc (x ∷ xs) (y ∷ ys) (z ∷ zs) = ap₂ ◌∷◌ (field.add_assoc x y z) (add_v_assoc xs ys zs)

add_v_swap : (a b c d : List Symbol) → add_v (add_v a b) (add_v c d) ≡ add_v (add_v a c) (add_v b d)
add_v_swap a b c d =
    rw (add_v_assoc a b (add_v c d), ← add_v_assoc b c d, add_v_comm b c, add_v_assoc c b d, add_v_assoc a c (add_v b d))

pub scale_add : (a b : Symbol) (h : List Symbol) → scale (add a b) h ≡ add_v (scale a h) (scale b h)
scale_add a b [] = refl
scale_add a b (x ∷ xs) = ap₂ ◌∷◌ (field.add_mul a b x) (scale_add a b xs)

-- zero vectors: all of their symbols are 0
pub zeros_zero : (n : ℕ) → is_zero_v (zeros n) ≡ true
zeros_zero zero = refl
zeros_zero (suc n) = zeros_zero n

-- a sum with a zero vector is zero just where the other vector is
pub add_zero_vector : (x y : List Symbol) → is_zero_v y ≡ true → is_zero_v (add_v x y) ≡ is_zero_v x
add_zero_vector [] y e = e
add_zero_vector (x ∷ xs) [] e = refl
add_zero_vector (x ∷ xs) (y ∷ ys) e =
    let both = (and-eq-true_iff (is_zero y) (is_zero_v ys)).0 e in
    rw (field.zero y both.0, field.add_zero x, add_zero_vector xs ys both.1)

add_v_zeros : (n : ℕ) → add_v (zeros n) (zeros n) ≡ zeros n
add_v_zeros zero = refl
add_v_zeros (suc n) = rw (add_v_zeros n)

-- a vector added to itself is zero, and two vectors of one length whose sum is zero are equal
pub add_v_self : (x : List Symbol) → is_zero_v (add_v x x) ≡ true
add_v_self [] = refl
add_v_self (x ∷ xs) = ap₂ ◌&&◌ (ap is_zero (field.add_self x)) (add_v_self xs)

pub zero_sum_same : (x y : List Symbol) → length x ≡ length y → is_zero_v (add_v x y) ≡ true → x ≡ y
zero_sum_same [] [] e z = refl
zero_sum_same [] (y ∷ ys) e z = absurd (omega arith)
zero_sum_same (x ∷ xs) [] e z = absurd (omega arith)
zero_sum_same (x ∷ xs) (y ∷ ys) e z =
    let both = (and-eq-true_iff (is_zero (add x y)) (is_zero_v (add_v xs ys))).0 z in
    ap₂ ◌∷◌ (field.negative x y (field.zero (add x y) both.0)) (zero_sum_same xs ys (omega arith) both.1)

-- the syndrome of a sum of values
pub syndrome_add : (r : ℕ) (H : List (List Symbol)) (u v : List Symbol) → length u ≡ length v →
    syndrome r H (add_v u v) ≡ add_v (syndrome r H u) (syndrome r H v)
syndrome_add r [] u v e = sym (add_v_zeros r)
syndrome_add r (h ∷ hs) [] [] e = sym (add_v_zeros r)
syndrome_add r (h ∷ hs) [] (y ∷ ys) e = absurd (omega arith)
syndrome_add r (h ∷ hs) (x ∷ xs) [] e = absurd (omega arith)
syndrome_add r (h ∷ hs) (x ∷ xs) (y ∷ ys) e =
    ap₂ add_v (scale_add x y h) (syndrome_add r hs xs ys (omega arith))
    ∙ add_v_swap (scale x h) (scale y h) (syndrome r hs xs) (syndrome r hs ys)

-- a matrix whose columns all have r symbols gives syndromes of r symbols
abbrev pub shaped : ℕ → List (List Symbol) → Bool
shaped r [] = true
shaped r (h ∷ hs) = eqb (length h) r && shaped r hs

pub length_scale : (a : Symbol) (h : List Symbol) → length (scale a h) ≡ length h
length_scale a [] = refl
length_scale a (x ∷ xs) = ap suc (length_scale a xs)

length_add_v : (x y : List Symbol) → length x ≡ length y → length (add_v x y) ≡ length y
length_add_v [] y e = refl
length_add_v (x ∷ xs) [] e = absurd (omega arith)
length_add_v (x ∷ xs) (y ∷ ys) e = ap suc (length_add_v xs ys (omega arith))

pub length_syndrome : (r : ℕ) (H : List (List Symbol)) → shaped r H ≡ true → (vs : List Symbol) → length (syndrome r H vs) ≡ r
length_syndrome r [] s vs = length-replicate r s0
length_syndrome r (h ∷ hs) s [] = length-replicate r s0
length_syndrome r (h ∷ hs) s (v ∷ vs) =
    let both = (and-eq-true_iff (eqb (length h) r) (shaped r hs)).0 s in
    let rest = length_syndrome r hs both.1 vs in
    length_add_v (scale v h) (syndrome r hs vs) (length_scale v h ∙ eqb-true (length h) r both.0 ∙ sym rest) ∙ rest
