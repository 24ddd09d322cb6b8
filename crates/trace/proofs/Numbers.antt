-- Numbers in bytes, high byte first: a number's bytes give it back, and a loop may take or give them one at a time.
-- A byte more at the end multiplies the number by 256 and adds the byte, which is how the bytes of a number are defined; so both ways are
-- one step of the same recursion.
use Rattle.std.proofs.Common.{◌≡◌, ℕ, zero, suc, ◌+◌, ◌*◌, ◌/◌, ◌%◌, ◌^◌, ◌<◌, ◌≤◌, List, [], ◌∷◌, ◌++◌, length, get_or, take, drop, set, replicate, refl, ◌∙◌, append_assoc, mul-le-mul_right, div-lt_iff_lt-mul, pow-suc, div-add-mod', add-one, arith, length-append, length-take-le, drop-cons, drop_at}
use native.Mathlib.Nat.{pow-le-pow_right}
use lib.ListN.{replicate-append-replicate}
use lib.Seq.{set_split}
use Rattle.trace.specs.Layout.{bytes_of, number_from}

pub length_bytes : (k v : ℕ) → length (bytes_of k v) ≡ k
unfolding bytes_of
length_bytes zero v = refl
length_bytes (suc k) v = simp (length-append, length_bytes k (v / 256)) (omega arith)

-- one byte more
number_snoc : (v : ℕ) (xs : List ℕ) (x : ℕ) → number_from v (xs ++ (x ∷ [])) ≡ number_from v xs * 256 + x
unfolding number_from
number_snoc v [] x = refl
number_snoc v (y ∷ xs) x = number_snoc (v * 256 + y) xs x

pub number_bytes : (k v : ℕ) → v < 256 ^ k → number_from 0 (bytes_of k v) ≡ v
unfolding bytes_of number_from
number_bytes zero v h = omega arith
number_bytes (suc k) v h =
    let small : v / 256 < 256 ^ k = (div-lt_iff_lt-mul {k = 256} (omega arith)).1 (rw pow-suc at h) in
    number_snoc 0 (bytes_of k (v / 256)) (v % 256) ∙ rw (number_bytes k (v / 256) small) (div-add-mod' v 256)

pub bytes_zero : (k : ℕ) → bytes_of k 0 ≡ replicate k 0
unfolding bytes_of
bytes_zero zero = refl
bytes_zero (suc k) = rw (bytes_zero k) (rw add-one at (replicate-append-replicate {A = ℕ} k 1 0))

-- a loop that takes bytes from the front: the next one
pub number_next : (v : ℕ) (xs : List ℕ) (i : ℕ) → i < length xs → number_from v (drop i xs) ≡ number_from (v * 256 + get_or xs i 0) (drop (i + 1) xs)
unfolding number_from
number_next v xs i h = rw (add-one, drop-cons xs i 0 h)

pub number_lt : (v x i : ℕ) → v < 256 ^ i → x < 256 → v * 256 + x < 256 ^ (i + 1)
number_lt v x i hv hx = rw (add-one, pow-suc) (omega (arith, mul-le-mul_right {m = suc v} 256 hv))

-- a number of at most five bytes has room for more
pub power_le : (i : ℕ) → i ≤ 5 → 256 ^ i ≤ 1099511627776
power_le i h = pow-le-pow_right {n = 256} (omega arith) h

-- a loop that gives bytes from the back: the next one
pub bytes_next : (v i j : ℕ) (xs : List ℕ) → i ≡ suc j → j < length xs → bytes_of i v ++ drop i xs ≡ bytes_of j (v / 256) ++ drop j (set xs j (v % 256))
unfolding bytes_of
bytes_next v i j xs e h =
    let set_here : drop j (set xs j (v % 256)) ≡ v % 256 ∷ drop (suc j) xs =
    rw (set_split xs j (v % 256) h) (drop_at (take j xs) (v % 256 ∷ drop (suc j) xs) j (length-take-le j xs (omega arith))) in
    rw (e, set_here) (append_assoc (bytes_of j (v / 256)) (v % 256 ∷ []) (drop (suc j) xs))
