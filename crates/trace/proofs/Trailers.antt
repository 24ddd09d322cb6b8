-- The trailer: the numbers that a buffer has which ends with one, and the stores that write one. Each number begins where those before it end,
-- and numbers that are stored one behind the other are stored at once; zeros and trailer, which reach to the buffer's end, leave the bytes
-- before them.
use Rattle.std.proofs.Common.{◌≡◌, ℕ, ◌+◌, ◌-◌, ◌^◌, ◌<◌, ◌≤◌, List, [], ◌++◌, length, take, replicate, sym, refl, ap, ◌∙◌, append_assoc, append-nil, add-zero, arith, length-append}
use lib.Seq.{drop-length}
use borrow.Rule.Slice.PartMut.{mid_of, put_mid}
use Rattle.trace.specs.Layout.{bytes_of, number_at, overwrite, trailer_size, distance_of, needed_for}
use Rattle.trace.specs.Layout.{trailer, trailer_at, distance_in, count_in, code_in, edition_in, made}
use Rattle.trace.proofs.Numbers.{length_bytes, bytes_zero}
use Rattle.trace.proofs.Parts.{number_middle, overwrite_join, fill_part}

pub length_trailer : (code n : ℕ) → length (trailer code n) ≡ trailer_size
unfolding trailer
length_trailer code n = simp (length-append, length_bytes)

-- ---- a buffer that ends with a trailer

module _ (front : List ℕ) (code n : ℕ) where
  pub ended_at : trailer_at (front ++ trailer code n) ≡ length front
  ended_at = simp (length-append, length_trailer) (omega arith)

  -- a number of the trailer, at its offset
  field : (first rest : List ℕ) (k v offset : ℕ) → trailer code n ≡ first ++ (bytes_of k v ++ rest) → length first ≡ offset → v < 256 ^ k
      → number_at (front ++ trailer code n) (trailer_at (front ++ trailer code n) + offset) k ≡ v
  field first rest k v offset e l h =
      rw (ended_at, e, ← append_assoc front first) (number_middle (front ++ first) rest k v (length front + offset) (simp (length-append, l)) h)

  pub ended_distance : n ≤ 4000 → distance_in (front ++ trailer code n) ≡ distance_of n
  unfolding trailer
  ended_distance few =
      rw (← add-zero (trailer_at (front ++ trailer code n)))
      (field [] (bytes_of 2 n ++ (bytes_of 1 code ++ bytes_of 1 1)) 4 (distance_of n) 0 refl refl (omega arith))

  pub ended_count : n ≤ 4000 → count_in (front ++ trailer code n) ≡ n
  unfolding trailer
  ended_count few = field (bytes_of 4 (distance_of n)) (bytes_of 1 code ++ bytes_of 1 1) 2 n 4 refl (length_bytes 4 (distance_of n)) (omega arith)

  pub ended_code : code < 256 → code_in (front ++ trailer code n) ≡ code
  unfolding trailer
  ended_code fits =
      field (bytes_of 4 (distance_of n) ++ bytes_of 2 n) (bytes_of 1 1) 1 code 6 (simp append_assoc) (simp (length-append, length_bytes)) (omega arith)

  pub ended_edition : edition_in (front ++ trailer code n) ≡ 1
  unfolding trailer
  ended_edition =
      field (bytes_of 4 (distance_of n) ++ (bytes_of 2 n ++ bytes_of 1 code)) [] 1 1 7 (simp (append_assoc, append-nil))
      (simp (length-append, length_bytes)) (omega arith)

-- ---- a trailer that is written

-- a number that is stored behind bytes that were
store_behind : (b xs : List ℕ) (at n k v : ℕ) → at + length xs ≡ n → n + k ≤ length b
    → overwrite (overwrite b at xs) n (bytes_of k v) ≡ overwrite b at (xs ++ bytes_of k v)
store_behind b xs at n k v e h = overwrite_join b xs (bytes_of k v) at n e (omega arith)

-- the trailer's four numbers
pub trailer_written : (b : List ℕ) (at code n : ℕ) → at + trailer_size ≤ length b
    → overwrite (overwrite (overwrite (overwrite b at (bytes_of 4 (distance_of n))) (at + 4) (bytes_of 2 n)) (at + 6) (bytes_of 1 code)) (at + 7) (bytes_of 1 1)
    ≡ overwrite b at (trailer code n)
unfolding trailer
trailer_written b at code n h =
    let d = bytes_of 4 (distance_of n) in
    let four : at + length (bytes_of 4 (distance_of n)) ≡ at + 4 = simp length_bytes in
    let six : at + length (bytes_of 4 (distance_of n) ++ bytes_of 2 n) ≡ at + 6 = simp (length-append, length_bytes) in
    let seven : at + length ((bytes_of 4 (distance_of n) ++ bytes_of 2 n) ++ bytes_of 1 code) ≡ at + 7 = simp (length-append, length_bytes) in
    rw (store_behind b d at (at + 4) 2 n four (omega arith), store_behind b (d ++ bytes_of 2 n) at (at + 6) 1 code six (omega arith))
    (store_behind b ((d ++ bytes_of 2 n) ++ bytes_of 1 code) at (at + 7) 1 1 seven (omega arith) ∙ ap (overwrite b at) (simp append_assoc))

-- bytes that end a buffer
overwrite_end : (b xs : List ℕ) (at : ℕ) → at + length xs ≡ length b → overwrite b at xs ≡ take at b ++ xs
unfolding overwrite
overwrite_end b xs at e = simp (e, drop-length, append-nil)

-- zeros that fill the part before the trailer
pub zeros_written : (b filled : List ℕ) (t d : ℕ) → d ≤ t → t ≤ length b → filled ≡ replicate (length (mid_of (t - d) (t - (t - d)) b)) 0
    → put_mid (t - d) (t - (t - d)) b filled ≡ overwrite b (t - d) (bytes_of d 0)
zeros_written b filled t d before inside e =
    let size : t - (t - d) ≡ t - d + d - (t - d) = omega arith in
    let zeros : filled ≡ bytes_of (length (mid_of (t - d) (t - (t - d)) b)) 0 = e ∙ sym (bytes_zero _) in
    rw size (fill_part b filled (t - d) d 0 (omega arith) (rw size at zeros))

-- the blank slots and the trailer
pub made_written : (b : List ℕ) (code n : ℕ) → needed_for n ≤ length b
    → overwrite (overwrite b (length b - trailer_size - distance_of n) (bytes_of (distance_of n) 0)) (length b - trailer_size) (trailer code n)
    ≡ made (record { code = code; slots = n }) b
unfolding made
made_written b code n h =
    let zeros = bytes_of (distance_of n) 0 in
    let at = length b - trailer_size - distance_of n in
    let start : length b - trailer_size - distance_of n ≡ length b - needed_for n = omega arith in
    let seam : length b - trailer_size - distance_of n + length (bytes_of (distance_of n) 0) ≡ length b - trailer_size = simp length_bytes (omega arith) in
    let end : length b - trailer_size - distance_of n + length (bytes_of (distance_of n) 0 ++ trailer code n) ≡ length b =
    simp (length-append, length_bytes, length_trailer) (omega arith) in
    overwrite_join b zeros (trailer code n) at (length b - trailer_size) seam (omega arith)
    ∙ overwrite_end b (zeros ++ trailer code n) at end
    ∙ rw (start, bytes_zero)
