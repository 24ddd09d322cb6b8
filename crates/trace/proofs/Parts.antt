-- Parts of a buffer that are read and written over. A buffer is split at a part's place: what lies before it, the part and what follows are
-- then lists of their own, so that what is read is the part, and what is written stands in its place.
use Rattle.std.proofs.Common.{◌≡◌, ℕ, ◌+◌, ◌-◌, ◌^◌, ◌<◌, ◌≤◌, List, ◌++◌, length, take, drop, sym, ◌∙◌, append_assoc, arith, length-append, length-drop, length-take, length-take-le, drop-drop, take_at, drop_at}
use lib.Seq.{drop-append-add}
use borrow.Rule.Slice.PartMut.{mid_of, put_mid}
use Rattle.trace.specs.Layout.{bytes_of, part, number_at, overwrite}
use Rattle.trace.proofs.Numbers.{length_bytes, number_bytes}

-- ---- what is read

-- a part of k bytes has k bytes
pub length_part : (b : List ℕ) (at k : ℕ) → at + k ≤ length b → length (part b at k) ≡ k
unfolding part
length_part b at k h = length-take-le k (drop at b) (rw length-drop (omega arith))

pub part_middle : (pre x post : List ℕ) (k at : ℕ) → length pre ≡ at → length x ≡ k → part (pre ++ (x ++ post)) at k ≡ x
unfolding part
part_middle pre x post k at e l = rw (drop_at pre (x ++ post) at e, take_at x post k l)

-- the number in a middle part
pub number_middle : (pre post : List ℕ) (k v at : ℕ) → length pre ≡ at → v < 256 ^ k → number_at (pre ++ (bytes_of k v ++ post)) at k ≡ v
number_middle pre post k v at e h = rw (part_middle pre (bytes_of k v) post k at e (length_bytes k v)) (number_bytes k v h)

-- ---- what is written

-- bytes that are written over what follows the first n
overwrite_after : (pre rest new : List ℕ) (n : ℕ) → length pre ≡ n → overwrite (pre ++ rest) n new ≡ pre ++ (new ++ drop (length new) rest)
unfolding overwrite
overwrite_after pre rest new n e = rw (take_at pre rest n e, ← e, drop-append-add)

-- a middle part is written over by another of its length
pub overwrite_middle : (pre old new post : List ℕ) (n : ℕ) → length pre ≡ n → length new ≡ length old
    → overwrite (pre ++ (old ++ post)) n new ≡ pre ++ (new ++ post)
overwrite_middle pre old new post n e h = overwrite_after pre (old ++ post) new n e ∙ rw (drop_at old post (length new) (sym h))

-- what is written stands between what lies before it and what follows
overwrite_split : (b xs : List ℕ) (at : ℕ) → overwrite b at xs ≡ (take at b ++ xs) ++ drop (at + length xs) b
unfolding overwrite
overwrite_split b xs at = sym (append_assoc (take at b) xs (drop (at + length xs) b))

-- bytes that are written one after the other are written at once
pub overwrite_join : (b xs ys : List ℕ) (at n : ℕ) → at + length xs ≡ n → n ≤ length b
    → overwrite (overwrite b at xs) n ys ≡ overwrite b at (xs ++ ys)
overwrite_join b xs ys at n e h =
    let seam : length (take at b ++ xs) ≡ n = simp (length-append, length-take) (omega arith) in
    let beyond : at + length xs + length ys ≡ at + length (xs ++ ys) = simp length-append (omega arith) in
    rw (overwrite_split b xs at, overwrite_split b (xs ++ ys) at)
    (overwrite_after (take at b ++ xs) (drop (at + length xs) b) ys n seam
    ∙ simp (drop-drop (length ys) (at + length xs) b, beyond, append_assoc))

-- what is written changes neither the number of bytes nor those behind it
module _ (b xs : List ℕ) (at : ℕ) where
  pub length_overwrite : at + length xs ≤ length b → length (overwrite b at xs) ≡ length b
  unfolding overwrite
  length_overwrite h = simp (length-append, length-take, length-drop) (omega arith)

  pub part_behind : (from k : ℕ) → at + length xs ≤ from → from ≤ length b → part (overwrite b at xs) from k ≡ part b from k
  unfolding part
  part_behind from k h inside =
      let seam : length (take at b ++ xs) ≡ at + length xs = simp (length-append, length-take) (omega arith) in
      let rest : at + length xs + (from - (at + length xs)) ≡ from = omega arith in
      let beyond : drop from (overwrite b at xs) ≡ drop from b =
      rw (overwrite_split b xs at, ← rest, ← seam, drop-append-add) (rw seam (drop-drop (from - (at + length xs)) (at + length xs) b)) in
      rw beyond

-- a part that is lent, filled with a number and given back
pub fill_part : (b filled : List ℕ) (at k v : ℕ) → at + k ≤ length b → filled ≡ bytes_of (length (mid_of at (at + k - at) b)) v
    → put_mid at (at + k - at) b filled ≡ overwrite b at (bytes_of k v)
unfolding overwrite part
fill_part b filled at k v h e =
    let size : at + k - at ≡ k = omega arith in
    let bytes : filled ≡ bytes_of k v = rw (size, length_part b at k h) at e in
    simp (size, bytes, drop-drop, length_bytes)
