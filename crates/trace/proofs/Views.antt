-- The slots of a view of a buffer: as many as the trailer says, and each what stands at the slot's place. A list that is made number by number
-- has at each number what the function gives there, so it is any list of that length which has the same. The view of a plain trace has its
-- slots one by one.
use Rattle.std.proofs.Common.{◌≡◌, ℕ, zero, suc, ◌+◌, ◌<◌, List, map, length, get_or, sym, refl, ◌∙◌, add-zero, add-suc, suc-add, zero-add, arith, ext_get_or}
use lib.ListN.{length-map, get_or-map}
use Rattle.trace.specs.declared.slot.Content.{Content}
use Rattle.trace.specs.Lists.{span}
use Rattle.trace.specs.Layout.{count_in, place_in}
use Rattle.trace.specs.View.{count_of, content_of}
use Rattle.trace.specs.Trace.{projection_in, content_at, view_in}
use Rattle.trace.specs.Plain.{Slot, Plain, projection_of, slot_of, holds, view_of}
use Rattle.trace.proofs.Distinct.{span_length}

-- ---- lists made number by number

module _ {A : Type 0} (f : ℕ → A) where
  length_span : (k n : ℕ) → length (map f (span k n)) ≡ n
  length_span k n = length-map (span k n) f ∙ span_length k n

  get_d_span : (k n i : ℕ) (d : A) → i < n → get_or (map f (span k n)) i d ≡ f (k + i)
  get_d_span k zero i d h = absurd (omega arith)
  get_d_span k (suc n) zero d h = rw add-zero
  get_d_span k (suc n) (suc i) d h = get_d_span (suc k) n i d (omega arith) ∙ rw (suc-add, add-suc)

  get_d_first : (n i : ℕ) (d : A) → i < n → get_or (map f (span 0 n)) i d ≡ f i
  get_d_first n i d h = get_d_span 0 n i d h ∙ rw zero-add

  pub tabulated : (n : ℕ) (xs : List A) (d : A) → length xs ≡ n → ((i : ℕ) → i < n → f i ≡ get_or xs i d) → map f (span 0 n) ≡ xs
  tabulated n xs d l e =
      ext_get_or d (map f (span 0 n)) xs (length_span 0 n ∙ sym l)
      (λ i h. let lt : i < n = rw (length_span 0 n) at h in get_d_first n i d lt ∙ e i lt)

-- ---- the view of a buffer

module _ (b : List ℕ) where
  pub view_code : (view_in b).code ≡ projection_in b
  unfolding view_in
  view_code = refl

  pub view_count : count_of (view_in b) ≡ count_in b
  unfolding view_in
  view_count = length_span (λ slot. content_at (projection_in b) b (place_in b slot)) 0 (count_in b)

  pub view_content : (slot : ℕ) → slot < count_in b → content_of (view_in b) slot ≡ content_at (projection_in b) b (place_in b slot)
  unfolding view_in
  view_content slot h = get_d_first (λ slot. content_at (projection_in b) b (place_in b slot)) (count_in b) slot Content.Blank h

-- ---- the view of a plain trace

module _ (p : Plain) where
  pub plain_code : (view_of p).code ≡ projection_of p
  unfolding view_of
  plain_code = refl

  pub plain_count : count_of (view_of p) ≡ length p.slots
  unfolding view_of
  plain_count = length-map p.slots (holds (projection_of p))

  pub plain_content : (slot : ℕ) → content_of (view_of p) slot ≡ holds (projection_of p) (slot_of p slot)
  unfolding view_of
  plain_content slot = get_or-map (holds (projection_of p)) p.slots slot Slot.blank
