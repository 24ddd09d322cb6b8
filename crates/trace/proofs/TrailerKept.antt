-- A buffer in which a slot is stored keeps its trailer: the slots lie before it, where the trailer is fit, and what is stored has a slot's size, so
-- that neither the number of bytes nor those of the trailer change. What it says of the trace stays, and the buffer stays opened.
use Rattle.std.proofs.Common.{◌≡◌, ℕ, ◌+◌, ◌<◌, ◌≤◌, List, [], ◌∷◌, length, sym, ◌∙◌, arith, ltb-false}
use borrow.Author.Tests.{not-false}
use Rattle.codes.specs.Answer.{Passes}
use Rattle.codes.proofs.Rows.{passes_first}
use Rattle.trace.specs.declared.layout.Place.{Place}
use Rattle.trace.specs.declared.layout.Header.{Header}
use Rattle.trace.specs.declared.slot.Content.{Content}
use Rattle.trace.specs.Layout.{state_size, word_size, trailer_size, distance_of, part, overwrite, SlotBytes, content_bytes, store_at, place_from}
use Rattle.trace.specs.Layout.{trailer_at, distance_in, count_in, code_in, edition_in, start_in, place_in}
use Rattle.trace.specs.Trace.{short, unfit, trailer_rows, stored}
use Rattle.trace.specs.ContractsOfSteps.{OpenedAs}
use Rattle.trace.proofs.Parts.{length_overwrite, part_behind}
use Rattle.trace.proofs.Slots.{Sized, content_sized}
use Rattle.trace.proofs.TraceRows.{fit_iff}

-- ---- what is written before an end

-- as many bytes, and the same ones behind the end
record Behind (end : ℕ) (b c : List ℕ) : Type 0 where
  size : length c ≡ length b
  parts : (from k : ℕ) → end ≤ from → from ≤ length b → part c from k ≡ part b from k

module _ (end : ℕ) where
  overwrite_behind : (b xs : List ℕ) (at k : ℕ) → length xs ≡ k → at + k ≤ end → end ≤ length b → Behind end b (overwrite b at xs)
  overwrite_behind b xs at k e h long =
      record { size = length_overwrite b xs at (omega arith); parts = λ from n after inside. part_behind b xs at from n (omega arith) inside }

  behind_both : {b c d : List ℕ} → Behind end b c → Behind end c d → Behind end b d
  behind_both first second =
      record {
        size = second.size ∙ first.size;
        parts = λ from k h inside. second.parts from k h (rw first.size inside) ∙ first.parts from k h inside;
      }

  store_behind : (b : List ℕ) (p : Place) (s : SlotBytes) → Sized s → end ≤ length b
      → p.state + state_size ≤ end → p.word + word_size ≤ end → p.marks + word_size ≤ end → Behind end b (store_at b p s)
  unfolding store_at
  store_behind b p s z long state word marks =
      let c = overwrite b p.state s.state in
      let d = overwrite c p.word s.word in
      let first = overwrite_behind b s.state p.state state_size z.state state long in
      let second = behind_both first (overwrite_behind c s.word p.word word_size z.word word (rw first.size long)) in
      behind_both second (overwrite_behind d s.marks p.marks word_size z.marks marks (rw second.size long))

-- ---- the trailer

-- a buffer whose trailer says the same
pub record SameTrailer (b c : List ℕ) : Type 0 where
  pub size : length c ≡ length b
  pub distance : distance_in c ≡ distance_in b
  pub count : count_in c ≡ count_in b
  pub code : code_in c ≡ code_in b
  pub edition : edition_in c ≡ edition_in b

module _ (b : List ℕ) (opened : Passes (trailer_rows b)) where
  long : trailer_size ≤ length b
  long = ltb-false _ _ (passes_first (short b) (unfit b ∷ []) opened).0

  -- its slots end where it begins
  ends : start_in b + distance_of (count_in b) ≡ trailer_at b
  ends =
      let unmet = (passes_first (unfit b) [] (passes_first (short b) (unfit b ∷ []) opened).1).0 in
      let fit = (fit_iff (trailer_at b) (distance_in b) (count_in b) (code_in b) (edition_in b)).0 (not-false _ unmet) in
      omega (arith, fit.1.1.1.0, fit.1.1.1.1)

  module _ (slot : ℕ) (there : slot < count_in b) (c : Content) where
    slot_behind : Behind (trailer_at b) b (stored slot c b)
    unfolding stored place_from
    slot_behind =
        let end = ends in
        store_behind (trailer_at b) b (place_in b slot) (content_bytes c) (content_sized c) (omega arith) (omega arith) (omega arith) (omega arith)

    pub stored_trailer : SameTrailer b (stored slot c b)
    stored_trailer =
        let t = slot_behind in
        let at = long in
        record {
          size = t.size;
          distance = rw (t.size, t.parts (trailer_at b) 4 (omega arith) (omega arith));
          count = rw (t.size, t.parts (trailer_at b + 4) 2 (omega arith) (omega arith));
          code = rw (t.size, t.parts (trailer_at b + 6) 1 (omega arith) (omega arith));
          edition = rw (t.size, t.parts (trailer_at b + 7) 1 (omega arith) (omega arith));
        }

-- ---- an opened buffer

module _ (b c : List ℕ) (same : SameTrailer b c) where
  pub same_passes : Passes (trailer_rows b) → Passes (trailer_rows c)
  same_passes e = rw (same.distance, same.count, same.code, same.edition, same.size) e

  pub same_opened : (h : Header) → OpenedAs b h → OpenedAs c h
  same_opened h o =
      record {
        passes = same_passes o.passes;
        start = o.start ∙ rw (same.distance, same.size);
        slots = o.slots ∙ sym same.count;
        code = o.code ∙ rw same.code;
        inside = o.inside ∙ sym same.size;
        few = o.few;
      }
