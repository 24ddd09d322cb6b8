-- The bytes of slots, whatever stands in them, between what lies before and behind them: what is read at a slot's place, and what storing there
-- makes of them. By induction on the slots, each slot that is passed joins what lies before: so slot i stands between two lists, of which the
-- first ends at its place.
use Rattle.std.proofs.Common.{◌≡◌, ℕ, zero, suc, ◌+◌, ◌*◌, ◌<◌, ◌≤◌, List, [], ◌∷◌, ◌++◌, length, get_or, set, sym, refl, ap, ◌∙◌, append_assoc, append-nil, mul-zero, mul-suc, arith, length-append}
use Rattle.trace.specs.declared.slot.Content.{Content}
use Rattle.trace.specs.Layout.{state_size, word_size, slot_size, distance_of, part, overwrite, SlotBytes, content_bytes, each, whole, body, place_from, store_at}
use Rattle.trace.proofs.Numbers.{length_bytes}
use Rattle.trace.proofs.Parts.{overwrite_middle, overwrite_join, part_middle}

-- ---- some bytes of each slot, one slot after the other

-- slot i apart from the others, with what lies before and behind it
record Around (f : SlotBytes → List ℕ) (k : ℕ) (pre post : List ℕ) (ss : List SlotBytes) (i : ℕ) : Type 0 where
  before : List ℕ
  beyond : List ℕ
  place : length before ≡ length pre + k * i
  now : (d : SlotBytes) → pre ++ (each f ss ++ post) ≡ before ++ (f (get_or ss i d) ++ beyond)
  then : (s : SlotBytes) → pre ++ (each f (set ss i s) ++ post) ≡ before ++ (f s ++ beyond)

module _ (f : SlotBytes → List ℕ) (k : ℕ) where
  abbrev Wide : List SlotBytes → Type 0
  Wide [] = Unit {0}
  Wide (s ∷ ss) = (length (f s) ≡ k) × Wide ss

  length_each : (ss : List SlotBytes) → Wide ss → length (each f ss) ≡ k * length ss
  unfolding each
  length_each [] w = sym (mul-zero k)
  length_each (s ∷ ss) w = simp (length-append, w.0, length_each ss w.1, mul-suc) (omega arith)

  around : (pre post : List ℕ) (ss : List SlotBytes) (i : ℕ) → i < length ss → Wide ss → Around f k pre post ss i
  unfolding each
  around pre post [] i h w = absurd (omega arith)
  around pre post (x ∷ ss) zero h w =
      record { before = pre; beyond = each f ss ++ post; place = rw mul-zero (omega arith); now = λ d. simp append_assoc; then = λ s. simp append_assoc }
  around pre post (x ∷ ss) (suc i) h w =
      let r = around (pre ++ f x) post ss i (omega arith) w.1 in
      record {
        before = r.before;
        beyond = r.beyond;
        place = r.place ∙ simp (length-append, w.0, mul-suc) (omega arith);
        now = λ d. simp append_assoc (simp append_assoc at (r.now d));
        then = λ s. simp append_assoc (simp append_assoc at (r.then s));
      }

-- ---- whole slots

-- state, word and marks have their sizes
pub record Sized (s : SlotBytes) : Type 0 where
  pub state : length s.state ≡ state_size
  pub word : length s.word ≡ word_size
  pub marks : length s.marks ≡ word_size

-- what every content stores has a slot's size
pub content_sized : (c : Content) → Sized (content_bytes c)
content_sized Content.Blank = record { state = length_bytes 1 0; word = length_bytes 5 0; marks = length_bytes 5 0 }
content_sized Content.Bad = record { state = length_bytes 1 2; word = length_bytes 5 0; marks = length_bytes 5 0 }
content_sized (Content.Written w m) = record { state = length_bytes 1 1; word = length_bytes 5 w; marks = length_bytes 5 m }

abbrev pub AllSized : List SlotBytes → Type 0
AllSized [] = Unit {0}
AllSized (s ∷ ss) = Sized s × AllSized ss

sized_at : (ss : List SlotBytes) (i : ℕ) (d : SlotBytes) → i < length ss → AllSized ss → Sized (get_or ss i d)
sized_at [] i d h w = absurd (omega arith)
sized_at (s ∷ ss) zero d h w = w.0
sized_at (s ∷ ss) (suc i) d h w = sized_at ss i d (omega arith) w.1

length_whole : (s : SlotBytes) → Sized s → length (whole s) ≡ slot_size
length_whole s w = simp (length-append, w.state, w.word, w.marks)

wholes_wide : (ss : List SlotBytes) → AllSized ss → Wide whole slot_size ss
wholes_wide [] w = tt
wholes_wide (s ∷ ss) w = (length_whole s w.0, wholes_wide ss w.1)

pub length_body : (ss : List SlotBytes) → AllSized ss → length (body ss) ≡ distance_of (length ss)
unfolding body
length_body ss w = length_each whole slot_size ss (wholes_wide ss w)

module _ (pre post : List ℕ) (ss : List SlotBytes) (w : AllSized ss) (i : ℕ) (h : i < length ss) where
  here : Around whole slot_size pre post ss i
  here = around whole slot_size pre post ss i h (wholes_wide ss w)

  -- ---- what is read at a slot's place

  module _ (d : SlotBytes) where
    -- some bytes of a slot, from the slot's first on
    inside : (first x rest : List ℕ) (k offset at : ℕ) → whole (get_or ss i d) ≡ first ++ (x ++ rest) → length first ≡ offset → length x ≡ k
        → length pre + slot_size * i + offset ≡ at → part (pre ++ (body ss ++ post)) at k ≡ x
    unfolding body here
    inside first x rest k offset at e l n a =
        rw (here.now d, e, append_assoc first (x ++ rest), append_assoc x rest, ← append_assoc here.before first)
        (part_middle (here.before ++ first) x (rest ++ here.beyond) k at (simp (length-append, here.place, l) a) n)

    pub state_part : part (pre ++ (body ss ++ post)) (place_from (length pre) i).state state_size ≡ (get_or ss i d).state
    unfolding place_from
    state_part =
        let z = sized_at ss i d h w in
        inside [] (get_or ss i d).state ((get_or ss i d).word ++ (get_or ss i d).marks) state_size 0 _ refl refl z.state (omega arith)

    pub word_part : part (pre ++ (body ss ++ post)) (place_from (length pre) i).word word_size ≡ (get_or ss i d).word
    unfolding place_from
    word_part =
        let z = sized_at ss i d h w in
        inside (get_or ss i d).state (get_or ss i d).word (get_or ss i d).marks word_size state_size _ refl z.state z.word refl

    pub marks_part : part (pre ++ (body ss ++ post)) (place_from (length pre) i).marks word_size ≡ (get_or ss i d).marks
    unfolding place_from
    marks_part =
        let z = sized_at ss i d h w in
        inside ((get_or ss i d).state ++ (get_or ss i d).word) (get_or ss i d).marks [] word_size (state_size + word_size) _ (simp (append_assoc, append-nil))
        (simp (length-append, z.state, z.word)) z.marks (omega arith)

  -- ---- what storing at a slot's place makes of all

  module _ (s : SlotBytes) (z : Sized s) where
    long : length pre + slot_size * i + slot_size ≤ length (pre ++ (body ss ++ post))
    long = simp (length-append, length_body ss w) (omega arith)

    pub store_body : store_at (pre ++ (body ss ++ post)) (place_from (length pre) i) s ≡ pre ++ (body (set ss i s) ++ post)
    unfolding store_at place_from body here
    store_body =
        let b = pre ++ (body ss ++ post) in
        let at = length pre + slot_size * i in
        let room = long in
        let first : length pre + slot_size * i + length s.state ≡ length pre + slot_size * i + state_size = rw z.state in
        let second : length pre + slot_size * i + length (s.state ++ s.word) ≡ length pre + slot_size * i + state_size + word_size =
        simp (length-append, z.state, z.word) (omega arith) in
        let same : length (whole s) ≡ length (whole (get_or ss i s)) = length_whole s z ∙ sym (length_whole (get_or ss i s) (sized_at ss i s h w)) in
        rw (overwrite_join b s.state s.word at (at + state_size) first (omega arith))
        (overwrite_join b (s.state ++ s.word) s.marks at (at + state_size + word_size) second (omega arith)
        ∙ ap (overwrite b at) (append_assoc s.state s.word s.marks)
        ∙ rw (here.now s, here.then s) (overwrite_middle here.before (whole (get_or ss i s)) (whole s) here.beyond at here.place same))
