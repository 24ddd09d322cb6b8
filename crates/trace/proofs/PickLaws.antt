-- The positions still unpicked, as the ones that a word lacks. At first they are all of the width's. A position that is picked has its bit toggled,
-- so that the unpicked ones are those before without it. Hence as many draws leave the word that has the bits of the positions drawn, and flipping
-- these in turn is exclusive or with that word.
use Rattle.std.proofs.Common.{◌≡◌, ℕ, zero, suc, ◌+◌, ◌-◌, ◌/◌, ◌%◌, ◌<◌, ◌≤◌, Bool, true, false, cond, eqb, List, [], ◌∷◌, length, get_or, sym, refl, ap, ◌∙◌, inl, inr, ⊎_elim, mod-lt, add-one, arith, eq-eqb, ne_eqb, eqb-true}
use native.Mathlib.Nat.{zero-div}
use lib.Bits.{bit_xor, xor_zero_r, xor_self}
use borrow.Author.Tests.{eqb-false}
use Rattle.codes.specs.Claims.{Among}
use Rattle.trace.specs.Lists.{span, without, in_turn}
use Rattle.trace.specs.Load.{advance, rank_of, drawn, handed_back}
use Rattle.trace.specs.ContractsOfLoad.{bit_in, toggle, is_unpicked, unpicked_of, unpicked_in, unpicked_at, with_rank, LoadOf}
use Rattle.trace.proofs.Xor.{xor_assoc}
use Rattle.trace.proofs.Sets.{xor_own, xor_other, same_bit}
use Rattle.trace.proofs.Distinct.{Distinct, get_d_among, without_length, span_among, span_length, span_distinct}

module _ (w : ℕ) where
  -- ---- the unpicked of some positions

  -- at first nothing is picked
  none_picked : (ps : List ℕ) → unpicked_of w 0 ps ≡ ps
  none_picked [] = refl
  none_picked (p ∷ ps) = simp (zero-div (bit_in w p)) (ap (◌∷◌ p) (none_picked ps))

  module _ (picked : ℕ) where
    unpicked_among : (ps : List ℕ) (x : ℕ) → Among x (unpicked_of w picked ps) → Among x ps × (is_unpicked w picked x ≡ true)
    unpicked_among [] x k = absurd k
    unpicked_among (p ∷ ps) x k = go (is_unpicked w picked p) refl (unpicked_among ps x) k
      where
        behind : (Among x ps × (is_unpicked w picked x ≡ true)) → Among x (p ∷ ps) × (is_unpicked w picked x ≡ true)
        behind r = (inr r.0, r.1)

        go : (t : Bool) → is_unpicked w picked p ≡ t → (Among x (unpicked_of w picked ps) → Among x ps × (is_unpicked w picked x ≡ true))
            → Among x (cond t (p ∷ unpicked_of w picked ps) (unpicked_of w picked ps)) → Among x (p ∷ ps) × (is_unpicked w picked x ≡ true)
        go true t rest k = ⊎_elim (λ same. (inl same, rw same t)) (λ k. behind (rest k)) k
        go false t rest k = behind (rest k)

    unpicked_distinct : (ps : List ℕ) → Distinct ps → Distinct (unpicked_of w picked ps)
    unpicked_distinct [] d = tt
    unpicked_distinct (p ∷ ps) d = go (is_unpicked w picked p) (unpicked_distinct ps d.1)
      where
        go : (t : Bool) → Distinct (unpicked_of w picked ps) → Distinct (cond t (p ∷ unpicked_of w picked ps) (unpicked_of w picked ps))
        go true rest = (λ k. d.0 (unpicked_among ps p k).0, rest)
        go false rest = rest

    -- a position is picked, and no other
    module _ (x : ℕ) (inside : x < w) (free : is_unpicked w picked x ≡ true) where
      own_picked : is_unpicked w (toggle w x picked) x ≡ false
      own_picked =
          let own = xor_own picked (w - 1 - x) (w - 1 - x) refl in
          let clear = eqb-true (picked / bit_in w x % 2) 0 free in
          ne_eqb (toggle w x picked / bit_in w x % 2) 0 (λ e. omega (arith, own, clear))

      others_stay : (p : ℕ) → p < w → (x ≡ p → ⊥) → is_unpicked w (toggle w x picked) p ≡ is_unpicked w picked p
      others_stay p h differs =
          ap (λ n. eqb n 0) (xor_other picked (w - 1 - x) (w - 1 - p) (λ e. differs (sym (same_bit w x p inside h e))))

      one_less : (ps : List ℕ) → ((p : ℕ) → Among p ps → p < w) → unpicked_of w (toggle w x picked) ps ≡ without x (unpicked_of w picked ps)
      one_less [] below = refl
      one_less (p ∷ ps) below = go (eqb x p) refl (one_less ps (λ q k. below q (inr k)))
        where
          kept : (t : Bool) → eqb x p ≡ false → unpicked_of w (toggle w x picked) ps ≡ without x (unpicked_of w picked ps)
              → cond t (p ∷ unpicked_of w (toggle w x picked) ps) (unpicked_of w (toggle w x picked) ps)
              ≡ without x (cond t (p ∷ unpicked_of w picked ps) (unpicked_of w picked ps))
          kept true e rest = rw e (ap (◌∷◌ p) rest)
          kept false e rest = rest

          go : (t : Bool) → eqb x p ≡ t → unpicked_of w (toggle w x picked) ps ≡ without x (unpicked_of w picked ps)
              → unpicked_of w (toggle w x picked) (p ∷ ps) ≡ without x (unpicked_of w picked (p ∷ ps))
          go true t rest =
              let same = eqb-true x p t in
              rw (← same, own_picked, free, eq-eqb x x refl) rest
          go false t rest = rw (others_stay p (below p (inl refl)) (eqb-false x p t)) (kept (is_unpicked w picked p) t rest)

    -- ---- all positions of the width

    all_below : (p : ℕ) → Among p (span 0 w) → p < w
    all_below p k = let r = span_among 0 w p k in omega arith

    all_distinct : Distinct (unpicked_in w picked)
    unfolding unpicked_in
    all_distinct = unpicked_distinct (span 0 w) (span_distinct 0 w)

    -- the position of a rank
    module _ (rank : ℕ) (h : rank < length (unpicked_in w picked)) where
      at_among : Among (unpicked_at w picked rank) (unpicked_in w picked)
      at_among = get_d_among (unpicked_in w picked) rank h

      at_unpicked : Among (unpicked_at w picked rank) (span 0 w) × (is_unpicked w picked (unpicked_at w picked rank) ≡ true)
      unfolding unpicked_in
      at_unpicked = unpicked_among (span 0 w) (unpicked_at w picked rank) at_among

      pub at_below : unpicked_at w picked rank < w
      at_below = all_below _ at_unpicked.0

      picked_without : unpicked_in w (with_rank w picked rank) ≡ without (unpicked_at w picked rank) (unpicked_in w picked)
      unfolding unpicked_in
      picked_without = one_less (unpicked_at w picked rank) at_below at_unpicked.1 (span 0 w) all_below

      picked_length : suc (length (unpicked_in w (with_rank w picked rank))) ≡ length (unpicked_in w picked)
      picked_length = rw picked_without (without_length (unpicked_at w picked rank) (unpicked_in w picked) all_distinct at_among)

  -- ---- the search for a position

  -- the unpicked from a position on
  abbrev left_from : ℕ → ℕ → List ℕ
  left_from picked position = unpicked_of w picked (span position (w - position))

  -- a search that has come to a position: so many unpicked ones stand between it and the one that has a rank among all
  pub record Seeking (picked rank position before : ℕ) : Type 0 where
    pub there : before < length (left_from picked position)
    pub same : get_or (left_from picked position) before 0 ≡ unpicked_at w picked rank

  module _ (picked rank : ℕ) where
    pub seeks : rank < length (unpicked_in w picked) → Seeking picked rank 0 rank
    unfolding unpicked_in
    seeks h = let all : w - 0 ≡ w = omega arith in record { there = rw all h; same = rw all }

    module _ (position before : ℕ) (s : Seeking picked rank position before) where
      pub seek_inside : position < w
      seek_inside = go (w - position) refl s.there
        where
          go : (n : ℕ) → w - position ≡ n → before < length (unpicked_of w picked (span position n)) → position < w
          go zero e h = absurd (omega arith)
          go (suc n) e h = omega arith

      left_step : left_from picked position
          ≡ cond (is_unpicked w picked position) (position ∷ left_from picked (position + 1)) (left_from picked (position + 1))
      left_step = let more : w - position ≡ suc (w - (position + 1)) = omega (arith, seek_inside) in rw (more, add-one position)

      module _ (free : picked / bit_in w position % 2 ≡ 0) where
        left_first : left_from picked position ≡ position ∷ left_from picked (position + 1)
        left_first = left_step ∙ rw (eq-eqb (picked / bit_in w position % 2) 0 free)

        pub seek_nearer : 0 < before → Seeking picked rank (position + 1) (before - 1)
        seek_nearer h =
            let one : before ≡ suc (before - 1) = omega arith in
            let shorter = rw left_first at s.there in
            record { there = omega arith; same = rw (left_first, one) at s.same }

      pub seek_on : (picked / bit_in w position % 2 ≡ 0 → ⊥) → Seeking picked rank (position + 1) before
      seek_on taken =
          let rest : left_from picked position ≡ left_from picked (position + 1) = left_step ∙ rw (ne_eqb (picked / bit_in w position % 2) 0 taken) in
          record { there = rw rest at s.there; same = rw rest at s.same }

  -- ---- all draws

  -- a load after some of its draws: so many positions are unpicked, and what is left leads where all draws lead
  pub record Drawing (seed count done number picked : ℕ) : Type 0 where
    pub few : done ≤ count
    pub unpicked : length (unpicked_in w picked) ≡ w - done
    pub handed : handed_back (count - done) number ≡ handed_back count seed
    pub flipped : in_turn (toggle w) (drawn (count - done) number (unpicked_in w picked)) picked ≡ in_turn (toggle w) (drawn count seed (span 0 w)) 0

  module _ (seed count : ℕ) (fits : count ≤ w) where
    pub none_drawn : Drawing seed count 0 seed 0
    unfolding unpicked_in
    none_drawn =
        let whole : count - 0 ≡ count = omega arith in
        let all : w - 0 ≡ w = omega arith in
        record {
          few = omega arith;
          unpicked = rw (none_picked (span 0 w), all) (span_length 0 w);
          handed = rw whole;
          flipped = rw (whole, none_picked (span 0 w));
        }

    pub one_drawn : (done number picked : ℕ) → Drawing seed count done number picked → done < count
        → Drawing seed count (done + 1) (advance number) (with_rank w picked (rank_of number (w - done)))
    unfolding drawn handed_back
    one_drawn done number picked d more =
        let rank = rank_of number (w - done) in
        let left : count - done ≡ suc (count - (done + 1)) = omega arith in
        let some : 0 < w - done = omega arith in
        let there : rank < length (unpicked_in w picked) = rw d.unpicked (mod-lt _ some) in
        record {
          few = omega arith;
          unpicked = omega (arith, picked_length picked rank there, d.unpicked);
          handed = rw left at d.handed;
          flipped = rw (picked_without picked rank there, ← d.unpicked) (rw left at d.flipped);
        }

    pub all_drawn : (number picked : ℕ) → Drawing seed count count number picked → LoadOf w seed count number picked
    unfolding drawn handed_back
    all_drawn number picked d =
        let none : count - count ≡ 0 = omega arith in
        record { number = rw none at d.handed; picked = rw none at d.flipped }

-- ---- flips in turn

module _ (w : ℕ) where
  xor_in_turn : (ps : List ℕ) (x y : ℕ) → in_turn (toggle w) ps (bit_xor x y) ≡ bit_xor x (in_turn (toggle w) ps y)
  xor_in_turn [] x y = refl
  xor_in_turn (p ∷ ps) x y = rw (xor_assoc x y (bit_in w p)) (xor_in_turn ps x (toggle w p y))

  -- of whatever has a word
  module _ {A : Type 0} (change : ℕ → A → A) (having : ℕ → A) (toggles : (p x : ℕ) → change p (having x) ≡ having (toggle w p x)) where
    toggled_in_turn : (ps : List ℕ) (x : ℕ) → in_turn change ps (having x) ≡ having (in_turn (toggle w) ps x)
    toggled_in_turn [] x = refl
    toggled_in_turn (p ∷ ps) x = rw (toggles p x) (toggled_in_turn ps (toggle w p x))

    pub in_turn_lem : (ps : List ℕ) (x : ℕ) → in_turn change ps (having x) ≡ having (bit_xor x (in_turn (toggle w) ps 0))
    in_turn_lem ps x = rw (toggled_in_turn ps x, ← xor_in_turn ps x 0, xor_zero_r x)

    -- the same changes again undo them
    pub in_turn_twice : (ps : List ℕ) (x : ℕ) → in_turn change ps (in_turn change ps (having x)) ≡ having x
    in_turn_twice ps x =
        rw (in_turn_lem ps x, in_turn_lem ps (bit_xor x (in_turn (toggle w) ps 0)), xor_assoc x (in_turn (toggle w) ps 0), xor_self (in_turn (toggle w) ps 0), xor_zero_r x)
