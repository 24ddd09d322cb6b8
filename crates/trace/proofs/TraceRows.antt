-- When each row of the trace calls is met. A row's test is made of comparisons, and says what they say; what a slot holds is bad just where its
-- numbers pass the test of bad ones, and blank just where all three are 0.
use Rattle.std.proofs.Common.{◌≡◌, ℕ, ◌+◌, ◌*◌, ◌^◌, ◌≤◌, Bool, true, false, cond, not, ◌&&◌, eqb, leb, ◌⊎◌, ◌↔◌, length, sym, refl, ◌∙◌, inr, ⊎_elim, arith, pow_pos}
use mathlib.Core.Bool.{false≢true}
use Rattle.codes.specs.Projection.{Projection, width}
use Rattle.codes.specs.Codes.{is_code, step_limit}
use Rattle.codes.proofs.Claims.{word_rows_mean}
use Rattle.codes.proofs.Laws.{code_iff}
use Rattle.codes.proofs.Tests.{leb_iff, ltb_iff, eqb_iff, not_iff, and_iff, or_iff}
use Rattle.trace.specs.declared.slot.Content.{Content}
use Rattle.trace.specs.Lists.{reaches}
use Rattle.trace.specs.Refusals.{is_count, is_fit, is_bad, holds_bad, holds_nothing}
use Rattle.trace.specs.Trace.{content_with}
use Rattle.trace.specs.Claims.{TraceRowsMean}
use Rattle.trace.proofs.PutLists.{reaches_iff}

count_iff : (n : ℕ) → is_count n ≡ true ↔ (1 ≤ n) × (n ≤ 4000)
count_iff n = and_iff (leb 1 n) (leb n 4000) (leb_iff 1 n) (leb_iff n 4000)

pub fit_iff : (before distance n code edition : ℕ) → is_fit before distance n code edition ≡ true
    ↔ (edition ≡ 1) × (((1 ≤ code) × (code ≤ 4)) × (((1 ≤ n) × (n ≤ 4000)) × ((distance ≡ 11 * n) × (distance ≤ before))))
unfolding is_fit
fit_iff before distance n code edition =
    and_iff (eqb edition 1) _ (eqb_iff edition 1)
    (and_iff (is_code code) _ (code_iff code)
    (and_iff (is_count n) _ (count_iff n) (and_iff (eqb distance (11 * n)) (leb distance before) (eqb_iff distance (11 * n)) (leb_iff distance before))))

-- ---- what a slot holds, by its numbers

module _ (π : Projection) (state word marks : ℕ) where
  zero_iff : eqb word 0 && eqb marks 0 ≡ true ↔ (word ≡ 0) × (marks ≡ 0)
  zero_iff = and_iff (eqb word 0) (eqb marks 0) (eqb_iff word 0) (eqb_iff marks 0)

  abbrev Bad : Type 0
  Bad = (2 ≤ state) ⊎ ((2 ^ width π ≤ word) ⊎ ((2 ^ width π ≤ marks) ⊎ ((state ≡ 0) × ((word ≡ 0) × (marks ≡ 0) → ⊥))))

  bad_iff : is_bad π state word marks ≡ true ↔ Bad
  unfolding is_bad
  bad_iff =
      let blank = and_iff (eqb state 0) (not (eqb word 0 && eqb marks 0)) (eqb_iff state 0) (not_iff (eqb word 0 && eqb marks 0) zero_iff) in
      or_iff (leb 2 state) _ (leb_iff 2 state)
      (or_iff (leb (2 ^ width π) word) _ (leb_iff (2 ^ width π) word)
      (or_iff (leb (2 ^ width π) marks) (eqb state 0 && not (eqb word 0 && eqb marks 0)) (leb_iff (2 ^ width π) marks) blank))

  holds_bad_lem : holds_bad (content_with π state word marks) ≡ is_bad π state word marks
  unfolding content_with
  holds_bad_lem = go (is_bad π state word marks) (eqb state 0)
    where
      go : (s t : Bool) → holds_bad (cond s Content.Bad (cond t Content.Blank (Content.Written word marks))) ≡ s
      go true t = refl
      go false true = refl
      go false false = refl

  holds_nothing_lem : holds_nothing (content_with π state word marks) ≡ not (is_bad π state word marks) && eqb state 0
  unfolding content_with
  holds_nothing_lem = go (is_bad π state word marks) (eqb state 0)
    where
      go : (s t : Bool) → holds_nothing (cond s Content.Bad (cond t Content.Blank (Content.Written word marks))) ≡ not s && t
      go true t = refl
      go false true = refl
      go false false = refl

  -- numbers of a blank slot that are not bad are 0, and zeros are not bad
  all_zero : (Bad → ⊥) → state ≡ 0 → (word ≡ 0) × (marks ≡ 0)
  all_zero fine blank = go (eqb word 0 && eqb marks 0) refl
    where
      go : (t : Bool) → eqb word 0 && eqb marks 0 ≡ t → (word ≡ 0) × (marks ≡ 0)
      go true t = zero_iff.0 t
      go false t = absurd (fine (inr (inr (inr (blank, λ zeros. false≢true (sym t ∙ zero_iff.1 zeros))))))

  zero_fine : state ≡ 0 → word ≡ 0 → marks ≡ 0 → Bad → ⊥
  zero_fine s w m =
      let some = pow_pos (width π) in
      ⊎_elim (λ k. omega arith) (⊎_elim (λ k. omega arith) (⊎_elim (λ k. omega arith) (λ k. k.1 (w, m))))

  blank_iff : not (is_bad π state word marks) && eqb state 0 ≡ true ↔ (state ≡ 0) × ((word ≡ 0) × (marks ≡ 0))
  blank_iff =
      let both = and_iff (not (is_bad π state word marks)) (eqb state 0) (not_iff (is_bad π state word marks) bad_iff) (eqb_iff state 0) in
      (λ e. ((both.0 e).1, all_zero (both.0 e).0 (both.0 e).1), λ k. both.1 (zero_fine k.0 k.1.0 k.1.1, k.0))

pub trace_rows_mean : TraceRowsMean
trace_rows_mean =
    record {
      wrong_count_met = λ n. not_iff (is_count n) (count_iff n);
      buffer_short = λ b. ltb_iff _ 8;
      no_room = λ n b. ltb_iff _ _;
      trailer_unfit_met = λ before distance n code edition. not_iff (is_fit before distance n code edition) (fit_iff before distance n code edition);
      no_slot_met = leb_iff;
      bad_slot_met = λ π state word marks. rw (holds_bad_lem π state word marks) (bad_iff π state word marks);
      blank_slot_met = λ π state word marks. rw (holds_nothing_lem π state word marks) (blank_iff π state word marks);
      lost_slot_met = word_rows_mean.none_near_met;
      no_position_met = λ π position. leb_iff (width π) position;
      too_large_met = λ π step reading. or_iff (leb (step_limit π) step) (leb 4096 reading) (leb_iff (step_limit π) step) (leb_iff 4096 reading);
      too_many_met = λ π k. ltb_iff (width π) k;
      past_end_met = λ n start steps. ltb_iff n (start + length steps);
      uneven = λ steps readings. not_iff (eqb (length steps) (length readings)) (eqb_iff (length steps) (length readings));
      one_too_large_met =
          λ π steps readings.
          or_iff (reaches (step_limit π) steps) (reaches 4096 readings) (reaches_iff (step_limit π) steps) (reaches_iff 4096 readings);
    }
