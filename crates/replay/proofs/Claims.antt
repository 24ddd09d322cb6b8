-- The theorem of specs/Claims.antt. The row of a list of puts of any length passes every test, and its numbers are those lists; all other rows are
-- computed by their definitions.
use Rattle.std.proofs.Common.{◌≡◌, true, ℕ, suc, ◌+◌, ◌-◌, ◌≤◌, List, ◌∷◌, ◌++◌, length, take, drop, refl, arith, append_assoc, length-append}
use Rattle.std.proofs.lemmas.Bool.{le-leb}
use Rattle.std.proofs.Math.Seq.{take-append_seam, drop-append_seam}
use Rattle.trace.specs.Calls.{put_list}
use Rattle.replay.specs.Numbers.{call_with, count_fits, is_call, call_in, calls_in, calls_of}
use Rattle.replay.specs.Claims.{RowsMean}
use Rattle.replay.specs.ContractsOfSteps.{BeginsWith}
use Rattle.replay.proofs.FirstCalls.{first_call}

module _ (start : ℕ) (steps readings more : List ℕ) where
  abbrev count : ℕ
  count = 2 + length steps + length readings

  abbrev row : List ℕ
  row = 7 ∷ count ∷ start ∷ length steps ∷ steps ++ (readings ++ more)

  count_fits_lem : count_fits 7 count (length steps) ≡ true
  unfolding count_fits
  count_fits_lem =
      let two : 2 ≤ count = omega arith in
      let within : length steps ≤ count - 2 = omega arith in
      simp (le-leb _ _ two, le-leb _ _ within)

  both : take (length (steps ++ readings)) (steps ++ (readings ++ more)) ≡ steps ++ readings
  both = rw (← append_assoc steps readings more) (take-append_seam (steps ++ readings) more)

  behind : drop (length (steps ++ readings)) (steps ++ (readings ++ more)) ≡ more
  behind = rw (← append_assoc steps readings more) (drop-append_seam (steps ++ readings) more)

  begins : BeginsWith row (put_list start steps readings) more
  unfolding is_call call_in
  begins =
      let there : 2 + count ≤ length row = simp length-append (omega arith) in
      let numbers : count - 2 ≡ length (steps ++ readings) = simp length-append (omega arith) in
      let whole : 2 + count ≡ suc (suc (suc (suc (length (steps ++ readings))))) = simp length-append (omega arith) in
      record {
        whole = rw (le-leb 2 (length row) (omega arith), count_fits_lem, le-leb (2 + count) (length row) there);
        named = rw (numbers, both, take-append_seam, drop-append_seam);
        after = rw (whole, behind);
        within = there;
      }

  list_row : calls_of row ≡ put_list start steps readings ∷ calls_of more
  list_row = first_call begins

pub rows_mean : RowsMean
unfolding call_with count_fits is_call call_in calls_in
rows_mean =
    record {
      a_put = refl;
      a_flip = refl;
      a_mark = refl;
      a_clear = refl;
      a_read = refl;
      a_survey = refl;
      a_load = refl;
      a_list = refl;
      lists = list_row;
      several = refl;
      among = refl;
      largest = refl;
      no_seed = refl;
      no_kind = refl;
      cut_short = refl;
      steps_past = refl;
      count_below = refl;
      list_cut_short = refl;
      largest_steps = refl;
      largest_count = refl;
    }
