-- What the layers above may cite beside the claims: lists of calls, one call at a time; reads and surveys in the scope's values; a slot's
-- status; what a survey counts. Lists of calls go as their definition says, which stays shut there.
use Rattle.std.proofs.Common.{◌≡◌, List, [], ◌∷◌, refl}
use Rattle.trace.specs.Calls.{After, run}
pub use Rattle.trace.proofs.Readings.{read_step, survey_step}
pub use Rattle.trace.proofs.Statuses.{reading_cases, same_status}
pub use Rattle.trace.proofs.SurveyLaws.{slots_few}

module _ {C S : Type 0} (step : C → S → After S) (s : S) where
  pub run_none : run step [] s ≡ record { answers = []; state = s }
  unfolding run
  run_none = refl

  pub run_more : (c : C) (cs : List C) → run step (c ∷ cs) s
      ≡ record {
        answers = (step c s).answer ∷ (run step cs (step c s).state).answers;
        state = (run step cs (step c s).state).state;
      }
  unfolding run
  run_more c cs = refl
