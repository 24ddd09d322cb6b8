-- Two machines run the same list of calls, and each state of the one is the image of a state of the other. If every single call answers alike
-- and leaves the image, so does every list of calls, and what each call keeps, the list keeps. By induction on the list.
use Rattle.std.proofs.Common.{◌≡◌, List, [], ◌∷◌, ◌++◌, refl}
use Rattle.trace.specs.Calls.{After, after, Run, run}

-- what a call, and what a list of calls, leaves, seen through a map of states
module _ {S T : Type 0} (image : T → S) where
  abbrev pub imaged : After T → After S
  imaged r = after r.answer (image r.state)

  abbrev pub imaged_run : Run T → Run S
  imaged_run r = record { answers = r.answers; state = image r.state }

-- a list of calls behind another
pub run_append : {C S : Type 0} (step : C → S → After S) (cs ds : List C) (s : S)
    → (run step (cs ++ ds) s).state ≡ (run step ds (run step cs s).state).state
unfolding run
run_append step [] ds s = refl
run_append step (c ∷ cs) ds s = run_append step cs ds (step c s).state

-- what each call keeps
module _ {C T : Type 0} (step : C → T → After T) (Inv : T → Type 0) (kept : (c : C) (t : T) → Inv t → Inv (step c t).state) where
  pub run_kept : (cs : List C) (t : T) → Inv t → Inv (run step cs t).state
  unfolding run
  run_kept [] t i = i
  run_kept (c ∷ cs) t i = run_kept cs (step c t).state (kept c t i)

  -- a second machine, of which each state is an image
  module _ {S : Type 0} (other : C → S → After S) (image : T → S) (same : (c : C) (t : T) → Inv t → other c (image t) ≡ imaged image (step c t)) where
    pub run_same : (cs : List C) (t : T) → Inv t → run other cs (image t) ≡ imaged_run image (run step cs t)
    unfolding run
    run_same [] t i = refl
    run_same (c ∷ cs) t i = rw (same c t i, run_same cs (step c t).state (kept c t i))
