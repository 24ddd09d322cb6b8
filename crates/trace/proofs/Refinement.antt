-- A call on the bytes of a sound plain trace gives the plain trace's answer and leaves the bytes of the plain trace after it; so does any list of
-- calls. 7 and 8 pass, a call sees the same on both levels, so that the one table of refusals and answers says the same of both, and what is
-- particular to a call is in 'CallFacts'. A list follows by 'Runs'.
use Rattle.std.proofs.Common.{◌≡◌, ℕ, List, refl, ◌∙◌}
use Rattle.codes.specs.Answer.{Answer, accepted, refused, unless}
use Rattle.trace.specs.Calls.{Call, outcome, run}
use Rattle.trace.specs.Rules.{refusals, gives}
use Rattle.trace.specs.Trace.{view_in, trailer_rows, leaves, on_bytes}
use Rattle.trace.specs.Plain.{Plain, view_of, bytes, plain_leaves, on_plain}
use Rattle.trace.proofs.Outcomes.{outcome_holds}
use Rattle.codes.proofs.Rows.{unless_behind}
use Rattle.trace.proofs.Runs as runs
use Rattle.trace.proofs.Runs.{imaged, imaged_run}
use Rattle.trace.proofs.Stored.{Sound, opens, seen_alike}
use Rattle.trace.proofs.CallFacts.{facts}

-- ---- one call

outcome_bytes : (a : Answer (List ℕ)) (b : List ℕ) (new old : Plain) → ((vs : List ℕ) → a ≡ accepted vs → b ≡ bytes new)
    → outcome a b (bytes old) ≡ imaged bytes (outcome a new old)
outcome_bytes (accepted vs) b new old e = rw (e vs refl)
outcome_bytes (refused n) b new old e = refl

pub step_same : (c : Call) (p : Plain) → Sound p → on_bytes c (bytes p) ≡ imaged bytes (on_plain c p)
unfolding on_bytes on_plain
step_same c p s =
    let b = bytes p in
    rw (unless_behind (trailer_rows b) (refusals c (view_in b)) (gives c (view_in b)) (opens p s), seen_alike p s)
    (outcome_bytes (unless (refusals c (view_of p)) (gives c (view_of p))) (leaves c b) (plain_leaves c p) p (λ vs e. ((facts c).left p s vs e).same))

-- ---- what every call keeps

-- a sound trace of a code
pub record SoundAs (number : ℕ) (p : Plain) : Type 0 where
  pub sound : Sound p
  pub code : p.code ≡ number

step_kept : (code : ℕ) (c : Call) (p : Plain) → SoundAs code p → SoundAs code (on_plain c p).state
unfolding on_plain
step_kept code c p s =
    outcome_holds (SoundAs code) (unless (refusals c (view_of p)) (gives c (view_of p))) (plain_leaves c p) p
    (λ vs e. let l = (facts c).left p s.sound vs e in record { sound = l.sound; code = l.code ∙ s.code }) s

-- ---- any list of calls

module _ (code : ℕ) (cs : List Call) (p : Plain) (s : SoundAs code p) where
  pub run_same : run on_bytes cs (bytes p) ≡ imaged_run bytes (run on_plain cs p)
  run_same = runs.run_same on_plain (SoundAs code) (step_kept code) on_bytes bytes (λ c p s. step_same c p s.sound) cs p s

  pub run_kept : SoundAs code (run on_plain cs p).state
  run_kept = runs.run_kept on_plain (SoundAs code) (step_kept code) cs p s
