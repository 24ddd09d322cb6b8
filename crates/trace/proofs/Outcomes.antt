-- What a call's answer makes of the states before and after it: the answer stays, an accepted call leaves the new state, a refused one the old.
-- By the two cases of an answer.
use Rattle.std.proofs.Common.{◌≡◌, ℕ, List, sym, refl}
use Rattle.codes.specs.Answer.{Answer, accepted, refused}
use Rattle.codes.proofs.Rows.{not_refused}
use Rattle.trace.specs.Calls.{after, outcome}

module _ {S : Type 0} where
  pub outcome_answer : (a : Answer (List ℕ)) (new old : S) → (outcome a new old).answer ≡ a
  outcome_answer (accepted vs) new old = refl
  outcome_answer (refused n) new old = refl

  -- a call that changes nothing where it is accepted changes nothing
  pub outcome_same : (a : Answer (List ℕ)) (s : S) → outcome a s s ≡ after a s
  outcome_same (accepted vs) s = refl
  outcome_same (refused n) s = refl

  -- an accepted call leaves the new state
  pub outcome_accepted : (a : Answer (List ℕ)) (new old : S) (vs : List ℕ) → (outcome a new old).answer ≡ accepted vs
      → (a ≡ accepted vs) × ((outcome a new old).state ≡ new)
  outcome_accepted (accepted ws) new old vs e = (e, refl)
  outcome_accepted (refused n) new old vs e = not_refused vs n (sym e)

  -- 'Refused calls change nothing'
  pub outcome_refused : (a : Answer (List ℕ)) (new old : S) (n : ℕ) → (outcome a new old).answer ≡ refused n
      → (a ≡ refused n) × ((outcome a new old).state ≡ old)
  outcome_refused (accepted vs) new old n e = not_refused vs n e
  outcome_refused (refused k) new old n e = (e, refl)

  -- what holds of the state before, and of the state after an accepted call, holds of the state after
  pub outcome_holds : (P : S → Type 0) (a : Answer (List ℕ)) (new old : S) → ((vs : List ℕ) → a ≡ accepted vs → P new) → P old
      → P (outcome a new old).state
  outcome_holds P (accepted vs) new old f h = f vs refl
  outcome_holds P (refused n) new old f h = h
