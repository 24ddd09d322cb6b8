-- What a call answers, in the scope's numbers, and how its refusals are ordered.
use Rattle.std.specs.Prelude.{◌≡◌, ℕ, Bool, cond, List, [], ◌∷◌}
use Rattle.std.proofs.Math.Option.{Option, none, some}

-- accepted with a value, or refused with a number alone
pub data Answer (A : Type 0) : Type 0 where
  accepted : A → Answer A
  refused : ℕ → Answer A

-- an answer with its value put in another form
abbrev pub map_answer : {A B : Type 0} → (A → B) → Answer A → Answer B
map_answer f (accepted v) = accepted (f v)
map_answer f (refused n) = refused n

-- a refusal of a call: its number, and whether it is met
pub record Row : Type 0 where
  pub number : ℕ
  pub met : Bool

-- the first row of a call's table that is met is returned, alone ('The smallest number that applies is returned, alone': the scope's rows
-- stand in the order of their numbers, but for 5 on a read, which stands last)
abbrev pub unless : {A : Type 0} → List Row → Answer A → Answer A
unless [] a = a
unless (r ∷ rs) a = cond r.met (refused r.number) (unless rs a)

-- the number of the first row of a table that is met
abbrev pub first_met : List Row → Option ℕ
first_met [] = none
first_met (r ∷ rs) = cond r.met (some r.number) (first_met rs)

-- no row of a table is met; the first that is met has a number
abbrev pub Passes : List Row → Type 0
Passes rows = first_met rows ≡ none

abbrev pub Refuses : List Row → ℕ → Type 0
Refuses rows n = first_met rows ≡ some n
