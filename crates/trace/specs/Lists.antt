-- Small functions on lists.
use Rattle.std.specs.Prelude.{ℕ, zero, suc, Bool, cond, List, [], ◌∷◌, ◌==◌, nat_le}
use Rattle.std.specs.List.{list_any}

-- n numbers, from a first one up
abbrev pub span : ℕ → ℕ → List ℕ
span first zero = []
span first (suc n) = first ∷ span (suc first) n

-- a list without a number
abbrev pub without : ℕ → List ℕ → List ℕ
without x [] = []
without x (y ∷ ys) = cond (x == y) (without x ys) (y ∷ without x ys)

-- whether some number of a list is at a limit or above it
abbrev pub reaches : ℕ → List ℕ → Bool
reaches limit = list_any (λ x. nat_le limit x)

-- a change for each number of a list, in turn
abbrev pub in_turn : {A : Type 0} → (ℕ → A → A) → List ℕ → A → A
in_turn change [] x = x
in_turn change (n ∷ ns) x = in_turn change ns (change n x)
