-- The table of columns is tested at its sixteen entries.
use mathlib.Core.Path.{◌≡◌, ◌∙◌}
use mathlib.Core.Bool.{Bool}
use Prim.Native.Nat.{ℕ, ◌+◌, ◌*◌, ◌/◌, ◌%◌, ◌^◌}
use native.Mathlib.Nat.{mod-lt}
use lib.Dec.{T, lit<}
use Rattle.symbols.specs.Symbol.{symbol_of}
use Rattle.symbols.specs.Column.{one, column_number, column_with}
use Rattle.symbols.proofs.Every.{bits, ◌⊗◌, below, passes, law_below, number_discrete}
use Rattle.symbols.proofs.Numbers.{symbol_mod}
use Rattle.symbols.proofs.column_with.Goals as goal

-- an entry of a table that is packed into the number w, and the test of the four entries of one parity and top bit
abbrev entry : ℕ → ℕ → ℕ → ℕ → ℕ
entry w p v t = w / 2 ^ (32 * p + 8 * v + 4 * t) % 16

abbrev right : ℕ → Bool → Bool → Bool
right w p t = below 4 (λ v. passes (number_discrete (entry w (one p) v (one t)) (column_number (column_with p (symbol_of v) t))))

entry_right : (w : ℕ) → T ((bits ⊗ bits).all (λ (p, t). right w p t)) →
    (p : Bool) (v : ℕ) (t : Bool) → entry w (one p) (v % 4) (one t) ≡ column_number (column_with p (symbol_of v) t)
entry_right w h p v t =
    law_below 4 number_discrete (λ v. entry w (one p) v (one t)) (λ v. column_number (column_with p (symbol_of v) t))
    ((bits ⊗ bits).at (λ (p, t). right w p t) h (p, t)) (v % 4) (mod-lt v (lit< tt))
    ∙ rw (symbol_mod v)

pub returns : goal.returns
unfolding column_with
returns c = rw (c.one.ensures, c.one-2.ensures) (entry_right _ tt c.args.parity c.args.value c.args.top)
