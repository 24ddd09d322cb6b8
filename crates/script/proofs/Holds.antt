-- A line that is held byte by byte. While it has at most as many bytes as the longest, each byte stands behind those before it, so that what
-- is held is what was held and then the line. The byte that is one too many makes it too long, and so it stays.
use Rattle.std.proofs.Common.{◌≡◌, Some, None, List, [], ◌∷◌, ◌++◌, ℕ, ◌+◌, ◌<◌, ◌≤◌, length, refl, sym, ap, ◌∙◌, arith, append_assoc, length-append, inl, inr}
use Rattle.std.proofs.lemmas.List.{append-nil}
use Rattle.std.proofs.lemmas.Bool.{cases_lt}
use borrow.Author.Tests.{lt-ltb, le-ltb}
use Rattle.script.specs.Held.{longest_line, hold, hold_all}
use Rattle.script.specs.Claims.{LinesHeld}

hold_next : (c : ℕ) (line : List ℕ) → length line < longest_line → hold c (Some line) ≡ Some (line ++ c ∷ [])
hold_next c line h = simp (lt-ltb (length line) longest_line h)

hold_long : (c : ℕ) (line : List ℕ) → longest_line ≤ length line → hold c (Some line) ≡ None
hold_long c line h = simp (le-ltb (length line) longest_line h)

-- a line that still has room
hold_all_lem : (cs line : List ℕ) → length line + length cs ≤ longest_line → hold_all cs (Some line) ≡ Some (line ++ cs)
hold_all_lem [] line fits = ap (λ (l : List ℕ). Some l) (sym (append-nil line))
hold_all_lem (c ∷ cs) line fits =
    ap (hold_all cs) (hold_next c line (omega arith)) ∙ hold_all_lem cs (line ++ c ∷ []) (omega (arith, length-append line (c ∷ [])))
    ∙ ap (λ (l : List ℕ). Some l) (append_assoc line (c ∷ []) cs)

too_long : (cs : List ℕ) → hold_all cs None ≡ None
too_long [] = refl
too_long (c ∷ cs) = too_long cs

-- one that has none left
hold_beyond : (cs line : List ℕ) → length line ≤ longest_line → longest_line < length line + length cs → hold_all cs (Some line) ≡ None
hold_beyond [] line h long = absurd (omega arith)
hold_beyond (c ∷ cs) line h long = elim (cases_lt (length line) longest_line) [
  | inl room ↦
      let size = length-append line (c ∷ []) in
      ap (hold_all cs) (hold_next c line room) ∙ hold_beyond cs (line ++ c ∷ []) (omega (arith, size)) (omega (arith, size))
  | inr full ↦ ap (hold_all cs) (hold_long c line full) ∙ too_long cs
]

pub lines_held : LinesHeld
lines_held = record { held = λ line fits. hold_all_lem line [] (omega arith); long = λ line long. hold_beyond line [] (omega arith) (omega arith) }
