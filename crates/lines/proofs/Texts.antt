-- What the numbers of a list are written as, one after the other: after the first i of them there is room for one more, which follows.
use mathlib.Core.Path.{◌≡◌, refl, sym, ap, ◌∙◌}
use mathlib.Core.List.{List, [], ◌∷◌, ◌++◌, append_assoc, append-nil}
use Prim.Native.Nat.{ℕ, ◌+◌, ◌<◌, ◌≤◌}
use native.Mathlib.Omega.{arith}
use native.Mathlib.Numerals.{add-one}
use lib.ListN.{length, take, drop, get_or, length-append}
use lib.Seq.{take-suc}
use Rattle.std.proofs.Common.{take-append-drop}
use Rattle.lines.specs.Text.{each}

pub each_append : (f : ℕ → List ℕ) (l m : List ℕ) → each f (l ++ m) ≡ each f l ++ each f m
unfolding each
each_append f [] m = refl
each_append f (n ∷ l) m = rw (each_append f l m) (sym (append_assoc (f n) (each f l) (each f m)))

one_more : (f : ℕ → List ℕ) (l : List ℕ) (i : ℕ) → i < length l → each f (take (i + 1) l) ≡ each f (take i l) ++ f (get_or l i 0)
unfolding each
one_more f l i h =
    rw (add-one, take-suc l i 0 h) (each_append f (take i l) (get_or l i 0 ∷ [])
    ∙ ap (λ (t : List ℕ). each f (take i l) ++ t) (append-nil (f (get_or l i 0))))

-- where the first i numbers are written behind a text, there is room for one more, and it follows
module _ (f : ℕ → List ℕ) (l : List ℕ) (i : ℕ) (h : i < length l) (before now : List ℕ) (written : now ≡ before ++ each f (take i l)) where
  pub each_room : (capacity : ℕ) → length before + length (each f l) ≤ capacity → length now + length (f (get_or l i 0)) ≤ capacity
  each_room capacity room =
      let whole = each_append f (take (i + 1) l) (drop (i + 1) l) in
      let split : each f l ≡ each f (take (i + 1) l) ++ each f (drop (i + 1) l) = rw (← whole, take-append-drop (i + 1) l) in
      let all = simp (length-append, one_more f l i h) at (ap length split) in
      omega (arith, simp length-append at (ap length written))

  pub each_more : (next : List ℕ) → next ≡ now ++ f (get_or l i 0) → next ≡ before ++ each f (take (i + 1) l)
  each_more next e = e ∙ simp (written, one_more f l i h, append_assoc)
