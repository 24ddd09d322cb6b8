-- The row that a list of numbers begins with: the numbers that follow its kind and count fit the kind exactly where the list begins with a call, and
-- name that call. What lies past a call's numbers tells nothing, since a kind that would read it has more of them.
use Rattle.std.proofs.Common.{◌≡◌, true, false, ◌&&◌, ℕ, ◌+◌, ◌-◌, ◌<◌, ◌≤◌, List, length, get_or, take, drop, ap, ◌∙◌, inl, inr, arith, eqb, length-drop}
use Rattle.std.proofs.lemmas.Bool.{le-leb}
use Rattle.std.proofs.lemmas.Bool.Decides.{eqb_tells}
use Rattle.std.proofs.Math.Bool.{and-eq-true_iff}
use Rattle.std.proofs.lemmas.List.{get_or-take, get_or-drop, length-take-le, drop-take, drop-drop}
use Rattle.replay.specs.Numbers.{kinds, count_fits, seed_fits, is_call, call_in, call_with}
use Rattle.replay.specs.ContractsOfSteps.{fits, named}

-- a number that the call doesn't have makes no difference to whether its numbers fit
same_fit : (kind n y y' : ℕ) → (1 < n → y ≡ y') → (count_fits kind n y && seed_fits kind y) ≡ (count_fits kind n y' && seed_fits kind y')
unfolding count_fits
same_fit kind n y y' same = grind arith

-- numbers that fit any kind but a list of puts
known : (kind n y : ℕ) → count_fits kind n y ≡ true → eqb kind 7 ≡ false → (kind < 7) × (n ≡ get_or kinds kind 0)
unfolding count_fits
known kind n y fit other = grind arith

-- nor to which call of such a kind it is
same_call : (kind n x y z x' y' z' : ℕ) → kind < 7 → n ≡ get_or kinds kind 0
    → (0 < n → x ≡ x') → (1 < n → y ≡ y') → (2 < n → z ≡ z') → call_with kind x y z ≡ call_with kind x' y' z'
unfolding call_with
same_call kind n x y z x' y' z' lt size first second third = grind arith

-- a list of puts has its start and the count of its steps
list_size : (n y : ℕ) → count_fits 7 n y ≡ true → 2 ≤ n
unfolding count_fits
list_size n y fit = grind arith

module _ (xs : List ℕ) (within : 2 + get_or xs 1 0 ≤ length xs) where
  -- the call's numbers
  abbrev numbers : List ℕ
  numbers = take (get_or xs 1 0) (drop 2 xs)

  length_numbers : length numbers ≡ get_or xs 1 0
  length_numbers = length-take-le (get_or xs 1 0) (drop 2 xs) (rw length-drop (omega arith))

  number_at : (i : ℕ) → i < get_or xs 1 0 → get_or xs (2 + i) 0 ≡ get_or numbers i 0
  number_at i h = rw (get_or-take, get_or-drop)

  pub row_whole : is_call xs ≡ fits (get_or xs 0 0) numbers
  unfolding is_call
  row_whole =
      let head : 2 ≤ length xs = omega arith in
      rw (le-leb 2 (length xs) head, le-leb (2 + get_or xs 1 0) (length xs) within, length_numbers)
      (same_fit (get_or xs 0 0) (get_or xs 1 0) (get_or xs 3 0) (get_or numbers 1 0) (number_at 1))

  pub row_named : fits (get_or xs 0 0) numbers ≡ true → call_in xs ≡ named (get_or xs 0 0) numbers
  unfolding call_in
  row_named fit =
      let kind = get_or xs 0 0 in
      let n = get_or xs 1 0 in
      let fitted : count_fits kind n (get_or numbers 1 0) ≡ true = rw length_numbers at ((and-eq-true_iff (count_fits kind (length numbers) (get_or numbers 1 0)) _).0 fit).0 in
      elim (eqb_tells kind 7) [
        | inl w ↦
            let two : 2 ≤ n = list_size n (get_or numbers 1 0) (rw w.1 at fitted) in
            let size : n ≡ 2 + (n - 2) = omega arith in
            let lists : drop 2 numbers ≡ take (n - 2) (drop 4 xs) = ap (λ k. drop 2 (take k (drop 2 xs))) size ∙ rw drop-drop at (drop-take 2 (n - 2) (drop 2 xs)) in
            rw (w.0, number_at 0 (omega arith), number_at 1 (omega arith), lists)
        | inr w ↦
            let other = known kind n (get_or numbers 1 0) fitted w.0 in
            rw w.0 (same_call kind n _ _ _ _ _ _ other.0 other.1 (number_at 0) (number_at 1) (number_at 2))
      ]
