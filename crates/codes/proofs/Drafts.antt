-- A message's columns, written from the first to the last, and how they become its codeword's.
-- The value of the next column is a digit of the message or of the syndrome, by the number of columns of its kind behind it, and its top
-- bit is the next of the message's; the last top bit is what the top row's parity still wants.
-- Where the columns that are not free have the value 0, the word's syndrome is what they must have for it to be a codeword.
use Rattle.std.proofs.Common.{◌≡◌, ℕ, suc, ◌+◌, ◌-◌, ◌*◌, ◌/◌, ◌^◌, ◌<◌, Bool, true, false, not, List, [], ◌∷◌, ◌++◌, map, length, get_or, take, drop, set, refl, ap, ◌∙◌, arith, length-drop, drop_of_length-le, drop-cons, take-suc-set}
use mathlib.Core.List.{map-append}
use Rattle.symbols.specs.Symbol.{◌⊻◌, Symbol, has_bit}
use Rattle.symbols.specs.Column.{Column, value, column_of, column_with}
use Rattle.codes.specs.Digits.{bits, symbols, digits}
use Rattle.codes.specs.Projection.{Projection, wanted, count, top_bits, message_bits}
use Rattle.codes.specs.Word.{syndrome_of}
use Rattle.codes.specs.Message.{message_of, place, all_tops, columns_with, codeword_of}
use Rattle.codes.specs.ContractsOfWalk.{value_at, drafted}
use Rattle.codes.proofs.Digits.{length_digits, bit_at}
use Rattle.codes.proofs.Placing.{Systematic, length_place, place_zeros}
use Rattle.codes.proofs.Encoding.{with_values, length_tops}
use Rattle.codes.proofs.Sums.{digits_zero}

-- the free columns and the others make up all, and all that are behind column i
count_both : (l : List Bool) → count l + count (map not l) ≡ length l
count_both [] = refl
count_both (true ∷ l) = omega (arith, count_both l)
count_both (false ∷ l) = omega (arith, count_both l)

pub count_behind : (l : List Bool) (i : ℕ) → count (drop (suc i) l) + count (map not (drop (suc i) l)) ≡ length l - suc i
count_behind l i = count_both (drop (suc i) l) ∙ length-drop (suc i) l

-- the values of some columns, where the free ones have the digits of x and the others those of s
abbrev pub values_of : List Bool → ℕ → ℕ → List Symbol
values_of l x s = place l (digits symbols (count l) x) (digits symbols (count (map not l)) s)

values_cons : (b : Bool) (l : List Bool) (x s : ℕ) → values_of (b ∷ l) x s ≡ value_at (b ∷ l) x s ∷ values_of l x s
values_cons true l x s = refl
values_cons false l x s = refl

-- column i, by whether it is free, and the values from it on
module _ (l : List Bool) (i : ℕ) (h : i < length l) where
  pub value_from : (x s : ℕ) {b : Bool} → get_or l i false ≡ b → value_at (drop i l) x s ≡ value_at (b ∷ drop (suc i) l) x s
  value_from x s e = rw (drop-cons l i false, e)

  values_from : (x s : ℕ) → values_of (drop i l) x s ≡ value_at (drop i l) x s ∷ values_of (drop (suc i) l) x s
  values_from x s =
      rw (drop-cons l i false) (values_cons (get_or l i false) (drop (suc i) l) x s)

-- p is a message's highest bit
pub parity_bit : (π : Projection) (n : ℕ) → has_bit (message_bits π - 1) n ≡ (message_of π n).parity
parity_bit π n =
    let e : message_bits π - 1 ≡ 2 * count π.free + top_bits π = omega arith in
    rw e

-- one column more is stored
pub stored_more : (a : List ℕ) (i v : ℕ) → i < length a →
    map column_of (take (suc i) (set a i v)) ≡ map column_of (take i a) ++ (column_of v ∷ [])
stored_more a i v h = ap (map column_of) (take-suc-set a i v h) ∙ map-append column_of (take i a) (v ∷ [])

-- column i of a message, with a top bit; and the columns from i on, where the top bits that are left bring the top row's parity to t
abbrev pub draft_at : Projection → ℕ → ℕ → ℕ → Bool → Column
draft_at π n s i t = column_with (message_of π n).parity (value_at (drop i π.free) (n / 2 ^ top_bits π) s) t

abbrev pub draft_from : Projection → ℕ → ℕ → ℕ → Bool → List Column
draft_from π n s i t =
    columns_with (message_of π n).parity (values_of (drop i π.free) (n / 2 ^ top_bits π) s) (all_tops t (digits bits (top_bits π - i) n))

module _ (π : Projection) (sys : Systematic π) (n s : ℕ) where
  abbrev p : Bool
  p = (message_of π n).parity

  abbrev x : ℕ
  x = n / 2 ^ top_bits π

  pub draft_next : (i : ℕ) (t : Bool) → i < top_bits π →
      draft_from π n s i t ≡ draft_at π n s i (has_bit (top_bits π - 1 - i) n) ∷ draft_from π n s (suc i) (has_bit (top_bits π - 1 - i) n ⊻ t)
  draft_next i t h =
      let k = top_bits π - 1 - i in
      let more : top_bits π - i ≡ suc k = omega arith in
      let rest : k ≡ top_bits π - suc i = omega arith in
      rw (values_from π.free i (omega (arith, sys.flags)) x s, more, bit_at k n, rest)

  pub draft_last : (t : Bool) → draft_from π n s (top_bits π) t ≡ draft_at π n s (top_bits π) t ∷ []
  draft_last t =
      let none : top_bits π - top_bits π ≡ 0 = omega arith in
      let inside : top_bits π < length π.free = omega (arith, sys.flags, sys.some) in
      let end : drop (suc (top_bits π)) π.free ≡ [] = drop_of_length-le π.free {i = suc (top_bits π)} (omega (arith, sys.flags)) in
      rw (values_from π.free (top_bits π) inside x s, none, end)

  -- with no syndrome the others are 0; with the syndrome that this has, the columns are the codeword's
  draft_values : map value (drafted π n 0) ≡ place π.free (message_of π n).values []
  draft_values =
      let fs = (message_of π n).values in
      let ds = digits symbols π.rows 0 in
      let ts = (message_of π n).tops in
      let t = wanted π.rule p in
      with_values p (place π.free fs ds) (all_tops t ts)
      (omega (arith, length_place π.free fs ds, sys.flags, sys.some, length_tops t ts, length_digits bits (top_bits π) n))
      ∙ ap (place π.free fs) (digits_zero π.rows) ∙ place_zeros π.free fs π.rows

  pub draft_codeword : digits symbols π.rows s ≡ syndrome_of π (drafted π n 0) → drafted π n s ≡ codeword_of π (message_of π n)
  draft_codeword e =
      let m = message_of π n in
      rw (e, draft_values)
