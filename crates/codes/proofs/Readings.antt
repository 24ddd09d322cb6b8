-- A message out of a word's columns, its highest part first: p, then the free values, then the top bits but the last.
-- At each step the number so far, followed by the digits of the columns that are left, is the whole; the whole is a message of the code, so
-- the number so far is below the code's limit. Columns behind the last change nothing: they are not free and have no top bit in a message,
-- and no digit is left there. So the steps may go on to the end of the array.
use Rattle.std.proofs.Common.{◌≡◌, ℕ, zero, suc, ◌+◌, ◌*◌, ◌^◌, ◌<◌, ◌≤◌, Bool, true, false, cond, ltb, List, [], ◌∷◌, map, length, get_or, take, drop, refl, lt_of_le_of_lt, lt_of_lt_of_le, pow_mono, inl, inr, arith, drop_of_length-le, drop-cons, get_or-take, le-ltb, lt-ltb}
use Rattle.std.proofs.lemmas.Bool.{cases_lt}
use lib.ListN.{get_or-eq_default, get_or-map, length-map}
use Rattle.symbols.specs.Symbol.{Symbol, symbol_number}
use Rattle.symbols.specs.Column.{Column, value, top, one, column_of}
use Rattle.codes.specs.declared.code.Code.{Code}
use Rattle.codes.specs.Digits.{Digit, bits, symbols}
use Rattle.codes.specs.Projection.{Projection, size, top_bits, message_bits}
use Rattle.codes.specs.Message.{chosen, but_last, message_in, message_number}
use Rattle.codes.specs.Codes.{projection}
use Rattle.codes.specs.ContractsOfWalk.{held, high_part}
use Rattle.codes.proofs.Codes.{size_le, bits_le, systematic}
use Rattle.codes.proofs.Digits.{Fit, symbols_fit, bits_fit}
use Rattle.codes.proofs.Horner.{followed, followed_next, followed_le}
use Rattle.codes.proofs.Placing.{Systematic}
use Rattle.codes.proofs.Encoding.{sized}
use Rattle.codes.proofs.Messages.{message_below}
use Rattle.codes.proofs.Walks.{length_held, held_from}

-- the values of the free columns, one column further
chosen_next : (n : ℕ) (b : Bool) (l : List Bool) (v : Symbol) (vs : List Symbol) →
    followed symbols n (chosen (b ∷ l) (v ∷ vs)) ≡ followed symbols (cond b (n * 4 + symbol_number v) n) (chosen l vs)
chosen_next n true l v vs = followed_next symbols n v (chosen l vs)
chosen_next n false l v vs = refl

-- all but the last of a list, from place i on
but_last_from : (l : List Bool) (i : ℕ) → suc i < length l → drop i (but_last l) ≡ get_or l i false ∷ drop (suc i) (but_last l)
but_last_from [] i h = absurd (omega arith)
but_last_from (b ∷ []) i h = absurd (omega arith)
but_last_from (b ∷ (c ∷ l)) zero h = refl
but_last_from (b ∷ (c ∷ l)) (suc i) h = but_last_from (c ∷ l) i (omega arith)

module _ (π : Projection) (sys : Systematic π) (a : List ℕ) (room : size π ≤ length a) where
  abbrev cs : List Column
  cs = held π a

  long : length (held π a) ≡ size π
  long = length_held π a room

  -- behind the last column no value is left
  pub no_value : (i : ℕ) → size π ≤ i → chosen (drop i π.free) (map value (drop i (held π a))) ≡ []
  no_value i h = rw (drop_of_length-le π.free {i = i} (omega (arith, sys.flags)))

  -- a free column's value joins the number, and that of another doesn't
  pub read_value : (i n : ℕ) →
      followed symbols n (chosen (drop i π.free) (map value (drop i (held π a))))
      ≡ followed symbols (cond (get_or π.free i false) (n * 4 + symbol_number (value (column_of (get_or a i 0)))) n)
      (chosen (drop (suc i) π.free) (map value (drop (suc i) (held π a))))
  read_value i n =
      elim (cases_lt i (size π)) [
        | inl h ↦
            rw (drop-cons π.free i false (omega (arith, sys.flags)), held_from π a room i h)
            (chosen_next n (get_or π.free i false) (drop (suc i) π.free) (value (column_of (get_or a i 0))) (map value (drop (suc i) cs)))
        | inr h ↦ rw (no_value i h, no_value (suc i) (omega arith), get_or-eq_default π.free false {n = i} (omega (arith, sys.flags)))
      ]

  -- the whole, before the top bits are read
  pub read_tops : followed bits (high_part π (held π a)) (but_last (map top (held π a))) ≡ message_number π (message_in π (held π a))
  read_tops = rw (sized π sys cs long).tops

  -- from the last column on no top bit is left
  pub no_top : (i : ℕ) → top_bits π ≤ i → drop i (but_last (map top (held π a))) ≡ []
  no_top i h = drop_of_length-le (but_last (map top cs)) {i = i} (omega (arith, (sized π sys cs long).tops))

  -- a column's top bit joins the number, and those of the last column and behind it don't
  pub read_top : (i n : ℕ) →
      followed bits n (drop i (but_last (map top (held π a))))
      ≡ followed bits (cond (ltb i (top_bits π)) (n * 2 + one (top (column_of (get_or a i 0)))) n) (drop (suc i) (but_last (map top (held π a))))
  read_top i n =
      elim (cases_lt i (top_bits π)) [
        | inl h ↦
            rw (
              lt-ltb i (top_bits π) h,
              but_last_from (map top cs) i (omega (arith, long, length-map cs top)),
              get_or-map top cs i (column_of 0),
              get_or-map column_of (take (size π) a) i 0,
              get_or-take (size π) a i 0 (omega arith),
            )
            (followed_next bits n (top (column_of (get_or a i 0))) (drop (suc i) (but_last (map top cs))))
        | inr h ↦ rw (le-ltb i (top_bits π) h, no_top i h, no_top (suc i) (omega arith))
      ]

  -- the whole, and its high part, are below the code's limit
  pub message_bounded : message_number π (message_in π (held π a)) < 2 ^ message_bits π
  message_bounded = message_below π (message_in π cs) (sized π sys cs long)

  pub high_bounded : high_part π (held π a) < 2 ^ message_bits π
  high_bounded =
      lt_of_le_of_lt (rw (read_tops) at (followed_le bits bits_fit (high_part π cs) (but_last (map top cs)))) message_bounded

-- and so is the number so far, of an array that has room for every code
module _ (code : Code) (a : List ℕ) (room : length a ≡ 10) (i n : ℕ) where
  abbrev δ : Projection
  δ = projection code

  holds : size δ ≤ length a
  holds = omega (arith, size_le code)

  so_far : {A : Type 0} (d : Digit A) → Fit d → (rest : List A) (whole : ℕ) → whole < 2 ^ message_bits δ → followed d n rest ≡ whole → n < 2 ^ 22
  so_far d fit rest whole below e = lt_of_le_of_lt (rw (e) at (followed_le d fit n rest)) (lt_of_lt_of_le below (pow_mono (bits_le code)))

  pub high_so_far : followed symbols n (chosen (drop i δ.free) (map value (drop i (held δ a)))) ≡ high_part δ (held δ a) → n < 2 ^ 22
  high_so_far = so_far symbols symbols_fit _ _ (high_bounded δ (systematic code) a holds)

  pub message_so_far : followed bits n (drop i (but_last (map top (held δ a)))) ≡ message_number δ (message_in δ (held δ a)) → n < 2 ^ 22
  message_so_far = so_far bits bits_fit _ _ (message_bounded δ (systematic code) a holds)
