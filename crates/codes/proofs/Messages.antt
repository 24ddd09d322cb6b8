-- Messages and words as numbers: what holds of lists of columns holds of the numbers that the calls take and give.
-- A message's number has p highest, then the free values in base 4, then the top bits in base 2, so that its parts are quotients
-- and remainders by powers of two. A word's number has its columns for digits in base 16. So a message below the code's limit, a message
-- as its parts, its codeword's columns and the codeword's number are all each other's.
use Rattle.std.proofs.Common.{◌≡◌, ℕ, ◌+◌, ◌*◌, ◌/◌, ◌%◌, ◌^◌, ◌<◌, ◌≤◌, Bool, true, List, length, sym, ap, ◌∙◌, lt_of_lt_of_le, mod-eq_of_lt, add_comm, div-add-mod', arith, lit<, pow_mono, pow-add, shr_lt}
use lib.Arith.{digits_lt, digits_div, digits_mod, mod-mul}
use Rattle.symbols.specs.Symbol.{has_bit}
use Rattle.symbols.specs.Column.{Column, one}
use Rattle.codes.specs.Digits.{bits, symbols, columns, digits, number_of}
use Rattle.codes.specs.Projection.{Projection, count, size, width, top_bits, message_bits}
use Rattle.codes.specs.Word.{word, word_number, is_codeword}
use Rattle.codes.specs.Message.{Message, message_of, message_number, message_in, codeword_of, encode, decode}
use Rattle.codes.proofs.Digits.{bits_fit, symbols_fit, columns_fit, length_digits, place_pos, number_lt}
use Rattle.codes.proofs.Digits.{number_digits, digits_remainder, digits_again, number_again, pow_mul, shift_shift, bit_at}
use Rattle.codes.proofs.Words.{Codeword, codeword_parity, is_codeword_lem, length_word}
use Rattle.codes.proofs.Placing.{Systematic}
use Rattle.codes.proofs.Encoding.{Sized, length_codeword, message_codeword, message_of_codeword, sized, codeword_of_message}

module _ (π : Projection) where
  -- the number of free values, and of the top bits that a message has
  abbrev F : ℕ
  F = count π.free

  abbrev K : ℕ
  K = top_bits π

  message_sized : (n : ℕ) → Sized π (message_of π n)
  message_sized n = record { values = length_digits symbols F (n / 2 ^ K); tops = length_digits bits K n }

  -- p is the bit above the values
  high_bit : (n : ℕ) → (message_of π n).parity ≡ has_bit 0 (n / 2 ^ top_bits π / 4 ^ count π.free)
  high_bit n = rw (add_comm (2 * F) K, ← bit_at (K + 2 * F) n, shift_shift n K F)

  -- p and the values together
  twice_fours : 2 ^ (1 + 2 * count π.free) ≡ 2 * 4 ^ count π.free
  twice_fours = rw (pow-add 2 1 (2 * F), pow_mul 2 2 F)

  -- a message's number, and the message of a number
  pub message_number_lem : (n : ℕ) → n < 2 ^ message_bits π → message_number π (message_of π n) ≡ n
  message_number_lem n h =
      let q = n / 2 ^ K in
      let below : q < 2 * 4 ^ F = rw (← twice_fours) (shr_lt (1 + 2 * F) K h) in
      let p : one (has_bit (2 * F + K) n) ≡ q / 4 ^ F % 2 = ap one (high_bit n) ∙ bits_fit.there (q / 4 ^ F) in
      let high : one (has_bit (2 * F + K) n) * 4 ^ F + number_of symbols (digits symbols F q) ≡ q =
      rw (p, number_digits symbols symbols_fit F q) (sym (mod-mul q (lit< tt) (place_pos symbols symbols_fit F)) ∙ mod-eq_of_lt below) in
      rw (high, number_digits bits bits_fit K n) (div-add-mod' n (2 ^ K))

  module _ (m : Message) (s : Sized π m) where
    -- the number of p and the values; below it are the top bits, and below p the values
    abbrev A : ℕ
    A = one m.parity * 4 ^ F + number_of symbols m.values

    tops_lt : number_of bits m.tops < 2 ^ top_bits π
    tops_lt = rw (← s.tops) (number_lt bits bits_fit m.tops)

    values_lt : number_of symbols m.values < 4 ^ count π.free
    values_lt = rw (← s.values) (number_lt symbols symbols_fit m.values)

    pub message_below : message_number π m < 2 ^ message_bits π
    message_below =
        rw (pow-add 2 (1 + 2 * F) K, twice_fours) (digits_lt (digits_lt (bits_fit.small m.parity) values_lt) tops_lt)

    pub number_message : message_of π (message_number π m) ≡ m
    number_message =
        let high : message_number π m / 2 ^ K ≡ A = digits_div A tops_lt in
        let ep : has_bit (2 * F + K) (message_number π m) ≡ m.parity =
        high_bit (message_number π m) ∙ rw (high, digits_div (one m.parity) values_lt) (bits_fit.back m.parity) in
        let ev : digits symbols F (message_number π m / 2 ^ K) ≡ m.values =
        rw (high, ← digits_remainder symbols symbols_fit F A, digits_mod (one m.parity) values_lt)
        (digits_again symbols symbols_fit F m.values s.values) in
        let et : digits bits K (message_number π m) ≡ m.tops =
        rw (← digits_remainder bits bits_fit K (message_number π m), digits_mod A tops_lt) (digits_again bits bits_fit K m.tops s.tops) in
        rw (ep, ev, et)

  -- a word is a number of m digits in base 16, and the number of its columns
  sixteens : 16 ^ size π ≡ 2 ^ width π
  sixteens = pow_mul 2 4 (size π)

  pub number_word : (x : ℕ) → x < 2 ^ width π → word_number (word π x) ≡ x
  number_word x h = number_again columns columns_fit (size π) x (rw sixteens h)

  -- the other way: m columns are those of their number, which is a word
  module _ (cs : List Column) (long : length cs ≡ size π) where
    pub word_number_lem : word π (word_number cs) ≡ cs
    word_number_lem = digits_again columns columns_fit (size π) cs long

    pub number_below : word_number cs < 2 ^ width π
    number_below = rw (← sixteens, ← long) (number_lt columns columns_fit cs)

-- ten columns make a word of at most 40 bits
pub word_below : (cs : List Column) → length cs ≤ 10 → word_number cs < 2 ^ 40
word_below cs h =
    lt_of_lt_of_le (number_lt columns columns_fit cs)
    (rw (pow_mul 2 4 (length cs)) (pow_mono {i = 4 * length cs} {j = 40} (omega arith)))

-- two words with the same columns are one
pub word_injective : (π : Projection) (x y : ℕ) → x < 2 ^ width π → y < 2 ^ width π → word π x ≡ word π y → x ≡ y
word_injective π x y hx hy e = sym (number_word π x hx) ∙ ap word_number e ∙ number_word π y hy

module _ (π : Projection) (sys : Systematic π) where
  -- a message's codeword has its columns, fits, is a codeword, and says the message again
  word_encode : (n : ℕ) → word π (encode π n) ≡ codeword_of π (message_of π n)
  unfolding encode
  word_encode n = word_number_lem π (codeword_of π (message_of π n)) (length_codeword π sys (message_of π n) (message_sized π n))

  pub encode_below : (n : ℕ) → encode π n < 2 ^ width π
  unfolding encode
  encode_below n = number_below π (codeword_of π (message_of π n)) (length_codeword π sys (message_of π n) (message_sized π n))

  pub encode_codeword : (n : ℕ) → is_codeword π (word π (encode π n)) ≡ true
  encode_codeword n =
      rw (word_encode n)
      (is_codeword_lem π (message_of π n).parity (codeword_of π (message_of π n)) (message_codeword π sys (message_of π n) (message_sized π n)))

  pub decode_encode : (n : ℕ) → n < 2 ^ message_bits π → decode π (encode π n) ≡ n
  unfolding decode
  decode_encode n h =
      rw (word_encode n) (ap (message_number π) (message_of_codeword π sys (message_of π n) (message_sized π n)) ∙ message_number_lem π n h)

  module _ (x : ℕ) (h : x < 2 ^ width π) (c : is_codeword π (word π x) ≡ true) where
    -- a codeword's columns, its parity, and the sizes of what they say
    abbrev cs : List Column
    cs = word π x

    parts : (p : Bool) × Codeword π p (word π x)
    parts = codeword_parity π cs c

    fit : Sized π (message_in π (word π x))
    fit = sized π sys cs (length_word π x)

    pub decode_below : decode π x < 2 ^ message_bits π
    unfolding decode
    decode_below = message_below π (message_in π cs) fit

    pub encode_decode : encode π (decode π x) ≡ x
    unfolding encode decode
    encode_decode =
        ap word_number
        (ap (codeword_of π) (number_message π (message_in π cs) fit) ∙ codeword_of_message π sys parts.0 cs (length_word π x) parts.1)
        ∙ number_word π x h
