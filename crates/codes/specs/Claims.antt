-- The claims about the four codes, in the words of the demands, of the scope and of the requests: demand 2, the word calls' part of demand 1, what the
-- walk over a word's columns hands on (request 4), and that mending counts positions (request 5). Each is one definition, and one theorem of the same
-- name in proofs/Claims.antt. They speak of the definitions, and so, by the contracts, of the functions. `WalkCollects` alone speaks of what a function
-- hands on: it is the contract of `Code::walk`, whose proof is its theorem.
use Rattle.std.specs.Prelude.{◌≡◌, ℕ, zero, suc, ◌+◌, ◌-◌, ◌*◌, ◌^◌, ◌<◌, ◌≤◌, Bool, true, not, ◌&&◌, ◌==◌, ◌⊎◌, ◌↔◌, List, [], ◌∷◌, map, ◌≢◌, slice_index, slice_index_or}
use Rattle.symbols.specs.Symbol.{has_bit}
use Rattle.symbols.specs.Column.{Column, column, column_of, one, parity}
use Rattle.codes.specs.declared.code.Code.{Code}
use Rattle.codes.specs.declared.word.Walk.{Walk}
use Rattle.codes.specs.Digits.{symbols, digits, number_of, mask}
use Rattle.codes.specs.Answer.{Answer, accepted, refused, Row, Passes, Refuses}
use Rattle.codes.specs.Projection.{rule_o, rule_e, Projection, size, width, message_bits}
use Rattle.codes.specs.Word.{word, bit_at, syndrome_of, top_row, is_codeword, ◌⊞◌, distance}
use Rattle.codes.specs.Message.{encode, decode}
use Rattle.codes.specs.Correction.{outside, wrong, inside, marked_wrong, ones, Near}
use Rattle.codes.specs.Codes.{codes, projection, code_of, step_limit, encoding, decoding, correcting, under}
use Rattle.codes.specs.Codes.{unknown_code, message_too_large, word_too_wide, not_a_codeword, none_near}
use Rattle.codes.specs.Starred.{starred_words, Each}

-- ---- words

-- the rows of a column, row 0 first
abbrev pub column_rows : Column → List ℕ
column_rows (column a b c d) = one a ∷ one b ∷ one c ∷ one d ∷ []

-- 'Position 4(c−1)+r is row r (0 to 3) of column c'
abbrev pub Positions : Type 0
Positions =
    (π : Projection) (n c r : ℕ) → 1 ≤ c → c ≤ size π → r < 4 →
    bit_at π n (4 * (c - 1) + r) ≡ slice_index (column_rows (slice_index_or (word π n) (c - 1) (column_of 0))) r

-- ---- one walk over the columns

-- 'For every code and every word within the width, what that walk hands on must equal the column parities, the top row's parity and the syndrome'
pub record WalkCollects (c : Code) (w : ℕ) (walk : Walk) : Type 0 where
  -- the parities as the bits of a number, the first column's lowest
  pub parities : walk.parities ≡ mask (map parity (word (projection c) w))
  pub top : walk.top ≡ top_row (word (projection c) w)
  -- the syndrome as the digits of a number, the first row's highest, and so below 4 to the power of the rows
  pub syndrome : walk.syndrome ≡ number_of symbols (syndrome_of (projection c) (word (projection c) w))
  pub bounded : walk.syndrome < 4 ^ (projection c).rows

-- so nothing that is handed on is open: each column's parity is a bit of its own, each row of the syndrome a digit, and two walks of one word hand on
-- the same
pub record WalkFixed : Type 0 where
  pub bits : (c : Code) (w : ℕ) (walk : Walk) → WalkCollects c w walk →
      (j : ℕ) → j < size (projection c) → has_bit j walk.parities ≡ parity (slice_index_or (word (projection c) w) j (column_of 0))
  pub rows : (c : Code) (w : ℕ) (walk : Walk) → WalkCollects c w walk →
      digits symbols (projection c).rows walk.syndrome ≡ syndrome_of (projection c) (word (projection c) w)
  pub one_walk : (c : Code) (w : ℕ) (a b : Walk) → WalkCollects c w a → WalkCollects c w b → a ≡ b

-- ---- demand 2

-- a number that is a codeword of a code
abbrev pub IsCodeword : Code → ℕ → Type 0
IsCodeword c x = (x < 2 ^ width (projection c)) × (is_codeword (projection c) (word (projection c) x) ≡ true)

-- 'one codeword for each message, and that message back'
abbrev pub RoundTrip : Type 0
RoundTrip =
    (c : Code) (n : ℕ) → n < 2 ^ message_bits (projection c) →
    IsCodeword c (encode (projection c) n) × (decode (projection c) (encode (projection c) n) ≡ n)

-- every codeword is the writing of exactly one message within the message size
abbrev pub OneMessage : Type 0
OneMessage =
    (c : Code) (x : ℕ) → IsCodeword c x →
    (decode (projection c) x < 2 ^ message_bits (projection c))
    × (encode (projection c) (decode (projection c) x) ≡ x)
    × ((n : ℕ) → n < 2 ^ message_bits (projection c) → encode (projection c) n ≡ x → n ≡ decode (projection c) x)

-- strict reading accepts the codewords, and gives their message, and accepts nothing else
abbrev pub DecodesCodewords : Type 0
DecodesCodewords =
    (c : Code) (x : ℕ) →
    (IsCodeword c x → decoding (projection c) x ≡ accepted (decode (projection c) x ∷ []))
    × ((values : List ℕ) → decoding (projection c) x ≡ accepted values → IsCodeword c x)

-- the same of the calls, whatever their numbers: writing a message gives a word exactly where strict reading of the word gives the message
abbrev pub CallsRoundTrip : Type 0
CallsRoundTrip =
    (code message word : ℕ) →
    (under code (λ π. encoding π message) ≡ accepted (word ∷ []) ↔ under code (λ π. decoding π word) ≡ accepted (message ∷ []))

-- the sum of two codewords of one code is a codeword
abbrev pub SumOfCodewords : Type 0
SumOfCodewords =
    (c : Code) (x y : ℕ) → IsCodeword c x → IsCodeword c y → is_codeword (projection c) (word (projection c) x ⊞ word (projection c) y) ≡ true

-- 'Any two codewords of one code differ in at least eight positions'
abbrev pub EightApart : Type 0
EightApart =
    (c : Code) (x y : ℕ) → IsCodeword c x → IsCodeword c y → (x ≢ y) → 8 ≤ distance (word (projection c) x) (word (projection c) y)

-- a word has a one at a position; two words differ there
abbrev pub is_one : Projection → ℕ → ℕ → Bool
is_one π n position = bit_at π n position == 1

abbrev pub differ_at : Projection → ℕ → ℕ → ℕ → Bool
differ_at π w x position = not (bit_at π w position == bit_at π x position)

-- how many of the first n positions pass a test
abbrev pub how_many : (ℕ → Bool) → ℕ → ℕ
how_many test zero = 0
how_many test (suc n) = one (test 0) + how_many (λ p. test (suc p)) n

-- what is counted of words column by column is a number of positions
pub record PositionsCounted : Type 0 where
  -- 'the number of unmarked positions where it differs from the word'
  pub unmarked : (π : Projection) (w m x : ℕ) → wrong π w m x ≡ how_many (λ p. differ_at π w x p && not (is_one π m p)) (width π)
  -- 'the number of marks'
  pub marks : (π : Projection) (m : ℕ) → ones π m ≡ how_many (is_one π m) (width π)
  -- 'the number of marked positions where the stored bit differs from the codeword'
  pub marked : (π : Projection) (w m x : ℕ) → marked_wrong π w m x ≡ how_many (λ p. differ_at π w x p && is_one π m p) (width π)
  -- all positions where they differ; each is counted once, as unmarked or as marked
  pub differing : (π : Projection) (w x : ℕ) → distance (word π x) (word π w) ≡ how_many (differ_at π w x) (width π)
  pub all : (π : Projection) (w m x : ℕ) → wrong π w m x + marked_wrong π w m x ≡ distance (word π x) (word π w)
  -- of two sets of positions: those in F and not in M, and those in both
  pub in_first_alone : (π : Projection) (F M : ℕ) → outside (word π F) (word π M) ≡ how_many (λ p. is_one π F p && not (is_one π M p)) (width π)
  pub in_both : (π : Projection) (F M : ℕ) → inside (word π F) (word π M) ≡ how_many (λ p. is_one π F p && is_one π M p) (width π)

-- 'A codeword is near if 2·wrong + marks is at most 7; there is at most one'
abbrev pub OneNear : Type 0
OneNear = (c : Code) (w m x y : ℕ) → Near (projection c) w m x → Near (projection c) w m y → x ≡ y

-- where 2·wrong + marks is exactly 8 for a codeword, none is near
abbrev pub EightIsFar : Type 0
EightIsFar =
    (c : Code) (w m x : ℕ) → IsCodeword c x → 2 * wrong (projection c) w m x + ones (projection c) m ≡ 8 →
    (y : ℕ) → Near (projection c) w m y → ⊥

-- 'The answer is the codeword, its message, wrong and the number of marks'; 'Mending and read also give the number of marked positions where the stored
-- bit differs from the codeword'
abbrev pub mended : Projection → ℕ → ℕ → ℕ → List ℕ
mended π w m x = x ∷ decode π x ∷ wrong π w m x ∷ ones π m ∷ marked_wrong π w m x ∷ []

-- these are given exactly where that codeword is near
abbrev pub CorrectsNear : Type 0
CorrectsNear =
    (c : Code) (w m : ℕ) → w < 2 ^ width (projection c) → m < 2 ^ width (projection c) →
    ((x : ℕ) → Near (projection c) w m x → correcting (projection c) w m ≡ accepted (mended (projection c) w m x))
    × ((values : List ℕ) → correcting (projection c) w m ≡ accepted values →
    (x : ℕ) × Near (projection c) w m x × (values ≡ mended (projection c) w m x))

-- 'no near codeword': refusal 5, exactly there
abbrev pub RefusesFar : Type 0
RefusesFar =
    (c : Code) (w m : ℕ) → w < 2 ^ width (projection c) → m < 2 ^ width (projection c) →
    (((x : ℕ) → Near (projection c) w m x → ⊥) → correcting (projection c) w m ≡ refused 5)
    × (correcting (projection c) w m ≡ refused 5 → (x : ℕ) → Near (projection c) w m x → ⊥)

-- 'Starred ones are theorems'
abbrev pub Starred : Type 0
Starred = Each starred_words

-- ---- refusals, for the word calls' part of demand 1 and the trace calls'

-- a number stands in a list
abbrev pub Among : ℕ → List ℕ → Type 0
Among n [] = ⊥
Among n (x ∷ xs) = (n ≡ x) ⊎ Among n xs

-- the numbers of a table's rows
abbrev pub numbers : List Row → List ℕ
numbers [] = []
numbers (r ∷ rs) = r.number ∷ numbers rs

-- an answer by a table whose rows have these numbers, in this order. The scope's stand so that 'The smallest number that applies is returned,
-- alone, but 5 on a read is tried only after all others pass'
pub record ByTable {A : Type 0} (order : List ℕ) (rows : List Row) (a : Answer A) : Type 0 where
  pub ordered : numbers rows ≡ order
  -- refused with a number exactly where the first row that is met has it
  pub refuses : (n : ℕ) → (a ≡ refused n ↔ Refuses rows n)
  -- accepted exactly where no row is met
  pub accepts : ((v : A) × (a ≡ accepted v)) ↔ Passes rows

-- the numbers that the scope's table of refusals gives each word call, and the call's rows, under the code that a number names
abbrev pub encoding_numbers : List ℕ
encoding_numbers = 1 ∷ 2 ∷ []

abbrev pub encoding_rows : ℕ → ℕ → List Row
encoding_rows code message = unknown_code code ∷ message_too_large (projection (code_of code)) message ∷ []

abbrev pub decoding_numbers : List ℕ
decoding_numbers = 1 ∷ 3 ∷ 4 ∷ []

abbrev pub decoding_rows : ℕ → ℕ → List Row
decoding_rows code word = unknown_code code ∷ word_too_wide (projection (code_of code)) word ∷ not_a_codeword (projection (code_of code)) word ∷ []

abbrev pub correcting_numbers : List ℕ
correcting_numbers = 1 ∷ 3 ∷ 3 ∷ 5 ∷ []

abbrev pub correcting_rows : ℕ → ℕ → ℕ → List Row
correcting_rows code word marks =
    unknown_code code
    ∷ word_too_wide (projection (code_of code)) word
    ∷ word_too_wide (projection (code_of code)) marks
    ∷ none_near (projection (code_of code)) word marks
    ∷ []

-- 'Unfit input gets one of the thirteen refusal numbers of [the scope]': those that its table gives each word call, each exactly where it is met
pub record WordCallsRefuse : Type 0 where
  pub encodings : (code message : ℕ) → ByTable encoding_numbers (encoding_rows code message) (under code (λ π. encoding π message))
  pub decodings : (code word : ℕ) → ByTable decoding_numbers (decoding_rows code word) (under code (λ π. decoding π word))
  pub corrections : (code word marks : ℕ) → ByTable correcting_numbers (correcting_rows code word marks) (under code (λ π. correcting π word marks))

-- when each of these rows is met, in the words of the scope's table
pub record WordRowsMean : Type 0 where
  -- 'code not 1 to 4'
  pub unknown : (code : ℕ) → ((unknown_code code).met ≡ true ↔ ((1 ≤ code) × (code ≤ 4) → ⊥))
  -- 'message over 19 or 22 bits'
  pub too_large : (c : Code) (message : ℕ) → ((message_too_large (projection c) message).met ≡ true ↔ 2 ^ message_bits (projection c) ≤ message)
  -- 'word or marks have a bit above the width'
  pub too_wide : (c : Code) (word : ℕ) → ((word_too_wide (projection c) word).met ≡ true ↔ 2 ^ width (projection c) ≤ word)
  -- 'not a codeword'
  pub no_codeword : (c : Code) (word : ℕ) → word < 2 ^ width (projection c) →
      ((not_a_codeword (projection c) word).met ≡ true ↔ (IsCodeword c word → ⊥))
  -- 'no near codeword'
  pub none_near_met : (c : Code) (word marks : ℕ) →
      ((none_near (projection c) word marks).met ≡ true ↔ ((x : ℕ) → Near (projection c) word marks x → ⊥))
  -- 'Code 1 is 36 O, 2 is 36 E, 3 is 40 O, 4 is 40 E'; 'A message has 19 or 22 bits'; 'The step is below 128 (codes 1, 2) or 1,024 (3, 4)'
  pub rules : map (λ c. (projection c).rule) codes ≡ rule_o ∷ rule_e ∷ rule_o ∷ rule_e ∷ []
  pub message_sizes : map (λ c. message_bits (projection c)) codes ≡ 19 ∷ 19 ∷ 22 ∷ 22 ∷ []
  pub widths : map (λ c. width (projection c)) codes ≡ 36 ∷ 36 ∷ 40 ∷ 40 ∷ []
  pub step_limits : map (λ c. step_limit (projection c)) codes ≡ 128 ∷ 128 ∷ 1024 ∷ 1024 ∷ []
