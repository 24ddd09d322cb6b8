-- Numbers written in digits, highest first: words in columns, vectors in symbols, messages in bits; and masks, whose first bit is the lowest.
use Rattle.std.specs.Prelude.{ℕ, zero, suc, ◌+◌, ◌*◌, ◌/◌, ◌^◌, Bool, List, [], ◌∷◌, length}
use Rattle.symbols.specs.Symbol.{Symbol, has_bit, symbol_of, symbol_number}
use Rattle.symbols.specs.Column.{Column, one, column_of, column_number}

-- a type of digits: its base, a number's lowest digit, and a digit's number
pub record Digit (A : Type 0) : Type 0 where
  pub base : ℕ
  pub lowest : ℕ → A
  pub number : A → ℕ

abbrev pub bits : Digit Bool
bits = record { base = 2; lowest = has_bit 0; number = one }

abbrev pub symbols : Digit Symbol
symbols = record { base = 4; lowest = symbol_of; number = symbol_number }

abbrev pub columns : Digit Column
columns = record { base = 16; lowest = column_of; number = column_number }

-- the lowest k digits of a number
abbrev pub digits : {A : Type 0} → Digit A → ℕ → ℕ → List A
digits d zero n = []
digits d (suc k) n = d.lowest (n / d.base ^ k) ∷ digits d k n

-- the number of a list of digits
abbrev pub number_of : {A : Type 0} → Digit A → List A → ℕ
number_of d [] = 0
number_of d (x ∷ xs) = d.number x * d.base ^ length xs + number_of d xs

-- the number of a list of bits, the first lowest
abbrev pub mask : List Bool → ℕ
mask [] = 0
mask (b ∷ l) = mask l * 2 + one b
