-- Text as the bytes of its characters, numbers in decimal, bytes in hexadecimal; lines.
use Rattle.std.specs.Prelude.{cond, List, [], ◌∷◌, ◌++◌, ℕ, zero, suc, ◌+◌, ◌/◌, ◌%◌, ltb}
use Prim.Native.Char.{code}
use Prim.Native.String.{String, [] as empty, ◌∷◌ as ◌then◌}

-- the bytes of a quoted text
abbrev pub text : String → List ℕ
text empty = []
text (c then cs) = code c ∷ text cs

-- the character of a digit
abbrev pub digit : ℕ → ℕ
digit d = 48 + d

-- a number's decimal digits, highest first, with none in front that isn't needed; at most `most` of them
unfoldable pub digits : ℕ → ℕ → List ℕ
digits zero n = []
digits (suc most) n = cond (ltb n 10) (digit n ∷ []) (digits most (n / 10) ++ (digit (n % 10) ∷ []))

-- all of them: a number n has at most n + 1 digits
unfoldable pub decimal : ℕ → List ℕ
decimal n = digits (suc n) n

-- the character of a hexadecimal digit, in upper case
abbrev pub hex_digit : ℕ → ℕ
hex_digit d = cond (ltb d 10) (48 + d) (55 + d)

-- a byte as two hexadecimal digits
unfoldable pub hex : ℕ → List ℕ
hex byte = hex_digit (byte / 16) ∷ hex_digit (byte % 16) ∷ []

-- what each number of a list is written as, one after the other
unfoldable pub each : (ℕ → List ℕ) → List ℕ → List ℕ
each f [] = []
each f (n ∷ ns) = f n ++ each f ns

-- 'a space' before each number
abbrev pub after_space : ℕ → List ℕ
after_space n = text " " ++ decimal n

abbrev pub spaced : List ℕ → List ℕ
spaced numbers = each after_space numbers

-- ---- lines

-- a text, numbers after it, a note behind them, and a newline
unfoldable pub noted : List ℕ → List ℕ → List ℕ → List ℕ
noted t numbers note = t ++ (spaced numbers ++ (note ++ text "\n"))

-- a text, numbers after it, and a newline
abbrev pub line : List ℕ → List ℕ → List ℕ
line t numbers = noted t numbers []
