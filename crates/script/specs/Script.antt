-- What a line of a script means. A carriage return at its end and blanks around and between words are nothing. An empty line and a comment
-- ask for nothing; of any other line the first word is a command's name, and the rest is its argument: numbers, lists of them, bytes in
-- hexadecimal, or a file's name.
use Rattle.std.specs.Prelude.{Bool, cond, ◌&&◌, ◌||◌, ◌==◌, Option, Some, None, List, [], ◌∷◌, ℕ, ◌+◌, ◌-◌, ◌*◌, ◌^◌, leb, ltb, length, drop}
use Rattle.std.specs.List.{slice_split}
use Rattle.std.specs.Str.{bytes_eq}
use Prim.Native.String.{String}
use Rattle.trace.specs.Load.{is_seed}
use Rattle.script.specs.declared.line.Call.{Call}
use Rattle.script.specs.declared.line.Command.{Command}
-- quoted texts, for definitions above this crate too
pub use Rattle.lines.specs.Text.{text}

-- ---- blanks

-- a space or a tab
abbrev pub is_blank : ℕ → Bool
is_blank c = c == 32 || c == 9

-- without the blanks in front
abbrev pub skip_blanks : List ℕ → List ℕ
skip_blanks [] = []
skip_blanks (c ∷ cs) = cond (is_blank c) (skip_blanks cs) (c ∷ cs)

-- a byte before what is kept of the bytes behind it: a blank is kept only before something
abbrev pub keep : ℕ → List ℕ → List ℕ
keep c [] = cond (is_blank c) [] (c ∷ [])
keep c (d ∷ ds) = c ∷ (d ∷ ds)

-- without the blanks at the end
abbrev pub trim_end : List ℕ → List ℕ
trim_end [] = []
trim_end (c ∷ cs) = keep c (trim_end cs)

-- without a carriage return at the end
abbrev pub without_return : List ℕ → List ℕ
without_return [] = []
without_return (c ∷ []) = cond (c == 13) [] (c ∷ [])
without_return (c ∷ (d ∷ ds)) = c ∷ without_return (d ∷ ds)

-- a line without what is nothing at its ends
abbrev pub bare : List ℕ → List ℕ
bare line = skip_blanks (trim_end (without_return line))

-- ---- words

-- what stands before the first byte that ends a piece
abbrev pub up_to : (ℕ → Bool) → List ℕ → List ℕ
up_to ends [] = []
up_to ends (c ∷ cs) = cond (ends c) [] (c ∷ up_to ends cs)

-- what stands before the first blank
abbrev pub word : List ℕ → List ℕ
word = up_to is_blank

-- what stands behind the first word and the blanks after it
abbrev pub behind : List ℕ → List ℕ
behind l = skip_blanks (drop (length (word l)) l)

-- the pieces that are not empty
abbrev pub filled : List (List ℕ) → List (List ℕ)
filled [] = []
filled ([] ∷ ps) = filled ps
filled ((c ∷ p) ∷ ps) = (c ∷ p) ∷ filled ps

-- the words of a text
abbrev pub words : List ℕ → List (List ℕ)
words l = filled (slice_split is_blank l)

-- an element in front of others, where these can be read
abbrev pub in_front : ℕ → Option (List ℕ) → Option (List ℕ)
in_front x None = None
in_front x (Some xs) = Some (x ∷ xs)

-- ---- numbers

-- one decimal digit more, of a number that 64 bits hold
abbrev pub digit_on : ℕ → ℕ → Option ℕ
digit_on n c = cond (leb 48 c && (leb c 57 && ltb (n * 10 + (c - 48)) (2 ^ 64))) (Some (n * 10 + (c - 48))) None

-- a number with the digits of a word after its own
abbrev pub digits_on : List ℕ → Option ℕ → Option ℕ
digits_on [] n = n
digits_on (c ∷ cs) None = None
digits_on (c ∷ cs) (Some n) = digits_on cs (digit_on n c)

-- the number of a word: it has at least one digit
abbrev pub number_of : List ℕ → Option ℕ
number_of [] = None
number_of (c ∷ cs) = digits_on (c ∷ cs) (Some 0)

-- a number in front of others, where all can be read
abbrev pub number_on : Option ℕ → Option (List ℕ) → Option (List ℕ)
number_on None ns = None
number_on (Some n) ns = in_front n ns

-- the numbers that words are, where each is one
abbrev pub numbers_of : List (List ℕ) → Option (List ℕ)
numbers_of [] = Some []
numbers_of (w ∷ ws) = number_on (number_of w) (numbers_of ws)

-- ---- lists of numbers

-- a comma
abbrev pub is_comma : ℕ → Bool
is_comma c = c == 44

-- the list that a word is: `-` is the empty one, and any other has its numbers between commas
abbrev pub number_list : List ℕ → Option (List ℕ)
number_list w = cond (bytes_eq w (text "-")) (Some []) (numbers_of (slice_split is_comma w))

-- a list of puts: the slot where it starts, the steps and the readings
pub record PutList : Type 0 where
  pub start : ℕ
  pub steps : List ℕ
  pub readings : List ℕ

-- a list of puts, where all three can be read
abbrev pub listed : Option ℕ → Option (List ℕ) → Option (List ℕ) → Option PutList
listed None steps readings = None
listed (Some start) None readings = None
listed (Some start) (Some steps) None = None
listed (Some start) (Some steps) (Some readings) = Some (record { start = start; steps = steps; readings = readings })

-- the list of puts that three words are
abbrev pub put_list_of : List (List ℕ) → Option PutList
put_list_of [] = None
put_list_of (start ∷ []) = None
put_list_of (start ∷ (steps ∷ [])) = None
put_list_of (start ∷ (steps ∷ (readings ∷ []))) = listed (number_of start) (number_list steps) (number_list readings)
put_list_of (start ∷ (steps ∷ (readings ∷ (more ∷ ws)))) = None

-- ---- bytes in hexadecimal

-- the value of a digit in either case
abbrev pub hex_value : ℕ → Option ℕ
hex_value c =
    cond (leb 48 c && leb c 57) (Some (c - 48))
    (cond (leb 65 c && leb c 70) (Some (c - 55))
    (cond (leb 97 c && leb c 102) (Some (c - 87)) None))

-- the byte of two digits' values
abbrev pub byte_of : Option ℕ → Option ℕ → Option ℕ
byte_of None low = None
byte_of (Some high) None = None
byte_of (Some high) (Some low) = Some (high * 16 + low)

-- the byte of two digits
abbrev pub hex_byte : ℕ → ℕ → Option ℕ
hex_byte c d = byte_of (hex_value c) (hex_value d)

-- the bytes that a text is: two digits are a byte, and blanks may stand between bytes; no bytes where it is anything else
abbrev pub hex_bytes : List ℕ → Option (List ℕ)
hex_bytes [] = Some []
hex_bytes (c ∷ []) = cond (is_blank c) (Some []) None
hex_bytes (c ∷ (d ∷ cs)) = cond (is_blank c) (hex_bytes (d ∷ cs)) (number_on (hex_byte c d) (hex_bytes cs))

-- ---- commands

-- the command whose argument is one byte or more, in hexadecimal
abbrev pub hex_command : Option (List ℕ) → Command
hex_command None = Command.Unreadable
hex_command (Some []) = Command.Unreadable
hex_command (Some (x ∷ xs)) = Command.Hex

-- a command whose argument is a file's name
abbrev pub file_command : Command → List ℕ → Command
file_command command [] = Command.Unreadable
file_command command (c ∷ cs) = command

-- the command whose argument is a list of puts
abbrev pub list_command : Option PutList → Command
list_command None = Command.Unreadable
list_command (Some puts) = Command.PutList

-- a load, whose seed 32 bits hold
abbrev pub load_command : ℕ → ℕ → ℕ → Command
load_command slot seed count = cond (is_seed seed) (Command.Call (Call.Load slot seed count)) Command.Unreadable

-- a name, and the command that it gives
pub record Row : Type 0 where
  pub name : List ℕ
  pub command : Command

-- a row of the table of commands, and of a call
abbrev pub row : String → Command → Row
row name command = record { name = text name; command = command }

abbrev pub call : String → Call → Row
call name c = row name (Command.Call c)

-- the commands that have as many numbers: at most three, and none that can't be read
abbrev pub numbered : Option (List ℕ) → List Row
numbered None = []
numbered (Some []) = call "survey" Call.Survey ∷ call "bytes" Call.Bytes ∷ []
numbered (Some (a ∷ [])) = row "buffer" (Command.Buffer a) ∷ call "clear" (Call.Clear a) ∷ call "read" (Call.Read a) ∷ []
numbered (Some (a ∷ (b ∷ []))) = call "make" (Call.Make a b) ∷ call "flip" (Call.Flip a b) ∷ call "mark" (Call.Mark a b) ∷ []
numbered (Some (a ∷ (b ∷ (c ∷ [])))) = call "put" (Call.Put a b c) ∷ row "load" (load_command a b c) ∷ []
numbered (Some (a ∷ (b ∷ (c ∷ (d ∷ more))))) = []

-- all commands, with this argument
abbrev pub commands : List ℕ → List Row
commands argument =
    row "hex" (hex_command (hex_bytes argument))
    ∷ row "open" (file_command Command.Open argument)
    ∷ row "save" (file_command Command.Save argument)
    ∷ row "puts" (list_command (put_list_of (words argument)))
    ∷ numbered (numbers_of (words argument))

-- the command of this name, the first in the table
abbrev pub chosen : List ℕ → List Row → Command
chosen name [] = Command.Unreadable
chosen name (r ∷ rows) = cond (bytes_eq name r.name) r.command (chosen name rows)

-- ---- lines

-- what a line without blanks at its ends means: `#` begins a comment
abbrev pub spoken : List ℕ → Command
spoken [] = Command.Nothing
spoken (c ∷ cs) = cond (c == 35) Command.Nothing (chosen (word (c ∷ cs)) (commands (behind (c ∷ cs))))

-- what a line means
abbrev pub meaning : List ℕ → Command
meaning line = spoken (bare line)

-- the argument of a line's command
abbrev pub argument : List ℕ → List ℕ
argument line = behind (bare line)
