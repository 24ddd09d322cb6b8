-- Which bytes a line lends: `buffer 63` lends 63 zero bytes, `hex 00FF..` these bytes, and any other line none; and what the buffer holds then.
use Rattle.std.specs.Prelude.{cond, Option, Some, None, Result, Ok, Err, IfOk, List, ◌++◌, ℕ, ◌≤◌, leb, length, drop, replicate}
use Rattle.script.specs.Script.{hex_bytes, meaning, argument}
use Rattle.script.specs.declared.line.Command.{Command}
use Rattle.script.specs.declared.lending.NotTaken.{NotTaken}

-- so many zero bytes
abbrev pub zeros : ℕ → List ℕ
zeros n = replicate n 0

-- the bytes that a command with this argument lends, or none
abbrev pub lends : Command → List ℕ → Option (List ℕ)
lends (Command.Buffer n) text = Some (zeros n)
lends Command.Hex text = hex_bytes text
lends Command.Nothing text = None
lends Command.Open text = None
lends Command.Save text = None
lends Command.PutList text = None
lends (Command.Call call) text = None
lends Command.Unreadable text = None

-- the bytes that a line lends, or none
abbrev pub line_lends : List ℕ → Option (List ℕ)
line_lends line = lends (meaning line) (argument line)

-- what is answered, and the buffer's bytes then
pub record Lending : Type 0 where
  pub lent : Result ℕ NotTaken
  pub buffer : List ℕ

-- an answer with the bytes
abbrev pub lending : Result ℕ NotTaken → List ℕ → Lending
lending r b = record { lent = r; buffer = b }

-- bytes over the front of a buffer: those behind them stay
abbrev pub over : List ℕ → List ℕ → List ℕ
over xs b = xs ++ drop (length xs) b

-- what is lent stands at the front of the buffer; where it is more than the buffer has, or where nothing is lent, the buffer stays
abbrev pub lend_in : Option (List ℕ) → List ℕ → Lending
lend_in None b = lending (Err NotTaken.Nothing) b
lend_in (Some xs) b =
    cond (leb (length xs) (length b)) (lending (Ok (length xs)) (over xs b)) (lending (Err NotTaken.TooMany) b)

-- no more bytes are lent than the buffer has
abbrev pub Fits : Result ℕ NotTaken → List ℕ → Type 0
Fits lent b = IfOk lent (λ n. n ≤ length b)
