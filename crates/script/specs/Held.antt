-- A line as it is taken, byte by byte, and how a line is told apart that is longer than the longest.
use Rattle.std.specs.Prelude.{cond, Option, Some, None, List, [], ◌∷◌, ◌++◌, ℕ, ltb, length}

-- a line has at most this many bytes
abbrev pub longest_line : ℕ
longest_line = 200000

-- one byte more: it stands behind those that are taken, or the line is too long, and stays so
abbrev pub hold : ℕ → Option (List ℕ) → Option (List ℕ)
hold byte None = None
hold byte (Some line) = cond (ltb (length line) longest_line) (Some (line ++ byte ∷ [])) None

-- the bytes of a line, one after the other
abbrev pub hold_all : List ℕ → Option (List ℕ) → Option (List ℕ)
hold_all [] held = held
hold_all (c ∷ cs) held = hold_all cs (hold c held)
