-- What a line of a script is answered with that can't be played: its number, what is wrong, and a text made visible, which is the line itself, a
-- file's name or a reason.
use Rattle.std.specs.Prelude.{Bool, cond, not, ◌&&◌, List, [], ◌∷◌, ◌++◌, ℕ, ltb, leb, eqb, length, take}
use Rattle.lines.specs.declared.trouble.Trouble.{Trouble}
use Rattle.lines.specs.Text.{text, hex, each, spaced}

-- ---- text made visible

-- a byte that stands for itself: a printable ASCII character, 32 to 126, but the backslash
abbrev pub is_plain : ℕ → Bool
is_plain byte = leb 32 byte && (leb byte 126 && not (eqb byte 92))

-- any other is `\x` and two hexadecimal digits
unfoldable pub visible_byte : ℕ → List ℕ
visible_byte byte = cond (is_plain byte) (byte ∷ []) (text "\\x" ++ hex byte)

-- a text, byte by byte
abbrev pub visible : List ℕ → List ℕ
visible = each visible_byte

-- of a text with more than 72 bytes the first 72, then `...`
abbrev pub most_shown : ℕ
most_shown = 72

unfoldable pub shown : List ℕ → List ℕ
shown t = cond (ltb most_shown (length t)) (visible (take most_shown t) ++ text "...") (visible t)

-- ---- a trouble's line

-- what is wrong with a line, after a space: it means nothing, no buffer was lent, a file could not be read, or not be written
abbrev pub trouble_words : Trouble → List ℕ
trouble_words Trouble.Unreadable = text " unreadable: "
trouble_words Trouble.NotLent = text " not lent: "
trouble_words Trouble.NotRead = text " not read: "
trouble_words Trouble.NotWritten = text " not written: "

-- the line's number, what is wrong with it, and the text
unfoldable pub trouble_line : ℕ → Trouble → List ℕ → List ℕ
trouble_line number trouble t = text "line" ++ (spaced (number ∷ []) ++ (trouble_words trouble ++ (shown t ++ text "\n")))
