-- A byte made visible, and as much of a text as is shown: each law follows one path through the definition's test.
use mathlib.Core.Path.{◌≡◌}
use mathlib.Core.Bool.{true, false}
use mathlib.Core.List.{List, [], ◌∷◌, ◌++◌}
use Prim.Native.Nat.{ℕ, ◌≤◌, ◌<◌}
use lib.ListN.{length, take}
use borrow.Author.Tests.{lt-ltb, le-ltb}
use Rattle.lines.specs.Text.{text, hex}
use Rattle.lines.specs.Trouble.{is_plain, visible_byte, visible, most_shown, shown}

module _ (byte : ℕ) where
  pub visible_plain : is_plain byte ≡ true → (byte ∷ []) ≡ visible_byte byte
  unfolding visible_byte
  visible_plain plain = rw plain

  pub visible_escaped : is_plain byte ≡ false → text "\\x" ++ hex byte ≡ visible_byte byte
  unfolding visible_byte
  visible_escaped other = rw other

module _ (t : List ℕ) where
  pub shown_long : most_shown < length t → visible (take most_shown t) ++ text "..." ≡ shown t
  unfolding shown
  shown_long h = rw (lt-ltb most_shown (length t) h)

  pub shown_short : length t ≤ most_shown → visible t ≡ shown t
  unfolding shown
  shown_short h = rw (le-ltb most_shown (length t) h)
