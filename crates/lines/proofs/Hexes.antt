-- Bytes in hexadecimal, as they are made: the two digits of each byte as numbers, which are below 16, and then each number's character, which is ASCII.
use mathlib.Core.Path.{◌≡◌, refl}
use mathlib.Core.List.{List, [], ◌∷◌, map}
use Prim.Native.Nat.{ℕ, zero, suc, ◌+◌, ◌*◌, ◌/◌, ◌%◌, ◌<◌}
use native.Mathlib.Omega.{arith}
use lib.ListN.{length, take, get_or, set}
use Rattle.std.proofs.lemmas.Grind.{common_steps}
use Rattle.std.specs.Str.{IsAscii}
use Rattle.lines.specs.Text.{hex_digit, hex, each}
use Rattle.lines.proofs.Texts.{each_more}

-- a byte's two digits, as numbers
abbrev pub nibbles : ℕ → List ℕ
nibbles byte = byte / 16 ∷ byte % 16 ∷ []

pub nibbles_spelled : (bytes : List ℕ) → map hex_digit (each nibbles bytes) ≡ each hex bytes
unfolding each hex
nibbles_spelled [] = refl
nibbles_spelled (b ∷ bytes) = rw (nibbles_spelled bytes)

pub nibbles_small : (bytes : List ℕ) → ((k : ℕ) → get_or bytes k 0 < 256) → (k : ℕ) → get_or (each nibbles bytes) k 0 < 16
unfolding each
nibbles_small [] h k = omega arith
nibbles_small (b ∷ bytes) h zero = omega (arith, h 0)
nibbles_small (b ∷ bytes) h (suc zero) = omega arith
nibbles_small (b ∷ bytes) h (suc (suc k)) = nibbles_small bytes (λ i. h (suc i)) k

digit_ascii : (d : ℕ) → d < 16 → hex_digit d < 128
digit_ascii d h = grind arith

pub hexes_ascii : (bytes : List ℕ) → ((k : ℕ) → get_or bytes k 0 < 256) → IsAscii (each hex bytes)
unfolding each hex
hexes_ascii [] h k = omega arith
hexes_ascii (b ∷ bytes) h zero = digit_ascii (b / 16) (omega (arith, h 0))
hexes_ascii (b ∷ bytes) h (suc zero) = digit_ascii (b % 16) (omega arith)
hexes_ascii (b ∷ bytes) h (suc (suc k)) = hexes_ascii bytes (λ i. h (suc i)) k

-- one byte's digits more
pub nibbles_more : (bytes digits : List ℕ) (i : ℕ) → i < length bytes → length digits ≡ 2 * length bytes
    → take (2 * i) digits ≡ each nibbles (take i bytes)
    → take (2 * (i + 1)) (set (set digits (2 * i) (get_or bytes i 0 / 16)) (2 * i + 1) (get_or bytes i 0 % 16)) ≡ each nibbles (take (i + 1) bytes)
nibbles_more bytes digits i h size so_far =
    each_more nibbles bytes i h [] (take (2 * i) digits) so_far _ (grind (arith, common_steps))
