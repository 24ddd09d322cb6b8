-- Vectors of symbols. Where one of two vectors that are added ends, it counts as zero from there on.
use Rattle.std.specs.Prelude.{ℕ, Bool, true, ◌&&◌, List, [], ◌∷◌, replicate}
use Rattle.symbols.specs.Symbol.{Symbol, s0, is_zero, add, mul}

abbrev pub zeros : ℕ → List Symbol
zeros n = replicate n s0

abbrev pub add_v : List Symbol → List Symbol → List Symbol
add_v [] ys = ys
add_v (x ∷ xs) [] = x ∷ xs
add_v (x ∷ xs) (y ∷ ys) = add x y ∷ add_v xs ys

abbrev pub scale : Symbol → List Symbol → List Symbol
scale a [] = []
scale a (x ∷ xs) = mul a x ∷ scale a xs

abbrev pub is_zero_v : List Symbol → Bool
is_zero_v [] = true
is_zero_v (x ∷ xs) = is_zero x && is_zero_v xs
