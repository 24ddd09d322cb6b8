-- What the steps of a text ask of each other: the contracts of the functions that write a part of it. No claim rests on
-- this file but by the proofs.
use Rattle.std.specs.Prelude.{List, ℕ, ◌+◌, ◌≤◌, length}
use Rattle.arrayvec.specs.ArrayString.{ArrayString, array_string_len}

-- a string of this capacity has room for a text behind what it holds
abbrev pub HasRoom : ℕ → ArrayString → List ℕ → Type 0
HasRoom capacity s t = array_string_len s + length t ≤ capacity
