-- What is claimed of calls as numbers: which call each row is. Each claim is a theorem of the same name, in lower case, in proofs/Claims.
use Rattle.std.specs.Prelude.{◌≡◌, List, [], ◌∷◌, ◌++◌, ℕ, ◌+◌, length}
use Rattle.trace.specs.Calls.{put, put_list, flip, mark, load, clear, read, survey}
use Rattle.replay.specs.Numbers.{calls_of}

-- a row of each kind, and rows that are none
pub record RowsMean : Type 0 where
  pub a_put : calls_of (0 ∷ 3 ∷ 7 ∷ 74 ∷ 2385 ∷ []) ≡ put 7 74 2385 ∷ []
  pub a_flip : calls_of (1 ∷ 2 ∷ 7 ∷ 35 ∷ []) ≡ flip 7 35 ∷ []
  pub a_mark : calls_of (2 ∷ 2 ∷ 7 ∷ 35 ∷ []) ≡ mark 7 35 ∷ []
  pub a_clear : calls_of (3 ∷ 1 ∷ 7 ∷ []) ≡ clear 7 ∷ []
  pub a_read : calls_of (4 ∷ 1 ∷ 7 ∷ []) ≡ read 7 ∷ []
  pub a_survey : calls_of (5 ∷ 0 ∷ []) ≡ survey ∷ []
  pub a_load : calls_of (6 ∷ 3 ∷ 7 ∷ 1 ∷ 36 ∷ []) ≡ load 7 1 36 ∷ []
  pub a_list : calls_of (7 ∷ 6 ∷ 10 ∷ 2 ∷ 74 ∷ 75 ∷ 2385 ∷ 2386 ∷ []) ≡ put_list 10 (74 ∷ 75 ∷ []) (2385 ∷ 2386 ∷ []) ∷ []
  -- whatever the lists, and whatever comes after them
  pub lists : (start : ℕ) (steps readings more : List ℕ)
      → calls_of (7 ∷ (2 + length steps + length readings) ∷ start ∷ length steps ∷ steps ++ (readings ++ more))
      ≡ put_list start steps readings ∷ calls_of more
  pub several : calls_of (4 ∷ 1 ∷ 7 ∷ 6 ∷ 3 ∷ 7 ∷ 1 ∷ 36 ∷ 5 ∷ 0 ∷ []) ≡ read 7 ∷ load 7 1 36 ∷ survey ∷ []
  pub among : calls_of (3 ∷ 1 ∷ 7 ∷ 7 ∷ 4 ∷ 10 ∷ 1 ∷ 74 ∷ 2385 ∷ 7 ∷ 2 ∷ 11 ∷ 0 ∷ 4 ∷ 1 ∷ 10 ∷ [])
      ≡ clear 7 ∷ put_list 10 (74 ∷ []) (2385 ∷ []) ∷ put_list 11 [] [] ∷ read 10 ∷ []
  -- 'a 32-bit seed': the largest, and one more
  pub largest : calls_of (6 ∷ 3 ∷ 4294967296 ∷ 4294967295 ∷ 4294967296 ∷ []) ≡ load 4294967296 4294967295 4294967296 ∷ []
  pub no_seed : calls_of (6 ∷ 3 ∷ 7 ∷ 4294967296 ∷ 36 ∷ []) ≡ []
  pub no_kind : calls_of (8 ∷ 0 ∷ []) ≡ []
  pub cut_short : calls_of (6 ∷ 3 ∷ 7 ∷ 1 ∷ []) ≡ []
  -- a count of steps above what the row has, a count of numbers below 2, numbers that are not there, and the largest numbers
  pub steps_past : calls_of (7 ∷ 4 ∷ 10 ∷ 3 ∷ 74 ∷ 75 ∷ 2385 ∷ []) ≡ []
  pub count_below : calls_of (7 ∷ 1 ∷ 10 ∷ 0 ∷ []) ≡ []
  pub list_cut_short : calls_of (7 ∷ 4 ∷ 10 ∷ 1 ∷ 74 ∷ []) ≡ []
  pub largest_steps : calls_of (7 ∷ 4 ∷ 10 ∷ 18446744073709551615 ∷ 74 ∷ 2385 ∷ []) ≡ []
  pub largest_count : calls_of (7 ∷ 18446744073709551615 ∷ 10 ∷ 18446744073709551613 ∷ 74 ∷ 2385 ∷ []) ≡ []
