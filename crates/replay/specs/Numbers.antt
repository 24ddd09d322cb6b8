-- Calls and answers as numbers. A call is its kind, the count of numbers that follow, and the numbers; an answer is the refusal's
-- number or 0, the count of values, and the values. Where a list of numbers begins with a call; the room that a call needs.
use Rattle.std.specs.Prelude.{Bool, true, cond, ◌&&◌, List, [], ◌∷◌, ℕ, zero, suc, ◌+◌, ◌-◌, leb, ltb, eqb, length, get_or, take, drop}
use Rattle.codes.specs.Answer.{Answer, accepted, refused}
use Rattle.trace.specs.Load.{is_seed}
use Rattle.trace.specs.Calls.{Call, put, put_list, flip, mark, load, clear, read, survey}

-- kinds 0 to 6 are put, flip, mark, clear, read, survey and load: how many numbers each has
abbrev pub kinds : List ℕ
kinds = 3 ∷ 2 ∷ 2 ∷ 1 ∷ 1 ∷ 0 ∷ 3 ∷ []

-- the call of such a kind, which takes as many of the numbers x, y and z as it has
unfoldable pub call_with : ℕ → ℕ → ℕ → ℕ → Call
call_with kind x y z =
    cond (eqb kind 0) (put x y z)
    (cond (eqb kind 1) (flip x y)
    (cond (eqb kind 2) (mark x y)
    (cond (eqb kind 3) (clear x)
    (cond (eqb kind 4) (read x)
    (cond (eqb kind 5) survey (load x y z))))))

-- kind 7 is a list of puts, of any length: its start, the count of its steps, the steps, and then its readings, as many as there are
abbrev pub list_with : ℕ → ℕ → List ℕ → Call
list_with start count numbers = put_list start (take count numbers) (drop count numbers)

-- a count fits its kind: it is that of the kind; of a list of puts it is at least 2, and the count y of the steps at most what is left
unfoldable pub count_fits : ℕ → ℕ → ℕ → Bool
count_fits kind count y = cond (eqb kind 7) (leb 2 count && leb y (count - 2)) (ltb kind (length kinds) && eqb count (get_or kinds kind 0))

-- a load, kind 6, has a seed for its second number
abbrev pub seed_fits : ℕ → ℕ → Bool
seed_fits kind y = cond (eqb kind 6) (is_seed y) true

-- a list of numbers begins with a call: its kind is known and its count fits that, all its numbers are there, and its seed fits
unfoldable pub is_call : List ℕ → Bool
is_call xs =
    leb 2 (length xs)
    && (count_fits (get_or xs 0 0) (get_or xs 1 0) (get_or xs 3 0)
    && (leb (2 + get_or xs 1 0) (length xs) && seed_fits (get_or xs 0 0) (get_or xs 3 0)))

-- the call that it begins with
unfoldable pub call_in : List ℕ → Call
call_in xs =
    cond (eqb (get_or xs 0 0) 7)
    (list_with (get_or xs 2 0) (get_or xs 3 0) (take (get_or xs 1 0 - 2) (drop 4 xs)))
    (call_with (get_or xs 0 0) (get_or xs 2 0) (get_or xs 3 0) (get_or xs 4 0))

-- the calls that a list of numbers begins with, at most n of them
unfoldable pub calls_in : ℕ → List ℕ → List Call
calls_in zero xs = []
calls_in (suc n) xs = cond (is_call xs) (call_in xs ∷ calls_in n (drop (2 + get_or xs 1 0) xs)) []

abbrev pub calls_of : List ℕ → List Call
calls_of xs = calls_in (length xs) xs

-- an answer's numbers
abbrev pub answer_numbers : Answer (List ℕ) → List ℕ
answer_numbers (accepted vs) = 0 ∷ length vs ∷ vs
answer_numbers (refused n) = n ∷ 0 ∷ []

-- the room that a call needs: for its answer's numbers. Whether a load is refused shows only once it is made, so it needs room for those of an
-- accepted one: 0, 1 and the number handed back
abbrev pub room_for : Call → Answer (List ℕ) → ℕ
room_for (put slot step reading) a = length (answer_numbers a)
room_for (put_list start steps readings) a = length (answer_numbers a)
room_for (flip slot position) a = length (answer_numbers a)
room_for (mark slot position) a = length (answer_numbers a)
room_for (load slot seed k) a = 3
room_for (clear slot) a = length (answer_numbers a)
room_for (read slot) a = length (answer_numbers a)
room_for survey a = length (answer_numbers a)
