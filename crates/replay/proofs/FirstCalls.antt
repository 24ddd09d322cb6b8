-- The calls of a list of numbers: none where it begins with no call, else that call and the calls of the numbers after it. At most as many calls as
-- numbers are in a list, so any greater bound on their number gives the same calls.
use Rattle.std.proofs.Common.{◌≡◌, false, ℕ, zero, suc, ◌+◌, ◌-◌, ◌≤◌, List, [], ◌∷◌, length, get_or, drop, refl, arith, length-drop}
use Rattle.std.proofs.lemmas.Bool.{lt-leb}
use Rattle.trace.specs.Calls.{Call}
use Rattle.replay.specs.Numbers.{is_call, calls_in, calls_of}
use Rattle.replay.specs.ContractsOfSteps.{BeginsWith}

-- any two bounds that are at least the length give the same calls
calls_enough : (m n : ℕ) (xs : List ℕ) → length xs ≤ m → length xs ≤ n → calls_in m xs ≡ calls_in n xs
unfolding calls_in is_call
calls_enough zero zero xs hm hn = refl
calls_enough zero (suc n) xs hm hn = rw (lt-leb 2 (length xs) (omega arith))
calls_enough (suc m) zero xs hm hn = rw (lt-leb 2 (length xs) (omega arith))
calls_enough (suc m) (suc n) xs hm hn =
    let rest : calls_in m (drop (2 + get_or xs 1 0) xs) ≡ calls_in n (drop (2 + get_or xs 1 0) xs) =
    calls_enough m n (drop (2 + get_or xs 1 0) xs) (rw length-drop (omega arith)) (rw length-drop (omega arith)) in
    rw rest

pub no_calls : (xs : List ℕ) → is_call xs ≡ false → calls_of xs ≡ []
unfolding calls_in
no_calls xs none = go (length xs)
  where
    go : (n : ℕ) → calls_in n xs ≡ []
    go zero = refl
    go (suc n) = rw none

pub first_call : {xs rest : List ℕ} {c : Call} → BeginsWith xs c rest → calls_of xs ≡ c ∷ calls_of rest
unfolding calls_in
first_call {xs} {rest} {c} h =
    let some : length xs ≡ suc (length xs - 1) = omega (arith, h.within) in
    let left : length rest ≤ length xs - 1 = rw (h.after, length-drop) (omega (arith, h.within)) in
    rw (some, h.whole, h.named, ← h.after, calls_enough (length xs - 1) (length rest) rest left (omega arith))
