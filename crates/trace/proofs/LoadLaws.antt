-- The positions of a load: as many as there are draws, each of them one of the word's, no two alike. A draw's rank is below the number of unpicked
-- positions, so that it picks one of them; those that are drawn later are of the positions without it. The example is computed.
use Rattle.std.proofs.Common.{◌≡◌, ℕ, zero, suc, ◌<◌, ◌≤◌, List, length, get_or, refl, ap, mod-lt, arith}
use Rattle.codes.specs.Claims.{Among}
use Rattle.codes.specs.Projection.{width}
use Rattle.trace.specs.Lists.{span, without}
use Rattle.trace.specs.Load.{advance, pick_of, drawn, handed_back}
use Rattle.trace.specs.Claims.{LoadDraws, LoadExample}
use Rattle.trace.proofs.Distinct.{Distinct, get_d_among, without_among, without_distinct, without_length, span_among, span_length, span_distinct}

-- a draw picks one of the unpicked
pick_among : (number : ℕ) (unpicked : List ℕ) → 0 < length unpicked → Among (pick_of number unpicked) unpicked
pick_among number unpicked h = get_d_among unpicked _ (mod-lt _ h)

pub drawn_length : (k number : ℕ) (unpicked : List ℕ) → length (drawn k number unpicked) ≡ k
unfolding drawn
drawn_length zero number unpicked = refl
drawn_length (suc k) number unpicked = ap suc (drawn_length k (advance number) _)

-- some positions that are unpicked, at least as many as there are draws
record Room (k : ℕ) (unpicked : List ℕ) : Type 0 where
  distinct : Distinct unpicked
  many : k ≤ length unpicked

-- what is left for the draws behind the first
module _ (k number : ℕ) (unpicked : List ℕ) (r : Room (suc k) unpicked) where
  abbrev first : ℕ
  first = pick_of number unpicked

  first_among : Among first unpicked
  first_among = pick_among number unpicked (omega (arith, r.many))

  room_behind : Room k (without first unpicked)
  room_behind =
      record {
        distinct = without_distinct first unpicked r.distinct;
        many = omega (arith, r.many, without_length first unpicked r.distinct first_among);
      }

drawn_among : (k number : ℕ) (unpicked : List ℕ) → Room k unpicked → (i : ℕ) → i < k → Among (get_or (drawn k number unpicked) i 0) unpicked
unfolding drawn
drawn_among zero number unpicked r i h = absurd (omega arith)
drawn_among (suc k) number unpicked r zero h = first_among k number unpicked r
drawn_among (suc k) number unpicked r (suc i) h =
    (without_among _ unpicked _ (drawn_among k (advance number) _ (room_behind k number unpicked r) i (omega arith))).0

drawn_different : (k number : ℕ) (unpicked : List ℕ) → Room k unpicked → (i j : ℕ) → i < j → j < k
    → get_or (drawn k number unpicked) i 0 ≡ get_or (drawn k number unpicked) j 0 → ⊥
unfolding drawn
drawn_different zero number unpicked r i j before h = absurd (omega arith)
drawn_different (suc k) number unpicked r i zero before h = absurd (omega arith)
drawn_different (suc k) number unpicked r zero (suc j) before h =
    (without_among _ unpicked _ (drawn_among k (advance number) _ (room_behind k number unpicked r) j (omega arith))).1
drawn_different (suc k) number unpicked r (suc i) (suc j) before h =
    drawn_different k (advance number) _ (room_behind k number unpicked r) i j (omega arith) (omega arith)

pub load_draws : LoadDraws
load_draws π seed k h =
    let all : Room k (span 0 (width π)) = record { distinct = span_distinct 0 (width π); many = rw span_length h } in
    record {
      count = drawn_length k seed (span 0 (width π));
      inside = λ i inside. let r = span_among 0 (width π) _ (drawn_among k seed (span 0 (width π)) all i inside) in omega arith;
      different = drawn_different k seed (span 0 (width π)) all;
    }

pub load_example : LoadExample
unfolding drawn handed_back
load_example = record { positions = refl; number = refl }
