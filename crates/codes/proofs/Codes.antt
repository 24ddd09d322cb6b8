-- The four codes: the sizes that numbers have to fit, and what the theory asks of each code.
-- What is asked of a code is a test of its matrix, whatever the top rule, so each is computed once for nine columns and once for ten.
use Rattle.std.proofs.Common.{ℕ, ◌<◌, ◌≤◌, refl, arith, lit<, lit≤}
use Rattle.codes.specs.declared.code.Code.{Code}
use Rattle.codes.specs.declared.code.Code.TheVariants.{O36, E36, O40, E40}
use Rattle.codes.specs.Projection.{Projection, TopRule, rule_o, rule_e, nine, ten, size, width, message_bits}
use Rattle.codes.specs.Codes.{projection}
use Rattle.codes.specs.ContractsOfWalk.{Multiples}
use Rattle.codes.proofs.Arrays.{multiples_of, are_multiples}
use Rattle.codes.proofs.Placing.{Systematic}
use Rattle.codes.proofs.Distance.{Apart, apart_by_length}

-- what holds of both matrices, whatever the rule, holds of each code
by_length : (P : Projection → Type 0) → ((r : TopRule) → P (nine r)) → ((r : TopRule) → P (ten r)) → (c : Code) → P (projection c)
by_length P a b O36 = a rule_o
by_length P a b E36 = a rule_e
by_length P a b O40 = b rule_o
by_length P a b E40 = b rule_e

-- numbers of all four codes
pub size_le : (c : Code) → size (projection c) ≤ 10
size_le = by_length (λ π. size π ≤ 10) (λ r. lit≤ tt) (λ r. lit≤ tt)

pub seven_le : (c : Code) → 7 ≤ size (projection c)
seven_le = by_length (λ π. 7 ≤ size π) (λ r. lit≤ tt) (λ r. lit≤ tt)

pub width_le : (c : Code) → width (projection c) ≤ 40
width_le c = omega (arith, size_le c)

pub bits_le : (c : Code) → message_bits (projection c) ≤ 22
bits_le = by_length (λ π. message_bits π ≤ 22) (λ r. lit≤ tt) (λ r. lit≤ tt)

-- the multiples of each column of the matrix are bytes
pub multiples_in : (c : Code) (j : ℕ) → j < 10 → Multiples (projection c) j (multiples_of (projection c) j)
multiples_in = by_length (λ π. (j : ℕ) → j < 10 → Multiples π j (multiples_of π j)) (λ r. are_multiples (nine r) tt) (λ r. are_multiples (ten r) tt)

-- each code is systematic, and its codewords are apart
pub systematic : (c : Code) → Systematic (projection c)
systematic =
    by_length Systematic
    (λ r. record { shape = refl; flags = refl; some = lit< tt; others = refl; alone = tt })
    (λ r. record { shape = refl; flags = refl; some = lit< tt; others = refl; alone = tt })

pub apart : (c : Code) → Apart (projection c)
apart = by_length Apart (λ r. apart_by_length (nine r) tt (lit≤ tt)) (λ r. apart_by_length (ten r) tt (lit≤ tt))
