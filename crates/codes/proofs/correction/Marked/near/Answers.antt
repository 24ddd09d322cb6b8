-- One of the two fillings is within three positions of a near codeword.
use Rattle.std.specs.Int.Bits.{xor_zero_r}
use Rattle.std.proofs.Common.{◌≡◌, ℕ, zero, suc, ◌^◌, ◌<◌, ap, ◌∙◌, arith, [], ◌∷◌, slice_index_or}
use lib.Bits.{bit_xor, bit_or, xor_lt, or_lt}
use Rattle.codes.specs.Projection.{Projection, width}
use Rattle.codes.specs.Codes.{projection}
use Rattle.codes.specs.Correction.{Near}
use Rattle.codes.specs.ContractsOfSearch.{NearWithin}
use Rattle.codes.proofs.Corrections.{neither_filling}
use Rattle.codes.proofs.correction.Marked.near.Goals as goal

-- the two fillings of a word's marked bits, by their place in the loop
abbrev filling : ℕ → ℕ → ℕ → ℕ
filling w m i = slice_index_or (bit_xor (bit_or w m) m ∷ bit_or w m ∷ []) i 0

filling_fits : (n w m : ℕ) → w < 2 ^ n → m < 2 ^ n → (i : ℕ) → i < 2 → filling w m i < 2 ^ n
filling_fits n w m hw hm zero h = xor_lt n _ m (or_lt n w m hw hm) hm
filling_fits n w m hw hm (suc zero) h = or_lt n w m hw hm
filling_fits n w m hw hm (suc (suc i)) h = absurd (omega arith)

-- where nothing is marked they are the same, so either one will do
same_filling : (w m : ℕ) → m ≡ 0 → bit_xor (bit_or w m) m ≡ bit_or w m
same_filling w m unmarked = ap (bit_xor (bit_or w m)) unmarked ∙ xor_zero_r (bit_or w m)

neither_unmarked : (π : Projection) (w m : ℕ) → m ≡ 0 → (i : ℕ) → i < 2 → ((y : ℕ) → NearWithin π w m 3 (filling w m i) y → ⊥) →
    (y : ℕ) → Near π w m y → ⊥
neither_unmarked π w m unmarked zero h none = neither_filling π w m none (rw (same_filling w m unmarked) at none)
neither_unmarked π w m unmarked (suc zero) h none = neither_filling π w m (λ y near. none y (rw (same_filling w m unmarked) at near)) none
neither_unmarked π w m unmarked (suc (suc i)) h none = absurd (omega arith)

pub fitting-requires : goal.fitting-requires
fitting-requires c =
    let s = c.args.self in
    filling_fits (width (projection s.code)) s.word s.marks s.word_fits s.marks_fit c.loop-filled.filled-index c.loop-filled-test.true

pub returns-then-self-eq0 : goal.returns-then-self-eq0
returns-then-self-eq0 c =
    let s = c.args.self in
    neither_unmarked (projection s.code) s.word s.marks c.if-self-eq0.true c.loop-filled.filled-index c.loop-filled-test.true c.in_default.ensures

pub returns : goal.returns
returns c =
    let s = c.args.self in
    neither_filling (projection s.code) s.word s.marks (c.loop-filled.invariant 0 (omega arith)) (c.loop-filled.invariant 1 (omega arith))
