-- Positions of a word, counted from its highest bit, are the rows of its columns: of m columns, column c is the digit of 16^(m−c), and row r
-- of it the digit of 2^(3−r).
use Rattle.std.proofs.Common.{◌≡◌, ℕ, zero, suc, ◌+◌, ◌-◌, ◌*◌, ◌/◌, ◌%◌, ◌^◌, ◌<◌, eqb, get_or, sym, ◌∙◌, mod-lt, arith, lit<, shr-shr}
use Rattle.symbols.specs.Symbol.{has_bit}
use Rattle.symbols.specs.Column.{column_of, one}
use Rattle.symbols.proofs.Every.{law_below, number_discrete}
use Rattle.codes.specs.Digits.{Digit, columns, digits}
use Rattle.codes.specs.Projection.{size, width}
use Rattle.codes.specs.Claims.{column_rows, Positions}
use Rattle.codes.proofs.Digits.{pow_mul}

-- a digit of a number
digit_at : {A : Type 0} (d : Digit A) (k n i : ℕ) (x : A) → i < k → get_or (digits d k n) i x ≡ d.lowest (n / d.base ^ (k - 1 - i))
digit_at d zero n i x h = absurd (omega arith)
digit_at d (suc k) n zero x h = let e : suc k - 1 - 0 ≡ k = omega arith in rw e
digit_at d (suc k) n (suc i) x h = let e : suc k - 1 - suc i ≡ k - 1 - i = omega arith in rw e (digit_at d k n i x (omega arith))

one_bit : (k n : ℕ) → one (has_bit k n) ≡ n / 2 ^ k % 2
one_bit k n = law_below 2 number_discrete (λ x. one (eqb x 1)) (λ x. x) tt (n / 2 ^ k % 2) (mod-lt (n / 2 ^ k) (lit< tt))

-- a row of a number's column
row_at : (n r : ℕ) → r < 4 → get_or (column_rows (column_of n)) r 0 ≡ n / 2 ^ (3 - r) % 2
row_at n zero h = one_bit 3 n
row_at n (suc zero) h = one_bit 2 n
row_at n (suc (suc zero)) h = one_bit 1 n
row_at n (suc (suc (suc zero))) h = one_bit 0 n
row_at n (suc (suc (suc (suc r)))) h = absurd (omega arith)

pub positions : Positions
positions π n c r first last h =
    let above : 4 * (size π - 1 - (c - 1)) + (3 - r) ≡ width π - 1 - (4 * (c - 1) + r) = omega arith in
    let column = digit_at columns (size π) n (c - 1) (column_of 0) (omega arith) in
    sym (rw column (row_at (n / 16 ^ (size π - 1 - (c - 1))) r h
    ∙ rw (pow_mul 2 4 (size π - 1 - (c - 1)), shr-shr n (4 * (size π - 1 - (c - 1))) (3 - r), above)))
