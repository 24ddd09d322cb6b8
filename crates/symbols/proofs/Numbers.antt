-- Bits, symbols and columns as numbers: there and back, modulo 2, 4 and 16.
-- There and back is a test over the type, or over the numbers below the base. A number's lowest bits are those of its remainder, so what
-- is tested below 4 or 16 holds of every number, taken modulo 4 or 16.
use mathlib.Core.Path.{◌≡◌, sym, ap, ap₂, ◌∙◌}
use mathlib.Core.Bool.{Bool-discrete}
use Prim.Native.Nat.{ℕ, suc, ◌+◌, ◌/◌, ◌%◌, ◌^◌}
use native.Mathlib.Nat.{mod-lt}
use lib.Dec.{T, lit<, leb, ltb, ltb→lt}
use lib.Pow.{field, mod-mod-pow}
use Rattle.symbols.specs.Symbol.{Symbol, Symbol-discrete, symbol, symbol_number, symbol_of, has_bit}
use Rattle.symbols.specs.Column.{Column-discrete, one, column_of, column_number}
use Rattle.symbols.specs.Claims.{Counted}
use Rattle.symbols.proofs.Every.{Every, bits, symbols, columns, below, passes, law, law_le, law_below, law_below_both, number_discrete}

-- a number's low bits are those of its remainder
bit_mod : (k j n : ℕ) → has_bit k (n % 2 ^ (j + 1 + k)) ≡ has_bit k n
bit_mod k j n = rw (field n (j + 1) k, mod-mod-pow (n / 2 ^ k) j 1)

pub symbol_mod : (n : ℕ) → symbol_of (n % 4) ≡ symbol_of n
symbol_mod n = ap₂ symbol (bit_mod 1 0 n) (bit_mod 0 1 n)

pub column_mod : (n : ℕ) → column_of (n % 16) ≡ column_of n
column_mod n = cc (bit_mod 3 0 n, bit_mod 2 1 n, bit_mod 1 2 n, bit_mod 0 3 n)

-- a type is counted by its values' numbers where these are below the base and lead back, and a number's remainder stands for what it does
counted : {A : Type 0} (p : Every A) (d : Discrete A) (base : ℕ) (lowest : ℕ → A) (number : A → ℕ) → T (ltb 0 base) →
    T (p.all (λ x. leb (suc (number x)) base)) → T (p.all (λ x. passes (d (lowest (number x)) x))) →
    T (below base (λ n. passes (number_discrete (number (lowest n)) n))) → ((n : ℕ) → lowest (n % base) ≡ lowest n) → Counted base lowest number
counted p d base lowest number t small back there modulo =
    let positive = ltb→lt 0 base t in
    record {
      positive = positive;
      small = law_le p (λ x. suc (number x)) (λ x. base) small;
      back = law p d (λ x. lowest (number x)) (λ x. x) back;
      there =
          λ n.
          ap number (sym (modulo n)) ∙ law_below base number_discrete (λ n. number (lowest n)) (λ n. n) there (n % base) (mod-lt n positive);
      modulo = modulo;
    }

pub bits_counted : Counted 2 (has_bit 0) one
bits_counted = counted bits Bool-discrete 2 (has_bit 0) one tt tt tt tt (bit_mod 0 0)

pub symbols_counted : Counted 4 symbol_of symbol_number
symbols_counted = counted symbols Symbol-discrete 4 symbol_of symbol_number tt tt tt tt symbol_mod

pub columns_counted : Counted 16 column_of column_number
columns_counted = counted columns (Column-discrete Bool-discrete) 16 column_of column_number tt tt tt tt column_mod

-- a function of two numbers agrees with one of two symbols at every number, taken modulo 4, where it does below 4
pub by_symbols : (f : ℕ → ℕ → ℕ) (g : Symbol → Symbol → Symbol) →
    T (below 4 (λ x. below 4 (λ y. passes (number_discrete (f x y) (symbol_number (g (symbol_of x) (symbol_of y))))))) →
    (x y : ℕ) → f (x % 4) (y % 4) ≡ symbol_number (g (symbol_of x) (symbol_of y))
by_symbols f g t x y =
    law_below_both 4 number_discrete f (λ x y. symbol_number (g (symbol_of x) (symbol_of y))) t
    (x % 4) (y % 4) (mod-lt x (lit< tt)) (mod-lt y (lit< tt))
    ∙ rw (symbol_mod x, symbol_mod y)
