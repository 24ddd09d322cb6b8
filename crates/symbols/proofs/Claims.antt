-- The claims of specs/Claims.antt. Each law is a test over all bits, symbols or columns that it speaks of; those of numbers stand in Numbers.antt.
use mathlib.Core.Path.{◌≡◌}
use mathlib.Core.Bool.{false, not, ◌&&◌, ◌||◌, beq, Bool-discrete}
use Prim.Native.Nat.{◌+◌, ◌*◌}
use borrow.Author.Tests.{eq-eqb}
use lib.Dec.{eqb, leb, leb→le}
use Rattle.symbols.specs.Symbol.{◌⊻◌, s0, s1, Symbol-discrete, is_zero, add, mul}
use Rattle.symbols.specs.Column.{Column, column, Column-discrete, value, parity, top, one, weight, ◌⊕◌, column_with}
use Rattle.symbols.specs.Claims.{ExclusiveOr, Field, ColumnsAdd, ColumnFixed, Weights, Numbers}
use Rattle.symbols.proofs.Every.{bits, symbols, columns, ◌⊗◌, law, law_le, implied, law_where, number_discrete}
use Rattle.symbols.proofs.Numbers.{bits_counted, symbols_counted, columns_counted}

pub exclusive_or : ExclusiveOr
exclusive_or =
    record {
      assoc = λ a b c. law (bits ⊗ bits ⊗ bits) Bool-discrete (λ (a, (b, c)). (a ⊻ b) ⊻ c) (λ (a, (b, c)). a ⊻ (b ⊻ c)) tt (a, (b, c));
      comm = λ a b. law (bits ⊗ bits) Bool-discrete (λ (a, b). a ⊻ b) (λ (a, b). b ⊻ a) tt (a, b);
      zero = law bits Bool-discrete (λ a. a ⊻ false) (λ a. a) tt;
      self = law bits Bool-discrete (λ a. a ⊻ a) (λ a. false) tt;
      twice = λ a b. law (bits ⊗ bits) Bool-discrete (λ (a, b). a ⊻ (a ⊻ b)) (λ (a, b). b) tt (a, b);
      last = λ a b c. law (bits ⊗ bits ⊗ bits) Bool-discrete (λ (a, (b, c)). (a ⊻ b) ⊻ c) (λ (a, (b, c)). (a ⊻ c) ⊻ b) tt (a, (b, c));
      middle =
          λ a b c d.
          law (bits ⊗ bits ⊗ bits ⊗ bits) Bool-discrete (λ (a, (b, (c, d))). (a ⊻ b) ⊻ (c ⊻ d)) (λ (a, (b, (c, d))). (a ⊻ c) ⊻ (b ⊻ d)) tt
          (a, (b, (c, d)));
      unequal = λ a b. law (bits ⊗ bits) Bool-discrete (λ (a, b). not (beq a b)) (λ (a, b). a ⊻ b) tt (a, b);
    }

pub field : Field
field =
    record {
      add_assoc =
          λ x y z.
          law (symbols ⊗ symbols ⊗ symbols) Symbol-discrete (λ (x, (y, z)). add (add x y) z) (λ (x, (y, z)). add x (add y z)) tt (x, (y, z));
      add_comm = λ x y. law (symbols ⊗ symbols) Symbol-discrete (λ (x, y). add x y) (λ (x, y). add y x) tt (x, y);
      add_zero = law symbols Symbol-discrete (λ x. add x s0) (λ x. x) tt;
      add_self = law symbols Symbol-discrete (λ x. add x x) (λ x. s0) tt;
      negative =
          λ x y e.
          law_where (symbols ⊗ symbols) Symbol-discrete (λ (x, y). is_zero (add x y)) (λ (x, y). x) (λ (x, y). y) tt (x, y) (rw e);
      mul_assoc =
          λ x y z.
          law (symbols ⊗ symbols ⊗ symbols) Symbol-discrete (λ (x, (y, z)). mul (mul x y) z) (λ (x, (y, z)). mul x (mul y z)) tt (x, (y, z));
      mul_comm = λ x y. law (symbols ⊗ symbols) Symbol-discrete (λ (x, y). mul x y) (λ (x, y). mul y x) tt (x, y);
      mul_one = law symbols Symbol-discrete (λ x. mul x s1) (λ x. x) tt;
      add_mul =
          λ x y z.
          law (symbols ⊗ symbols ⊗ symbols) Symbol-discrete (λ (x, (y, z)). mul (add x y) z) (λ (x, (y, z)). add (mul x z) (mul y z)) tt
          (x, (y, z));
      mul_zero = λ x y. law (symbols ⊗ symbols) Bool-discrete (λ (x, y). is_zero (mul x y)) (λ (x, y). is_zero x || is_zero y) tt (x, y);
      inverse =
          λ x e.
          (mul x x, law_where symbols Symbol-discrete (λ x. not (is_zero x)) (λ x. mul x (mul x x)) (λ x. s1) tt x (rw e));
      zero = law_where symbols Symbol-discrete is_zero (λ x. x) (λ x. s0) tt;
    }

pub columns_add : ColumnsAdd
columns_add =
    record {
      values = λ c d. law (columns ⊗ columns) Symbol-discrete (λ (c, d). value (c ⊕ d)) (λ (c, d). add (value c) (value d)) tt (c, d);
      parities = λ c d. law (columns ⊗ columns) Bool-discrete (λ (c, d). parity (c ⊕ d)) (λ (c, d). parity c ⊻ parity d) tt (c, d);
      tops = λ c d. law (columns ⊗ columns) Bool-discrete (λ (c, d). top (c ⊕ d)) (λ (c, d). top c ⊻ top d) tt (c, d);
      twice = λ c d. law (columns ⊗ columns) (Column-discrete Bool-discrete) (λ (c, d). c ⊕ (c ⊕ d)) (λ (c, d). d) tt (c, d);
      blank = law columns (Column-discrete Bool-discrete) (λ c. c ⊕ column false false false false) (λ c. c) tt;
    }

-- the column that has a column's parity, value and top bit is that column
with_own : (c : Column) → column_with (parity c) (value c) (top c) ≡ c
unfolding column_with
with_own c = law columns (Column-discrete Bool-discrete) (λ c. column_with (parity c) (value c) (top c)) (λ c. c) tt c

pub column_fixed : ColumnFixed
unfolding column_with
column_fixed =
    record {
      determined = λ c d ep ev et. cc (with_own c, with_own d);
      parities =
          λ p v t.
          law (bits ⊗ symbols ⊗ bits) Bool-discrete (λ (p, (v, t)). parity (column_with p v t)) (λ (p, (v, t)). p) tt (p, (v, t));
      values =
          λ p v t.
          law (bits ⊗ symbols ⊗ bits) Symbol-discrete (λ (p, (v, t)). value (column_with p v t)) (λ (p, (v, t)). v) tt (p, (v, t));
      tops =
          λ p v t.
          law (bits ⊗ symbols ⊗ bits) Bool-discrete (λ (p, (v, t)). top (column_with p v t)) (λ (p, (v, t)). t) tt (p, (v, t));
    }

pub weights : Weights
weights =
    record {
      odd = λ c e. leb→le 1 (weight c) (implied columns parity (λ c. leb 1 (weight c)) tt c e);
      even =
          λ c e v.
          law_where columns number_discrete (λ c. not (parity c) && not (is_zero (value c))) weight (λ c. 2) tt c (rw (e, v));
      flat =
          λ c e v.
          law_where columns number_discrete (λ c. not (parity c) && is_zero (value c)) weight (λ c. 4 * one (top c)) tt c (rw (e, v));
      most = law_le columns weight (λ c. 4) tt;
      differ = λ c d. law_le (columns ⊗ columns) (λ (c, d). one (parity c ⊻ parity d)) (λ (c, d). weight (d ⊕ c)) tt (c, d);
      nearer =
          λ c q d.
          law_le (columns ⊗ columns ⊗ columns) (λ (c, (q, d)). weight (c ⊕ d)) (λ (c, (q, d)). weight (c ⊕ q ⊕ d) + weight q) tt (c, (q, d));
      itself = law columns number_discrete (λ c. weight (c ⊕ c)) (λ c. 0) tt;
      other =
          λ c d e.
          law_where (columns ⊗ columns) (Column-discrete Bool-discrete) (λ (c, d). eqb (weight (c ⊕ d)) 0) (λ (c, d). c) (λ (c, d). d) tt
          (c, d) (eq-eqb (weight (c ⊕ d)) 0 e);
    }

pub numbers : Numbers
numbers = record { bits = bits_counted; symbols = symbols_counted; columns = columns_counted }
