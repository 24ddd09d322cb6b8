-- Messages and codewords: a message's columns are a codeword and say the message again, and a codeword is that of its own message.
-- A column is fixed by parity, value and top bit, so a word of one parity is fixed by its values and top bits. The values of a codeword are
-- fixed by the free ones, its top bits by all but the last: these and the parity are the message.
use Rattle.std.proofs.Common.{◌≡◌, suc, ◌-◌, ◌<◌, Bool, true, false, List, [], ◌∷◌, map, length, sym, refl, ap, ◌∙◌, ap₂, arith}
use lib.ListN.{length-map}
use Rattle.symbols.specs.Symbol.{◌⊻◌, Symbol}
use Rattle.symbols.specs.Column.{Column, value, top, column_with}
use Rattle.symbols.proofs.Claims.{exclusive_or, column_fixed}
use Rattle.codes.specs.Projection.{Projection, wanted, count, size, top_bits}
use Rattle.codes.specs.Word.{all_parity, top_row}
use Rattle.codes.specs.Message.{Message, all_values, all_tops, columns_with, codeword_of, chosen, first_parity, but_last, message_in}
use Rattle.codes.proofs.Words.{Codeword, parity_first, parity_rest, parity_cons}
use Rattle.codes.proofs.Placing.{Systematic, length_values, values_zero, chosen_values, values_chosen, length_chosen}

-- columns of one parity by their values and top bits: they have these, and are fixed by them
length_with : (p : Bool) (vs : List Symbol) (ts : List Bool) → length vs ≡ length ts → length (columns_with p vs ts) ≡ length vs
length_with p [] ts e = refl
length_with p (v ∷ vs) [] e = absurd (omega arith)
length_with p (v ∷ vs) (t ∷ ts) e = ap suc (length_with p vs ts (omega arith))

with_parity : (p : Bool) (vs : List Symbol) (ts : List Bool) → all_parity p (columns_with p vs ts) ≡ true
with_parity p [] ts = refl
with_parity p (v ∷ vs) [] = refl
with_parity p (v ∷ vs) (t ∷ ts) = parity_cons p (column_with p v t) (columns_with p vs ts) (column_fixed.parities p v t) (with_parity p vs ts)

pub with_values : (p : Bool) (vs : List Symbol) (ts : List Bool) → length vs ≡ length ts → map value (columns_with p vs ts) ≡ vs
with_values p [] ts e = refl
with_values p (v ∷ vs) [] e = absurd (omega arith)
with_values p (v ∷ vs) (t ∷ ts) e = ap₂ ◌∷◌ (column_fixed.values p v t) (with_values p vs ts (omega arith))

with_tops : (p : Bool) (vs : List Symbol) (ts : List Bool) → length vs ≡ length ts → map top (columns_with p vs ts) ≡ ts
with_tops p [] [] e = refl
with_tops p [] (t ∷ ts) e = absurd (omega arith)
with_tops p (v ∷ vs) [] e = absurd (omega arith)
with_tops p (v ∷ vs) (t ∷ ts) e = ap₂ ◌∷◌ (column_fixed.tops p v t) (with_tops p vs ts (omega arith))

columns_with_lem : (p : Bool) (cs : List Column) → all_parity p cs ≡ true → columns_with p (map value cs) (map top cs) ≡ cs
columns_with_lem p [] e = refl
columns_with_lem p (c ∷ cs) e =
    let v = value c in
    let t = top c in
    ap₂ ◌∷◌
    (column_fixed.determined (column_with p v t) c (column_fixed.parities p v t ∙ sym (parity_first p c cs e)) (column_fixed.values p v t) (column_fixed.tops p v t))
    (columns_with_lem p cs (parity_rest p c cs e))

-- the top row's parity is the sum of the top bits, so the last one is fixed by the others
xors : List Bool → Bool
xors [] = false
xors (b ∷ bs) = b ⊻ xors bs

top_row_xors : (cs : List Column) → top_row cs ≡ xors (map top cs)
unfolding xors
top_row_xors [] = refl
top_row_xors (c ∷ cs) = rw (top_row_xors cs)

pub length_tops : (t : Bool) (bs : List Bool) → length (all_tops t bs) ≡ suc (length bs)
length_tops t [] = refl
length_tops t (b ∷ bs) = ap suc (length_tops (b ⊻ t) bs)

xor_tops : (t : Bool) (bs : List Bool) → xors (all_tops t bs) ≡ t
unfolding xors
xor_tops t [] = exclusive_or.zero t
xor_tops t (b ∷ bs) = rw (xor_tops (b ⊻ t) bs) (exclusive_or.twice b t)

but_last_tops : (t : Bool) (bs : List Bool) → but_last (all_tops t bs) ≡ bs
but_last_tops t [] = refl
but_last_tops t (b ∷ []) = refl
but_last_tops t (b ∷ (c ∷ bs)) = rw (but_last_tops (b ⊻ t) (c ∷ bs))

tops_but_last : (t : Bool) (bs : List Bool) → 0 < length bs → t ≡ xors bs → all_tops t (but_last bs) ≡ bs
unfolding xors
tops_but_last t [] h e = absurd (omega arith)
tops_but_last t (b ∷ []) h e = rw (e, exclusive_or.zero b)
tops_but_last t (b ∷ (c ∷ bs)) h e =
    rw (tops_but_last (b ⊻ t) (c ∷ bs) (omega arith) (rw e (exclusive_or.twice b (c ⊻ xors bs))))

pub length_but_last : (bs : List Bool) → length (but_last bs) ≡ length bs - 1
length_but_last [] = refl
length_but_last (b ∷ []) = refl
length_but_last (b ∷ (c ∷ bs)) = ap suc (length_but_last (c ∷ bs)) ∙ omega arith

-- a message that has the sizes of a code
pub record Sized (π : Projection) (m : Message) : Type 0 where
  pub values : length m.values ≡ count π.free
  pub tops : length m.tops ≡ top_bits π

-- the first column's parity is that of all
first_parity_lem : (p : Bool) (cs : List Column) → 0 < length cs → all_parity p cs ≡ true → first_parity cs ≡ p
first_parity_lem p [] h e = absurd (omega arith)
first_parity_lem p (c ∷ cs) h e = parity_first p c cs e

module _ (π : Projection) (sys : Systematic π) where
  module _ (m : Message) (fit : Sized π m) where
    -- all top bits of the codeword
    abbrev tops : List Bool
    tops = all_tops (wanted π.rule m.parity) m.tops

    as_many : length (all_values π m.values) ≡ length (all_tops (wanted π.rule m.parity) m.tops)
    as_many = omega (arith, length_values π sys m.values, length_tops (wanted π.rule m.parity) m.tops, fit.tops, sys.some)

    pub length_codeword : length (codeword_of π m) ≡ size π
    length_codeword = length_with m.parity (all_values π m.values) tops as_many ∙ length_values π sys m.values

    values_of : map value (codeword_of π m) ≡ all_values π m.values
    values_of = with_values m.parity (all_values π m.values) tops as_many

    tops_of : map top (codeword_of π m) ≡ all_tops (wanted π.rule m.parity) m.tops
    tops_of = with_tops m.parity (all_values π m.values) tops as_many

    -- a message's columns are a codeword
    pub message_codeword : Codeword π m.parity (codeword_of π m)
    message_codeword =
        record {
          zero = rw values_of (values_zero π sys m.values);
          parities = with_parity m.parity (all_values π m.values) tops;
          tops = rw (top_row_xors (codeword_of π m), tops_of) (xor_tops (wanted π.rule m.parity) m.tops);
        }

    -- and they say the message again
    pub message_of_codeword : message_in π (codeword_of π m) ≡ m
    message_of_codeword =
        let ep = first_parity_lem m.parity (codeword_of π m) (omega (arith, length_codeword, sys.some)) message_codeword.parities in
        let ev = ap (chosen π.free) values_of ∙ chosen_values π sys m.values fit.values in
        let et = ap but_last tops_of ∙ but_last_tops (wanted π.rule m.parity) m.tops in
        rw (ep, ev, et)

  -- what a word says of its message has the right sizes
  pub sized : (cs : List Column) → length cs ≡ size π → Sized π (message_in π cs)
  sized cs long =
      record {
        values = length_chosen π.free (map value cs) (length-map cs value ∙ long ∙ sym sys.flags);
        tops = length_but_last (map top cs) ∙ omega (arith, length-map cs top);
      }

  -- a codeword is that of its message
  pub codeword_of_message : (p : Bool) (cs : List Column) → length cs ≡ size π → Codeword π p cs → codeword_of π (message_in π cs) ≡ cs
  codeword_of_message p cs long is =
      let ep = first_parity_lem p cs (omega (arith, sys.some)) is.parities in
      rw ep
      (ap₂ (columns_with p)
      (values_chosen π sys (map value cs) (length-map cs value ∙ long) is.zero)
      (tops_but_last (wanted π.rule p) (map top cs) (omega (arith, length-map cs top, sys.some)) (sym is.tops ∙ top_row_xors cs))
      ∙ columns_with_lem p cs is.parities)
