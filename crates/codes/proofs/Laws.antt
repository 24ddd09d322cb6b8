-- What the layers above may cite: the limits of each code, its number, and what mending finds.
-- A message's codeword with positions f inverted is a word in which that codeword is wrong just where f is not marked.
use Rattle.std.proofs.Common.{◌≡◌, ℕ, ◌+◌, ◌*◌, ◌^◌, ◌<◌, ◌≤◌, true, leb, ◌↔◌, sym, refl, arith}
use mathlib.Core.Option.{Option, none, some}
use lib.Bits.{bit_xor}
use Rattle.codes.specs.declared.code.Code.{Code}
use Rattle.codes.specs.declared.code.Code.TheVariants.{O36, E36, O40, E40}
use Rattle.codes.specs.declared.answer.Correction.{Correction}
use Rattle.codes.specs.Answer.{accepted, refused}
use Rattle.codes.specs.Projection.{width, message_bits}
use Rattle.codes.specs.Codes.{projection, is_code, step_limit, correction_values, correction_answer}
use Rattle.codes.specs.Word.{word}
use Rattle.codes.specs.Message.{encode}
use Rattle.codes.specs.Correction.{outside, inside, ones, Near, correction_of, correct}
use Rattle.codes.proofs.Messages.{encode_below, encode_codeword, decode_encode}
use Rattle.codes.proofs.Codes.{systematic, apart}
use Rattle.codes.proofs.Corrections as corrections
use Rattle.codes.proofs.Rows.{not_refused}
use Rattle.codes.proofs.Tests.{leb_iff, and_iff}
-- a power as a shift; the widths and message sizes, at most; and mending, where none of its other refusals is met
pub use Rattle.codes.proofs.Digits.{power_fits}
pub use Rattle.codes.proofs.Codes.{width_le, bits_le}
pub use Rattle.codes.proofs.Corrections.{correcting_fits}

-- the step limit times 4096 is the message limit, so step·4096 + reading is a message exactly where the step is below its limit
pub steps : (c : Code) → step_limit (projection c) * 4096 ≡ 2 ^ message_bits (projection c)
steps O36 = refl
steps E36 = refl
steps O40 = refl
steps E40 = refl

-- a codeword has the code's width
pub encode_lt : (c : Code) (n : ℕ) → encode (projection c) n < 2 ^ width (projection c)
encode_lt c n = encode_below (projection c) (systematic c) n

-- mending gives the near codeword, of which there is at most one, and nothing exactly where none is near
module _ (c : Code) (w m : ℕ) where
  pub near_correct : (x : ℕ) → Near (projection c) w m x → correct (projection c) w m ≡ some (correction_of (projection c) w m x)
  near_correct = corrections.correct_near (projection c) w m (systematic c) (apart c)

  pub none_correct : ((x : ℕ) → Near (projection c) w m x → ⊥) → correct (projection c) w m ≡ none
  none_correct = corrections.correct_none (projection c) w m (systematic c) (apart c)

  pub correct_none : correct (projection c) w m ≡ none → (x : ℕ) → Near (projection c) w m x → ⊥
  correct_none = corrections.none_near_lem (projection c) w m (systematic c) (apart c)

-- a codeword with positions f inverted, under marks m: f and m are words whose ones are the positions. At a sum of at most 7 mending gives
-- it back; at 8 it gives nothing
pub correct_within : (c : Code) (n f m : ℕ) → n < 2 ^ message_bits (projection c) →
    2 * outside (word (projection c) f) (word (projection c) m) + ones (projection c) m ≤ 7 →
    correct (projection c) (bit_xor (encode (projection c) n) f) m
    ≡ some (record {
      codeword = encode (projection c) n;
      message = n;
      wrong = outside (word (projection c) f) (word (projection c) m);
      marks = ones (projection c) m;
      marked_wrong = inside (word (projection c) f) (word (projection c) m);
    })
correct_within c n f m hn h =
    let π = projection c in
    let x = encode π n in
    let e = corrections.wrong_inverted π m x f in
    let near : Near (projection c) (bit_xor (encode (projection c) n) f) m (encode (projection c) n) = record {
      fits = encode_lt c n;
      codeword = encode_codeword π (systematic c) n;
      near = corrections.sum_near π (bit_xor x f) m x (rw e h);
    } in
    rw (near_correct c (bit_xor x f) m x near, e, corrections.marked_wrong_inverted π m x f, decode_encode π (systematic c) n hn)

pub correct_eight : (c : Code) (n f m : ℕ) →
    2 * outside (word (projection c) f) (word (projection c) m) + ones (projection c) m ≡ 8 →
    correct (projection c) (bit_xor (encode (projection c) n) f) m ≡ none
correct_eight c n f m h =
    let π = projection c in
    let x = encode π n in
    let w = bit_xor x f in
    none_correct c w m
    (corrections.eight_none π w m (systematic c) (apart c) x (encode_lt c n) (encode_codeword π (systematic c) n)
    (rw (corrections.wrong_inverted π m x f) h))

-- ---- a code's number

-- 'code not 1 to 4'
pub code_iff : (n : ℕ) → is_code n ≡ true ↔ (1 ≤ n) × (n ≤ 4)
code_iff n = and_iff (leb 1 n) (leb n 4) (leb_iff 1 n) (leb_iff n 4)

pub code_lt : (n : ℕ) → is_code n ≡ true → n < 256
code_lt n e = let few = ((code_iff n).0 e).1 in omega arith

-- ---- what mending found, by its answer

pub answer_near : (x : Option Correction) (c : Correction) → accepted (correction_values c) ≡ correction_answer x → x ≡ some c
answer_near (some x) c e =
    let codeword : x.codeword ≡ c.codeword = cc in
    let message : x.message ≡ c.message = cc in
    let wrongs : x.wrong ≡ c.wrong = cc in
    let marks : x.marks ≡ c.marks = cc in
    let marked : x.marked_wrong ≡ c.marked_wrong = cc in
    λ i. some (record { codeword = codeword i; message = message i; wrong = wrongs i; marks = marks i; marked_wrong = marked i })
answer_near none c e = not_refused _ _ e

pub answer_none : (x : Option Correction) (n : ℕ) → refused n ≡ correction_answer x → x ≡ none
answer_none (some x) n e = not_refused _ _ (sym e)
answer_none none n e = refl
