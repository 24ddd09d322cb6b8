-- The claims of specs/Claims.antt, each from the law that shows it for every code that is systematic and whose codewords are apart; the
-- four codes are both. Of the starred words, encoding is computed. Correcting is not: it gives the codeword that is near by a computed test,
-- or nothing, since a codeword's sum 2·wrong + marks is computed to be 8. A word call is accepted where no row of its table is met, so it
-- answers by that table; mending's last row is met where it finds nothing.
use Rattle.std.proofs.Common.{◌≡◌, ℕ, ◌+◌, ◌*◌, ◌^◌, ◌<◌, ◌≤◌, Bool, true, false, cond, leb, ◌↔◌, List, [], ◌∷◌, map, sym, refl, ap, ◌∙◌, arith, lit<, leb-false, leb-true}
use mathlib.Core.Bool.{false≢true}
use mathlib.Core.Option.{Option, none, some}
use borrow.Author.Tests.{lt-leb, not-false}
use lib.ListN.{get_or-map}
use Rattle.symbols.specs.Symbol.{◌⊻◌}
use Rattle.symbols.specs.Column.{parity, column_of, column_with}
use Rattle.codes.specs.declared.code.Code.{Code}
use Rattle.codes.specs.declared.code.Code.TheVariants.{O36, E36}
use Rattle.codes.specs.declared.answer.Correction.{Correction}
use Rattle.codes.specs.Answer.{accepted, refused, unless}
use Rattle.codes.specs.Projection.{Projection, width, message_bits}
use Rattle.codes.specs.Word.{word, is_codeword, distance}
use Rattle.codes.specs.Message.{encode, decode}
use Rattle.codes.specs.Correction.{wrong, ones, Near, correction_of, correct, is_far}
use Rattle.codes.specs.Codes.{projection, is_code, code_of, correction_values, correction_answer, encoding, decoding, correcting, under}
use Rattle.codes.specs.Codes.{unknown_code, message_too_large, word_too_wide, not_a_codeword, none_near}
use Rattle.codes.specs.Claims.{WalkFixed, IsCodeword, RoundTrip, OneMessage, DecodesCodewords, CallsRoundTrip, SumOfCodewords, EightApart}
use Rattle.codes.specs.Claims.{OneNear, EightIsFar, CorrectsNear, RefusesFar, Starred}
use Rattle.codes.specs.Claims.{encoding_rows, decoding_rows, correcting_rows, WordCallsRefuse, WordRowsMean}
use Rattle.codes.proofs.Masks.{mask_bit}
use Rattle.codes.proofs.Walks.{collected}
use Rattle.codes.proofs.Words.{length_word, same_length, codeword_parity, is_codeword_lem, codeword_sum}
use Rattle.codes.proofs.Distance.{close_same}
use Rattle.codes.proofs.Messages.{encode_below, encode_codeword, decode_encode, decode_below, encode_decode, word_injective}
use Rattle.codes.proofs.Codes.{systematic, apart}
use Rattle.codes.proofs.Rows.{not_refused, accepted_row, by_table, passes_first, passes_behind}
use Rattle.codes.proofs.Tests.{leb_iff, not_iff}
use Rattle.codes.proofs.Laws.{code_iff}
pub use Rattle.codes.proofs.Positions.{positions}
pub use Rattle.codes.proofs.Counting.{positions_counted}
use Rattle.codes.proofs.Corrections as corrections
use Rattle.codes.proofs.Corrections.{corrected, correct_near, correct_none, correcting_fits}

-- a parity is the bit of its place in a mask, and each number that is handed on is one that the word gives
pub walk_fixed : WalkFixed
walk_fixed =
    record {
      bits = λ c w walk k j h.
          let cs = word (projection c) w in
          rw k.parities (mask_bit (map parity cs) j ∙ get_or-map parity cs j (column_of 0));
      rows = λ c w walk k. (collected c w walk k).syndromes;
      one_walk = λ c w a b k l.
          let parities : a.parities ≡ b.parities = k.parities ∙ sym l.parities in
          let top : a.top ≡ b.top = k.top ∙ sym l.top in
          let syndrome : a.syndrome ≡ b.syndrome = k.syndrome ∙ sym l.syndrome in
          λ i. record { parities = parities i; top = top i; syndrome = syndrome i };
    }

pub round_trip : RoundTrip
round_trip c n h =
    let π = projection c in
    let sys = systematic c in
    ((encode_below π sys n, encode_codeword π sys n), decode_encode π sys n h)

pub one_message : OneMessage
one_message c x k =
    let π = projection c in
    let sys = systematic c in
    (decode_below π sys x k.0 k.1, encode_decode π sys x k.0 k.1, λ n h e. sym (decode_encode π sys n h) ∙ ap (decode π) e)

pub decodes_codewords : DecodesCodewords
decodes_codewords c x = (accepts, only)
  where
    accepts : IsCodeword c x → decoding (projection c) x ≡ accepted (decode (projection c) x ∷ [])
    accepts k = rw (lt-leb (2 ^ width (projection c)) x k.0, k.1)

    only : (vs : List ℕ) → decoding (projection c) x ≡ accepted vs → IsCodeword c x
    only vs e =
        let π = projection c in
        let narrow = accepted_row (word_too_wide π x) _ vs e in
        let codeword = accepted_row (not_a_codeword π x) _ vs narrow.1 in
        (leb-false (2 ^ width π) x narrow.0, not-false _ codeword.0)

pub calls_round_trip : CallsRoundTrip
calls_round_trip code message word = (reads, writes)
  where
    reads : under code (λ π. encoding π message) ≡ accepted (word ∷ []) → under code (λ π. decoding π word) ≡ accepted (message ∷ [])
    reads e =
        let c = code_of code in
        let π = projection (code_of code) in
        let known = accepted_row (unknown_code code) _ (word ∷ []) e in
        let fits = accepted_row (message_too_large π message) _ (word ∷ []) known.1 in
        let written : encode π message ≡ word = let same = fits.1 in cc in
        let there = round_trip c message (leb-false (2 ^ message_bits π) message fits.0) in
        rw (known.0, ← written, (decodes_codewords c (encode π message)).0 there.0, there.1)

    writes : under code (λ π. decoding π word) ≡ accepted (message ∷ []) → under code (λ π. encoding π message) ≡ accepted (word ∷ [])
    writes e =
        let c = code_of code in
        let π = projection (code_of code) in
        let known = accepted_row (unknown_code code) _ (message ∷ []) e in
        let codeword = (decodes_codewords c word).1 (message ∷ []) known.1 in
        let given = sym ((decodes_codewords c word).0 codeword) ∙ known.1 in
        let back : decode π word ≡ message = cc in
        let there = one_message c word codeword in
        rw (known.0, ← back, lt-leb (2 ^ message_bits π) (decode π word) there.0, there.1)

pub sum_of_codewords : SumOfCodewords
sum_of_codewords c x y k l =
    let π = projection c in
    let a = codeword_parity π (word π x) k.1 in
    let b = codeword_parity π (word π y) l.1 in
    is_codeword_lem π (a.0 ⊻ b.0) _ (codeword_sum π a.0 b.0 (word π x) (word π y) (same_length π x y) a.1 b.1)

pub eight_apart : EightApart
eight_apart c x y k l differ = go (leb 8 (distance (word (projection c) x) (word (projection c) y))) refl
  where
    go : (b : Bool) → leb 8 (distance (word (projection c) x) (word (projection c) y)) ≡ b → 8 ≤ distance (word (projection c) x) (word (projection c) y)
    go true e = leb-true 8 (distance (word (projection c) x) (word (projection c) y)) e
    go false e =
        let π = projection c in
        let a = codeword_parity π (word π x) k.1 in
        let b = codeword_parity π (word π y) l.1 in
        absurd (differ (word_injective π x y k.0 l.0
        (close_same π (apart c) a.0 b.0 (word π x) (word π y) (length_word π x) (length_word π y) a.1 b.1
        (omega (arith, leb-false 8 (distance (word π x) (word π y)) e)))))

pub one_near : OneNear
one_near c w m = corrections.one_near (projection c) w m (systematic c) (apart c)

pub eight_is_far : EightIsFar
eight_is_far c w m x k e = corrections.eight_none (projection c) w m (systematic c) (apart c) x k.0 k.1 e

pub corrects_near : CorrectsNear
corrects_near c w m hw hm = (gives, λ vs e. only vs (correct (projection c) w m) refl (sym (correcting_fits (projection c) w m hw hm) ∙ e))
  where
    gives : (x : ℕ) → Near (projection c) w m x → correcting (projection c) w m ≡ accepted (correction_values (correction_of (projection c) w m x))
    gives x n = correcting_fits (projection c) w m hw hm ∙ ap correction_answer (correct_near (projection c) w m (systematic c) (apart c) x n)

    only : (vs : List ℕ) (r : Option Correction) → correct (projection c) w m ≡ r → correction_answer r ≡ accepted vs →
        (x : ℕ) × Near (projection c) w m x × (vs ≡ correction_values (correction_of (projection c) w m x))
    only vs none e a = not_refused vs 5 (sym a)
    only vs (some r) e a =
        let π = projection c in
        let given = corrected π w m r e in
        let n = given.0 in
        let values : correction_values r ≡ vs = cc in (
          encode π n,
          record { fits = encode_below π (systematic c) n; codeword = encode_codeword π (systematic c) n; near = given.3 },
          sym values ∙ ap correction_values given.2,
        )

pub refuses_far : RefusesFar
refuses_far c w m hw hm = (refuses, only)
  where
    refuses : ((x : ℕ) → Near (projection c) w m x → ⊥) → correcting (projection c) w m ≡ refused 5
    refuses empty =
        correcting_fits (projection c) w m hw hm ∙ ap correction_answer (correct_none (projection c) w m (systematic c) (apart c) empty)

    only : correcting (projection c) w m ≡ refused 5 → (x : ℕ) → Near (projection c) w m x → ⊥
    only e x n = not_refused _ 5 (sym ((corrects_near c w m hw hm).0 x n) ∙ e)

-- a word from which a codeword has a sum of 8 is refused
lost_sample : (c : Code) (w m x : ℕ) → w < 2 ^ width (projection c) → m < 2 ^ width (projection c) → IsCodeword c x →
    2 * wrong (projection c) w m x + ones (projection c) m ≡ 8 → correcting (projection c) w m ≡ refused 5
lost_sample c w m x hw hm k e = (refuses_far c w m hw hm).0 (eight_is_far c w m x k e)

-- the proofs of a list of samples
infixr 10 ◌&◌
◌&◌ : {A B : Type 0} → A → B → A × B
a & b = (a, b)

pub starred : Starred
unfolding encode column_with decode is_codeword
starred =
    refl
    & refl
    & refl
    & refl
    & refl
    & refl
    & (corrects_near O36 0x2E485A2D4 0 (lit< tt) (lit< tt)).0 0x2E48722D4 (record { fits = lit< tt; codeword = refl; near = refl })
    & (corrects_near E36 0x2D711B194 0 (lit< tt) (lit< tt)).0 0x2D717B114 (record { fits = lit< tt; codeword = refl; near = refl })
    & (corrects_near O36 0xE00000000 0 (lit< tt) (lit< tt)).0 0 (record { fits = lit< tt; codeword = refl; near = refl })
    & lost_sample O36 0xF00000000 0 0 (lit< tt) (lit< tt) (lit< tt, refl) refl
    & (corrects_near O36 0xF00000000 0xF00000000 (lit< tt) (lit< tt)).0 0 (record { fits = lit< tt; codeword = refl; near = refl })
    & (corrects_near O36 0xE00000000 0x080000000 (lit< tt) (lit< tt)).0 0 (record { fits = lit< tt; codeword = refl; near = refl })
    & lost_sample O36 0xE00000000 0x0C0000000 0 (lit< tt) (lit< tt) (lit< tt, refl) refl
    & tt

-- ---- refusals

-- what mending gives where its last row isn't met, and that row before it
module _ (π : Projection) (w m : ℕ) where
  near_given : is_far (correct π w m) ≡ false → (vs : List ℕ) × (correction_answer (correct π w m) ≡ accepted vs)
  near_given e = go (correct π w m) e
    where
      go : (x : Option Correction) → is_far x ≡ false → (vs : List ℕ) × (correction_answer x ≡ accepted vs)
      go (some c) e = (correction_values c, refl)
      go none e = absurd (false≢true (sym e))

  far_refused : unless (none_near π w m ∷ []) (correction_answer (correct π w m)) ≡ correction_answer (correct π w m)
  far_refused = go (correct π w m)
    where
      go : (x : Option Correction) → cond (is_far x) (refused 5) (correction_answer x) ≡ correction_answer x
      go (some c) = refl
      go none = refl

pub word_calls_refuse : WordCallsRefuse
word_calls_refuse =
    record {
      encodings = λ code message. by_table (encoding_rows code message) (accepted _) (λ t. (_, refl)) refl;
      decodings = λ code word. by_table (decoding_rows code word) (accepted _) (λ t. (_, refl)) refl;
      corrections =
          λ code word marks.
          let π = projection (code_of code) in
          let rows = unknown_code code ∷ word_too_wide π word ∷ word_too_wide π marks ∷ [] in
          rw (← far_refused π word marks)
          (by_table (correcting_rows code word marks) (correction_answer (correct π word marks))
          (λ t. near_given π word marks (passes_first (none_near π word marks) [] (passes_behind rows (none_near π word marks ∷ []) t)).0) refl);
    }

far_iff : (c : Code) (w m : ℕ) → is_far (correct (projection c) w m) ≡ true ↔ ((x : ℕ) → Near (projection c) w m x → ⊥)
far_iff c w m = (
  λ e. corrections.none_near_lem (projection c) w m (systematic c) (apart c) (found (correct (projection c) w m) e),
  λ empty. rw (correct_none (projection c) w m (systematic c) (apart c) empty),
)
  where
    found : (x : Option Correction) → is_far x ≡ true → x ≡ none
    found (some r) e = absurd (false≢true e)
    found none e = refl

pub word_rows_mean : WordRowsMean
word_rows_mean =
    record {
      unknown = λ code. not_iff (is_code code) (code_iff code);
      too_large = λ c message. leb_iff (2 ^ message_bits (projection c)) message;
      too_wide = λ c word. leb_iff (2 ^ width (projection c)) word;
      no_codeword = λ c x h. not_iff (is_codeword (projection c) (word (projection c) x)) (λ e. (h, e), λ k. k.1);
      none_near_met = far_iff;
      rules = refl;
      message_sizes = refl;
      widths = refl;
      step_limits = refl;
    }
