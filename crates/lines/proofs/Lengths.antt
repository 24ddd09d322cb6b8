-- How long each text is at most: a number of 64 bits has at most twenty digits, and a text's length is the sum of its parts' lengths. So every
-- answer, listing and report fits in the string that is made for it.
use mathlib.Core.Path.{◌≡◌, refl}
use mathlib.Core.Bool.{Bool, true, false, cond}
use mathlib.Core.List.{List, [], ◌∷◌, ◌++◌}
use Prim.Native.Nat.{ℕ, suc, ◌+◌, ◌*◌, ◌^◌, ◌<◌, ◌≤◌}
use native.Mathlib.Omega.{arith}
use lib.Dec.{ltb, eqb}
use lib.ListN.{length, take, get_or, length-append}
use Rattle.std.specs.Prelude.{Option, None, Some, Result, Ok, Err, IfOk, IfSome}
use Rattle.std.proofs.Common.{length-take, length-take-le}
use Rattle.std.proofs.Math.Nat.{suc-mul}
use borrow.Author.Tests.{ltb-true, ltb-false}
use Rattle.codes.specs.Answer.{accepted, refused}
use Rattle.trace.specs.declared.answer.Refusal.{Refusal}
use Rattle.trace.specs.declared.answer.Reading.{Reading}
use Rattle.trace.specs.declared.answer.Counts.{Counts}
use Rattle.trace.specs.declared.answer.Pressures.{Pressures}
use Rattle.trace.specs.declared.answer.Survey.{Survey}
use Rattle.trace.specs.declared.status.Status.{Status}
use Rattle.trace.specs.Answers.{refusal_number, read_answer, reading_values, counts_values, counts_and_sum, three_values}
use Rattle.trace.specs.Survey.{status_of}
use Rattle.lines.specs.declared.trouble.Trouble.{Trouble}
use Rattle.lines.specs.Text.{text, hex, each, spaced, noted, line}
use Rattle.lines.specs.Listing.{status_name, status_word, status_values, ending, slot_line, total_line, refused_line}
use Rattle.lines.specs.Answers.{survey_line}
use Rattle.lines.specs.Trouble.{is_plain, visible_byte, visible, most_shown, shown, trouble_words, trouble_line}
use Rattle.lines.specs.Report.{report_line, pressure_lines, status_note, status_line, count_lines, refusal_note}
use Rattle.lines.specs.Claims.{AllOf}
use Rattle.lines.proofs.Decimals.{decimal_short}

-- ---- numbers and lines

-- a number of 64 bits
abbrev pub Word : ℕ → Type 0
Word n = n < 2 ^ 64

all_words : (ns : List ℕ) → ((i : ℕ) → Word (get_or ns i 0)) → AllOf Word ns
all_words [] h = tt
all_words (n ∷ ns) h = (h 0, all_words ns (λ i. h (suc i)))

pub spaced_short : (ns : List ℕ) → AllOf Word ns → length (spaced ns) ≤ 21 * length ns
unfolding each
spaced_short [] h = omega arith
spaced_short (n ∷ ns) h = simp length-append (omega (arith, decimal_short n h.0, spaced_short ns h.1))

noted_short : (t ns note : List ℕ) → AllOf Word ns → length (noted t ns note) ≤ length t + 21 * length ns + length note + 1
unfolding noted
noted_short t ns note h = simp length-append (omega (arith, spaced_short ns h))

-- the line of a few values
pub values_short : (ns : List ℕ) → ((i : ℕ) → Word (get_or ns i 0)) → length ns ≤ 5 → length (line (text "ok") ns) ≤ 108
values_short ns h few = omega (arith, noted_short (text "ok") ns [] (all_words ns h))

pub refused_short : (n : ℕ) → Word n → length (refused_line n) ≤ 29
refused_short n h = noted_short _ (n ∷ []) [] (h, tt)

all_append : (a b : List ℕ) → AllOf Word a → AllOf Word b → AllOf Word (a ++ b)
all_append [] b h k = k
all_append (n ∷ a) b h k = (h.0, all_append a b h.1 k)

-- what each number is written as, in at most k bytes
pub each_short : (f : ℕ → List ℕ) (k : ℕ) → ((n : ℕ) → length (f n) ≤ k) → (ns : List ℕ) → length (each f ns) ≤ length ns * k
unfolding each
each_short f k h [] = omega arith
each_short f k h (n ∷ ns) = simp (length-append, suc-mul) (omega (arith, h n, each_short f k h ns))

-- the first bytes of a list in hexadecimal
pub hexes_short : (k : ℕ) (bytes : List ℕ) → length (each hex (take k bytes)) ≤ 2 * k
unfolding hex
hexes_short k bytes = omega (arith, each_short hex 2 (λ n. omega arith) (take k bytes), length-take k bytes)

-- ---- a listing

-- what follows a slot, by its status
ending_short : (s : Status) (v : Reading) → AllOf Word (reading_values v) → length (line (status_word s) (status_values s v)) ≤ 111
ending_short Status.Blank v h = omega (arith, noted_short (status_word Status.Blank) [] [] tt)
ending_short Status.Read v h = noted_short _ (reading_values v) [] h
ending_short Status.Over v h = omega (arith, noted_short (status_word Status.Over) (status_values Status.Over v) [] (h.0, h.1.1))
ending_short Status.Under v h = omega (arith, noted_short (status_word Status.Under) (status_values Status.Under v) [] (h.0, h.1.1))
ending_short Status.Lost v h = omega (arith, noted_short (status_word Status.Lost) [] [] tt)
ending_short Status.Bad v h = omega (arith, noted_short (status_word Status.Bad) [] [] tt)

word_short : (s : Status) → length (status_word s) ≤ 6
word_short Status.Blank = omega arith
word_short Status.Read = omega arith
word_short Status.Over = omega arith
word_short Status.Under = omega arith
word_short Status.Lost = omega arith
word_short Status.Bad = omega arith

pub slot_short : (slot : ℕ) → Word slot → (answer : Result Reading Refusal) → IfOk answer (λ v. AllOf Word (reading_values v))
    → length (slot_line slot (read_answer answer)) ≤ 131
unfolding slot_line ending
slot_short slot h (Ok v) fit =
    simp length-append (omega (arith, decimal_short slot h, ending_short (status_of (accepted v)) v fit))
slot_short slot h (Err r) fit =
    let status = status_of (refused (refusal_number r)) in
    simp length-append (omega (arith, decimal_short slot h, word_short status, noted_short (status_word status) [] [] tt))

pub total_short : (slots : ℕ) (c : Counts) → Word slots → AllOf Word (counts_values c) → length (total_line slots c) ≤ 153
total_short slots c h fit = noted_short _ (slots ∷ counts_values c) [] (h, fit)

-- what a listing has but for its slots
pub ruleset listing_lengths = (total_short, refused_short)

-- ---- a survey's line

abbrev pub SurveyFits : Survey → Type 0
SurveyFits s = (Word s.slots × AllOf Word (counts_values s.counts)) × (Word s.sum × IfSome s.pressures (λ p. AllOf Word (three_values p)))

pub survey_short : (s : Survey) → SurveyFits s → length (survey_line (accepted s)) ≤ 219
survey_short s fit = go s.pressures fit.1.1
  where
    first : AllOf Word (counts_and_sum s)
    first = all_append (counts_values s.counts) (s.sum ∷ []) fit.0.1 (fit.1.0, tt)

    go : (p : Option Pressures) → IfSome p (λ q. AllOf Word (three_values q))
        → length (survey_line (accepted (record { slots = s.slots; counts = s.counts; sum = s.sum; pressures = p }))) ≤ 219
    go None h = omega (arith, noted_short (text "ok") (counts_and_sum s) (text " - - -") first)
    go (Some q) h =
        let all = all_append (counts_and_sum s) (three_values q) first h in
        omega (arith, noted_short (text "ok") (counts_and_sum s ++ three_values q) [] all)

-- ---- a report

pub number_short : (name note : List ℕ) (n : ℕ) → Word n → length (report_line name n note) ≤ length name + length note + 22
number_short name note n h = omega (arith, noted_short name (n ∷ []) note (h, tt))

status_short : (s : Status) (n : ℕ) → Word n → length (status_line s n) ≤ 100
unfolding status_line
status_short s n h = go s (number_short (status_name s) (status_note s) n h)
  where
    go : (t : Status) → length (status_line t n) ≤ length (status_name t) + length (status_note t) + 22 → length (status_line t n) ≤ 100
    go Status.Blank short = omega arith
    go Status.Read short = omega arith
    go Status.Over short = omega arith
    go Status.Under short = omega arith
    go Status.Lost short = omega arith
    go Status.Bad short = omega arith

pub pressures_short : (p : Option Pressures) → IfSome p (λ q. AllOf Word (three_values q)) → length (pressure_lines p) ≤ 126
pressures_short None h = omega arith
pressures_short (Some q) h =
    simp length-append (omega (
      arith,
      number_short (text "smallest pressure") [] q.smallest h.0,
      number_short (text "largest pressure") [] q.largest h.1.0,
      number_short (text "mean pressure") (text ", rounded down") q.mean h.1.1.0,
    ))

pub counts_short : (slots : ℕ) (c : Counts) → Word slots → AllOf Word (counts_values c) → length (count_lines slots c) ≤ 627
counts_short slots c h fit =
    simp length-append (omega (
      arith,
      number_short (text "slots") [] slots h,
      status_short Status.Read c.read fit.1.0,
      status_short Status.Over c.over fit.1.1.0,
      status_short Status.Under c.under fit.1.1.1.0,
      status_short Status.Lost c.lost fit.1.1.1.1.0,
      status_short Status.Bad c.bad fit.1.1.1.1.1.0,
      status_short Status.Blank c.blank fit.0,
    ))

pub note_short : (n : ℕ) → length (refusal_note n) ≤ 67
note_short n = go (eqb n 7)
  where
    go : (seven : Bool)
        → length (cond seven (text ": the file has fewer than 8 bytes, or more than 65536")
        (text ": the file does not end with the trailer of a trace that fits in it")) ≤ 67
    go true = omega arith
    go false = omega arith

-- the parts of a report
pub ruleset report_lengths = (pressures_short, counts_short, number_short, note_short)

-- ---- a trouble

visible_short : (n : ℕ) → length (visible_byte n) ≤ 4
unfolding visible_byte hex
visible_short n = go (is_plain n)
  where
    go : (plain : Bool) → length (cond plain (n ∷ []) (92 ∷ 120 ∷ hex n)) ≤ 4
    go true = omega arith
    go false = omega arith

shown_short : (t : List ℕ) → length (shown t) ≤ 291
unfolding shown
shown_short t = go (ltb most_shown (length t)) refl
  where
    go : (long : Bool) → ltb most_shown (length t) ≡ long
        → length (cond long (visible (take most_shown t) ++ (46 ∷ 46 ∷ 46 ∷ [])) (visible t)) ≤ 291
    go true e =
        simp length-append (omega (arith, each_short visible_byte 4 visible_short (take most_shown t), length-take-le most_shown t (omega (arith, ltb-true most_shown (length t) e))))
    go false e = omega (arith, each_short visible_byte 4 visible_short t, ltb-false most_shown (length t) e)

words_short : (t : Trouble) → length (trouble_words t) ≤ 14
words_short Trouble.Unreadable = omega arith
words_short Trouble.NotLent = omega arith
words_short Trouble.NotRead = omega arith
words_short Trouble.NotWritten = omega arith

pub trouble_short : (n : ℕ) (w : Trouble) (t : List ℕ) → Word n → length (trouble_line n w t) ≤ 331
unfolding trouble_line
trouble_short n w t h = simp length-append (omega (arith, spaced_short (n ∷ []) (h, tt), words_short w, shown_short t))
