-- Calls on traces that are given byte for byte: the rows of refusals, what is stored and the lines are computed by their definitions. Mending is
-- a search through all codewords: what a read and a survey find in the scope's example is what `lines` proved of it, and neither of them
-- changes a byte. The digits of a load's number, a large one, are what `lines` proved of it too.
use mathlib.Core.Path.{◌≡◌, refl, ◌∙◌, ap, ap₂}
use mathlib.Core.List.{List}
use Prim.Native.Nat.{ℕ}
use lib.Dec.{lit<}
use Rattle.codes.specs.Answer.{Answer, accepted, refused, unless}
use Rattle.codes.specs.declared.code.Code.TheVariants.{E36}
use Rattle.codes.specs.Word.{is_codeword}
use Rattle.codes.specs.Message.{encode, decode}
use Rattle.codes.specs.Codes.{projection}
use Rattle.codes.proofs.Claims.{one_message}
use Rattle.trace.specs.Calls.{outcome, read}
use Rattle.trace.specs.Layout.{bytes_of, number_from, part, overwrite, trailer, place_from, store_at, made}
use Rattle.trace.specs.Load.{drawn, handed_back}
use Rattle.trace.specs.Refusals.{is_fit, is_bad}
use Rattle.trace.specs.Rules.{gives, put_all}
use Rattle.trace.specs.Trace.{content_with, view_in, refusals_in, stored, on_bytes, make}
use Rattle.trace.proofs.Claims.{reads_alone}
use Rattle.lines.specs.Text.{digits, decimal, hex, each, noted}
use Rattle.lines.specs.Answers.{answer_line, bytes_line}
use Rattle.lines.specs.Claims.{example_file}
use Rattle.lines.proofs.Examples.{answer_lines}
use Rattle.script.specs.declared.line.Call.{Call}
use Rattle.script.specs.Answering.{Answered, answered}
use Rattle.script.specs.Claims.{CallsAnswer}

-- the codeword of 74·4096 + 2385 under code 2: it is a codeword, and that is its message
word_put : encode (projection E36) 305489 ≡ 0x2E48722DB
unfolding is_codeword decode
word_put = (one_message E36 0x2E48722DB (lit< tt, refl)).1

-- a line, and bytes
abbrev with_line : List ℕ → List ℕ → Answered
with_line line bytes = record { line = line; bytes = bytes }

-- a call that leaves the bytes where it is accepted leaves them, whatever it answers
leaves : (a : Answer (List ℕ)) (b : List ℕ) → (outcome a b b).state ≡ b
leaves (accepted values) b = refl
leaves (refused number) b = refl

reads : (slot : ℕ) (line : List ℕ) → answer_line (on_bytes (read slot) example_file).answer ≡ line
    → answered (Call.Read slot) example_file ≡ with_line line example_file
unfolding on_bytes
reads slot line e = ap₂ with_line e (leaves (unless (refusals_in (read slot) example_file) (gives (read slot) (view_in example_file))) example_file)

pub calls_answer : CallsAnswer
unfolding
    make made trailer bytes_of on_bytes view_in content_with part number_from place_from is_fit is_bad stored store_at overwrite
    drawn handed_back put_all noted each decimal digits bytes_line hex
calls_answer =
    record {
      make = refl;
      no_room = refl;
      put = rw word_put;
      too_large = refl;
      flip = refl;
      mark = refl;
      no_slot = refl;
      load = ap₂ with_line answer_lines.load refl;
      too_many = refl;
      clear = refl;
      read = reads 0 _ (ap answer_line (reads_alone example_file 0) ∙ answer_lines.read);
      blank = reads 1 _ (ap answer_line (reads_alone example_file 1) ∙ answer_lines.blank);
      survey = ap₂ with_line answer_lines.survey refl;
      puts = rw word_put;
      no_puts = refl;
      past_end = refl;
      uneven = refl;
      step_too_large = refl;
      bytes = refl;
    }
