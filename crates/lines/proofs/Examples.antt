-- Texts of files that are given byte for byte, from the bytes to the text: listings and reports of the scope's, of refused ones, of one whose
-- slot is under and of one whose slot is bad, and the lines of calls on them; the line of a load; and the lines of what can't be played. Trailer,
-- slots, survey and lines are computed by their definitions. Mending is a search through all codewords, and the codes' claims give what it finds.
-- In the scope's file slot 0 is two positions from the codeword of 74·4096 + 2385, slot 3 is the codeword of 4095, and slot 2 is that one with the
-- four bits of a column inverted, so that its sum is 8 and no codeword is near. The word 0 is the codeword of message 0.
use mathlib.Core.Path.{◌≡◌, refl, ap}
use mathlib.Core.List.{[], ◌∷◌}
use mathlib.Core.Option.{none, some}
use Rattle.std.specs.Prelude.{Some}
use Rattle.std.proofs.lemmas.Bool.{ne_eqb}
use native.Mathlib.Omega.{arith}
use lib.Dec.{lit<}
use lib.ListN.{length}
use borrow.Author.Tests.{lt-ltb}
use Rattle.codes.specs.declared.code.Code.TheVariants.{O36}
use Rattle.codes.specs.Projection.{Projection}
use Rattle.codes.specs.Word.{is_codeword}
use Rattle.codes.specs.Message.{decode}
use Rattle.codes.specs.Correction.{correct}
use Rattle.codes.specs.Codes.{projection}
use Rattle.codes.proofs.Claims.{eight_is_far}
use Rattle.codes.proofs.Laws.{near_correct, none_correct}
use Rattle.codes.specs.Answer.{accepted}
use Rattle.trace.specs.Layout.{part, number_from, place_from}
use Rattle.trace.specs.View.{read_corrected, read_content}
use Rattle.trace.specs.Survey.{status_of, count, pressures, total, smallest, largest, extremes, answers_of, survey_of}
use Rattle.trace.specs.Refusals.{is_fit, is_bad}
use Rattle.trace.specs.Trace.{content_with, view_in, alone_in, survey_in}
use Rattle.lines.specs.Text.{text, digits, decimal, hex, each, noted}
use Rattle.lines.specs.Input.{survey_file}
use Rattle.lines.specs.Listing.{ending, slot_line, slot_lines, listing}
use Rattle.lines.specs.Answers.{answer_line, survey_line, bytes_line}
use Rattle.lines.specs.Trouble.{visible_byte, shown, trouble_line}
use Rattle.lines.specs.Report.{status_line, report}
use Rattle.lines.proofs.Decimals.{decimal_within}
use Rattle.lines.specs.Claims.{example_file, Example, under_file, bad_file, OtherListings, ListedNumbers, ExampleReport, OtherReports, AnswerLines, TroubleLines}

-- code 1
abbrev π : Projection
π = projection O36

-- what mending finds in each written slot of the scope's file
slot_0 : correct π 0x2E485A2D4 0 ≡ some (record { codeword = 0x2E48722D4; message = 305489; wrong = 2; marks = 0; marked_wrong = 0 })
unfolding is_codeword decode
slot_0 = near_correct O36 0x2E485A2D4 0 0x2E48722D4 (record { fits = lit< tt; codeword = refl; near = refl })

slot_2 : correct π 0x6CACFFF96 0 ≡ none
unfolding is_codeword
slot_2 = none_correct O36 0x6CACFFF96 0 (eight_is_far O36 0x6CACFFF96 0 0x9CACFFF96 (lit< tt, refl) refl)

slot_3 : correct π 0x9CACFFF96 0 ≡ some (record { codeword = 0x9CACFFF96; message = 4095; wrong = 0; marks = 0; marked_wrong = 0 })
unfolding is_codeword decode
slot_3 = near_correct O36 0x9CACFFF96 0 0x9CACFFF96 (record { fits = lit< tt; codeword = refl; near = refl })

-- what a survey finds in all its slots
example_survey :
    survey_in example_file
    ≡ accepted
    record {
      slots = 4;
      counts = record { blank = 1; read = 1; over = 1; under = 0; lost = 1; bad = 0 };
      sum = 2385;
      pressures = Some (record { smallest = 2385; largest = 2385; mean = 2385 });
    }
unfolding
    example_file part number_from place_from is_fit is_bad content_with view_in read_content read_corrected survey_in survey_of answers_of count status_of
    pressures total smallest largest extremes
example_survey = rw (slot_0, slot_2, slot_3)

-- what mending finds in the slot that is under
slot_under : correct π 0 0 ≡ some (record { codeword = 0; message = 0; wrong = 0; marks = 0; marked_wrong = 0 })
unfolding is_codeword decode
slot_under = near_correct O36 0 0 0 (record { fits = lit< tt; codeword = refl; near = refl })

pub example : Example
unfolding
    example_file part number_from place_from is_fit is_bad content_with view_in alone_in read_content read_corrected
    survey_in survey_of answers_of count status_of survey_file listing slot_lines slot_line ending noted each decimal digits
example = rw (slot_0, slot_2, slot_3)

pub other_listings : OtherListings
unfolding
    under_file bad_file part number_from place_from is_fit is_bad content_with view_in alone_in read_content read_corrected survey_in survey_of answers_of count status_of
    survey_file listing slot_lines slot_line ending noted each decimal digits
other_listings = record { long = λ file h. rw (lt-ltb 65536 (length file) h); none = refl; zeros = refl; under = rw slot_under; bad = refl }

pub listed_numbers : ListedNumbers
unfolding status_of slot_line ending noted each decimal digits
listed_numbers =
    record {
      read = λ slot v low high. rw (ne_eqb v.reading 0 (λ e. omega arith), lt-ltb v.reading 4095 high);
      over = λ slot v e. rw e;
      under = λ slot v e. rw e;
      total = refl;
    }

pub example_report : ExampleReport
unfolding example_file survey_file report status_line noted each decimal digits
example_report = rw example_survey

pub other_reports : OtherReports
unfolding
    under_file bad_file part number_from place_from is_fit is_bad content_with view_in read_content read_corrected survey_in survey_of answers_of count status_of
    pressures extremes survey_file report status_line noted each decimal digits
other_reports =
    record {
      long = λ file h. rw (lt-ltb 65536 (length file) h);
      none = refl;
      zeros = refl;
      under = rw slot_under;
      bad = refl;
      numbers = refl;
    }

-- a load's number is large: its ten digits are computed with room for no more
load_line : answer_line (accepted (2165703038 ∷ [])) ≡ text "ok 2165703038\n"
unfolding noted each digits
load_line = rw (decimal_within 9 2165703038 (lit< tt))

pub answer_lines : AnswerLines
unfolding
    example_file under_file bad_file part number_from place_from is_fit is_bad content_with view_in alone_in read_content read_corrected
    survey_in survey_of answers_of count status_of pressures total extremes bytes_line hex noted each decimal digits
answer_lines =
    record {
      done = refl;
      load = load_line;
      read = rw slot_0;
      blank = refl;
      lost = rw slot_2;
      survey = ap survey_line example_survey;
      numbers = refl;
      zero = rw slot_under;
      under = rw slot_under;
      absent = refl;
      refused = refl;
      bytes = refl;
      size = refl;
    }

pub trouble_lines : TroubleLines
unfolding trouble_line shown visible_byte hex each decimal digits
trouble_lines = record { unreadable = refl; not_lent = refl; not_read = refl; not_written = refl; long = refl }
