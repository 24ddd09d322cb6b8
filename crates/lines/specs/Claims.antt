-- What is claimed of the texts that the programs print. Each claim is a theorem of the same name, in lower case, in proofs/.
use Rattle.std.specs.Prelude.{◌≡◌, List, [], ◌∷◌, ◌++◌, ℕ, ◌<◌, ◌≤◌, length, replicate, Some, Ok}
use Rattle.codes.specs.Answer.{accepted, map_answer}
use Rattle.trace.specs.declared.answer.Reading.{Reading}
use Rattle.trace.specs.declared.answer.Survey.{Survey}
use Rattle.trace.specs.Answers.{load_answer, reading_values}
use Rattle.trace.specs.Trace.{alone_in, survey_in}
use Rattle.lines.specs.declared.trouble.Trouble.{Trouble}
use Rattle.lines.specs.Text.{text, decimal, line}
use Rattle.lines.specs.Listing.{slot_line, total_line, listing}
use Rattle.lines.specs.Answers.{answer_line, survey_line, bytes_line}
use Rattle.lines.specs.Trouble.{most_shown, shown, trouble_line}
use Rattle.lines.specs.Report.{count_lines, reported, report}

-- ---- listings

-- 'These bytes (hexadecimal; [n] is n zero bytes)': 01 02 E4 85 A2 D4 [5] [11] 01 06 CA CF FF 96 [5] 01 09 CA CF FF 96 [5] 00 00 00 2C 00 04 01 01
unfoldable pub example_file : List ℕ
example_file =
    (0x01 ∷ 0x02 ∷ 0xE4 ∷ 0x85 ∷ 0xA2 ∷ 0xD4 ∷ replicate 5 0)
    ++ (replicate 11 0
    ++ ((0x01 ∷ 0x06 ∷ 0xCA ∷ 0xCF ∷ 0xFF ∷ 0x96 ∷ replicate 5 0)
    ++ ((0x01 ∷ 0x09 ∷ 0xCA ∷ 0xCF ∷ 0xFF ∷ 0x96 ∷ replicate 5 0)
    ++ (0x00 ∷ 0x00 ∷ 0x00 ∷ 0x2C ∷ 0x00 ∷ 0x04 ∷ 0x01 ∷ 0x01 ∷ []))))

-- they 'print' the scope's listing, from its bytes to its text, where now 'The total line has under after over' and 'Each listing line of read,
-- over or under ends with' how many marked bits were wrong
abbrev pub Example : Type 0
Example = listing example_file ≡ text "0 read 74 2385 2 0 0\n1 blank\n2 lost\n3 over 0 0 0 0\ntotal 4 1 1 1 0 1 0\n"

-- a slot whose state is neither 0 nor 1, alone in its file
unfoldable pub bad_file : List ℕ
bad_file = 2 ∷ (replicate 10 0 ++ (0x00 ∷ 0x00 ∷ 0x00 ∷ 0x0B ∷ 0x00 ∷ 0x01 ∷ 0x01 ∷ 0x01 ∷ []))

-- a slot with the codeword of step 0 and reading 0, alone in its file
unfoldable pub under_file : List ℕ
under_file = 1 ∷ (replicate 10 0 ++ (0x00 ∷ 0x00 ∷ 0x00 ∷ 0x0B ∷ 0x00 ∷ 0x01 ∷ 0x01 ∷ 0x01 ∷ []))

-- 'A refused file, or one above 64 KiB (as 7), prints one line only: "refused", a space and the number'; and the two words that the example is without
pub record OtherListings : Type 0 where
  pub long : (file : List ℕ) → 65536 < length file → listing file ≡ text "refused 7\n"
  pub none : listing [] ≡ text "refused 7\n"
  pub zeros : listing (replicate 8 0) ≡ text "refused 8\n"
  pub under : listing under_file ≡ text "0 under 0 0 0 0\ntotal 1 0 0 0 1 0 0\n"
  pub bad : listing bad_file ≡ text "0 bad\ntotal 1 0 0 0 0 0 1\n"

-- 'A line is slot and status, then step, reading, wrong, marks for read; step, wrong, marks for over'; 'the listing prints under as it prints over';
-- 'Each listing line of read, over or under ends with' how many marked bits were wrong: whatever slot and reading. And a total line whose numbers tell
-- their places apart
pub record ListedNumbers : Type 0 where
  pub read : (slot : ℕ) (v : Reading) → 0 < v.reading → v.reading < 4095
      → slot_line slot (accepted v) ≡ decimal slot ++ line (text " read") (v.step ∷ v.reading ∷ v.wrong ∷ v.marks ∷ v.marked_wrong ∷ [])
  pub over : (slot : ℕ) (v : Reading) → v.reading ≡ 4095
      → slot_line slot (accepted v) ≡ decimal slot ++ line (text " over") (v.step ∷ v.wrong ∷ v.marks ∷ v.marked_wrong ∷ [])
  pub under : (slot : ℕ) (v : Reading) → v.reading ≡ 0
      → slot_line slot (accepted v) ≡ decimal slot ++ line (text " under") (v.step ∷ v.wrong ∷ v.marks ∷ v.marked_wrong ∷ [])
  pub total : total_line 27 (record { blank = 7; read = 6; over = 5; under = 4; lost = 3; bad = 2 }) ≡ text "total 27 7 6 5 4 3 2\n"

-- ---- reports

-- the report of the same file: one pressure, and a slot of each other status but under and bad
abbrev pub ExampleReport : Type 0
ExampleReport =
    report example_file
    ≡ text "smallest pressure 2385\n"
    ++ (text "largest pressure 2385\n"
    ++ (text "mean pressure 2385, rounded down\n"
    ++ (text "slots 4\n"
    ++ (text "read 1: pressures, 1 to 4094; smallest, largest and mean are of these alone\n"
    ++ (text "over 1: the converter topped out at 4095, and the pressure is unknown\n"
    ++ (text "under 0: the converter gave 0, as with the plug out, and the pressure is unknown\n"
    ++ (text "lost 1: too much is damaged to say what the reading was\n"
    ++ (text "bad 0: bytes that no call writes\n"
    ++ text "blank 1: nothing is stored\n"))))))))

-- a survey whose numbers tell their places apart
abbrev pub many_numbers : Survey
many_numbers =
    record {
      slots = 21;
      counts = record { blank = 4; read = 6; over = 1; under = 5; lost = 2; bad = 3 };
      sum = 8112;
      pressures = Some (record { smallest = 1310; largest = 1409; mean = 1352 });
    }

-- refused files, two without a pressure, and that survey
pub record OtherReports : Type 0 where
  pub long : (file : List ℕ) → 65536 < length file → report file ≡ text "refused 7: the file has fewer than 8 bytes, or more than 65536\n"
  pub none : report [] ≡ text "refused 7: the file has fewer than 8 bytes, or more than 65536\n"
  pub zeros : report (replicate 8 0) ≡ text "refused 8: the file does not end with the trailer of a trace that fits in it\n"
  pub under :
      report under_file
      ≡ text "no pressure: nothing to set a limit from\n" ++ count_lines 1 (record { blank = 0; read = 0; over = 0; under = 1; lost = 0; bad = 0 })
  pub bad :
      report bad_file
      ≡ text "no pressure: nothing to set a limit from\n" ++ count_lines 1 (record { blank = 0; read = 0; over = 0; under = 0; lost = 0; bad = 1 })
  pub numbers :
      reported (accepted many_numbers)
      ≡ text "smallest pressure 1310\n"
      ++ (text "largest pressure 1409\n"
      ++ (text "mean pressure 1352, rounded down\n"
      ++ (text "slots 21\n"
      ++ (text "read 6: pressures, 1 to 4094; smallest, largest and mean are of these alone\n"
      ++ (text "over 1: the converter topped out at 4095, and the pressure is unknown\n"
      ++ (text "under 5: the converter gave 0, as with the plug out, and the pressure is unknown\n"
      ++ (text "lost 2: too much is damaged to say what the reading was\n"
      ++ (text "bad 3: bytes that no call writes\n"
      ++ text "blank 4: nothing is stored\n"))))))))

-- ---- the answers to a script's lines

-- calls on the same three files, with and without a pressure; a load's number, bytes and sizes
pub record AnswerLines : Type 0 where
  pub done : answer_line (accepted []) ≡ text "ok\n"
  pub load : answer_line (load_answer (Ok 2165703038)) ≡ text "ok 2165703038\n"
  pub read : answer_line (map_answer reading_values (alone_in example_file 0)) ≡ text "ok 74 2385 2 0 0\n"
  pub blank : answer_line (map_answer reading_values (alone_in example_file 1)) ≡ text "refused 11\n"
  pub lost : answer_line (map_answer reading_values (alone_in example_file 2)) ≡ text "refused 5\n"
  pub survey : survey_line (survey_in example_file) ≡ text "ok 1 1 1 0 1 0 2385 2385 2385 2385\n"
  pub numbers : survey_line (accepted many_numbers) ≡ text "ok 4 6 1 5 2 3 8112 1310 1409 1352\n"
  pub zero : answer_line (map_answer reading_values (alone_in under_file 0)) ≡ text "ok 0 0 0 0 0\n"
  pub under : survey_line (survey_in under_file) ≡ text "ok 0 0 0 1 0 0 0 - - -\n"
  pub absent : survey_line (survey_in bad_file) ≡ text "ok 0 0 0 0 0 1 0 - - -\n"
  pub refused : survey_line (survey_in []) ≡ text "refused 7\n"
  pub bytes : bytes_line (0x00 ∷ 0x2C ∷ 0xE4 ∷ 0xFF ∷ []) ≡ text "002CE4FF\n"
  pub size : answer_line (accepted (65536 ∷ [])) ≡ text "ok 65536\n"

-- what can't be played: a tab, an escape and a backslash are made visible, and a long line is cut
pub record TroubleLines : Type 0 where
  pub unreadable : trouble_line 31 Trouble.Unreadable (text "jump\t3 \u{1b}[2J \\") ≡ text "line 31 unreadable: jump\\x093 \\x1B[2J \\x5C\n"
  pub not_lent : trouble_line 1 Trouble.NotLent (text "more than 65536 bytes") ≡ text "line 1 not lent: more than 65536 bytes\n"
  pub not_read : trouble_line 2 Trouble.NotRead (text "gone.trace") ≡ text "line 2 not read: gone.trace\n"
  pub not_written : trouble_line 3 Trouble.NotWritten (text "/") ≡ text "line 3 not written: /\n"
  pub long : trouble_line 4 Trouble.Unreadable (replicate 73 65) ≡ text "line 4 unreadable: " ++ (replicate 72 65 ++ text "...\n")

-- ---- text made visible

-- every number of a list has a property
abbrev pub AllOf : (ℕ → Type 0) → List ℕ → Type 0
AllOf P [] = Unit {0}
AllOf P (n ∷ ns) = P n × AllOf P ns

abbrev pub Bytes : List ℕ → Type 0
Bytes = AllOf λ n. n < 256

-- printable ASCII characters
abbrev pub Printable : List ℕ → Type 0
Printable = AllOf λ n. (32 ≤ n) × (n ≤ 126)

-- no control character is shown, and a text of at most 72 bytes looks like no other text
pub record VisibleTexts : Type 0 where
  pub printable : (t : List ℕ) → Bytes t → Printable (shown t)
  pub apart : (t u : List ℕ) → Bytes t → Bytes u → length t ≤ most_shown → shown t ≡ shown u → t ≡ u
