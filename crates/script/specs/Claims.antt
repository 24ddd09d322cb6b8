-- What is claimed of a script's lines and calls. Each claim is a theorem of the same name, in lower case, in proofs/Claims.
use Rattle.std.specs.Prelude.{◌≡◌, Some, None, Ok, Err, List, [], ◌∷◌, ◌++◌, map, ℕ, ◌<◌, ◌≤◌, length, replicate}
use Prim.Native.String.{String}
use Rattle.trace.specs.Claims.{example_bytes}
use Rattle.lines.specs.Claims.{example_file}
use Rattle.script.specs.declared.line.Call.{Call}
use Rattle.script.specs.declared.line.Command.{Command}
use Rattle.script.specs.declared.lending.NotTaken.{NotTaken}
use Rattle.script.specs.declared.lists.Puts.{Puts}
use Rattle.script.specs.Held.{hold_all}
use Rattle.script.specs.Script.{text, number_of, number_list, PutList, hex_value, meaning, argument}
use Rattle.script.specs.Lending.{zeros, line_lends, lending, over, lend_in}
use Rattle.script.specs.Lists.{line_puts, both_lists, taking, taken, take_in}
use Rattle.script.specs.Answering.{Answered, answered, answered_list}

-- ---- lines

-- lines as people type them, and what they mean
pub record LinesMean : Type 0 where
  pub empty : meaning [] ≡ Command.Nothing
  pub blank : meaning (text " \t \r") ≡ Command.Nothing
  pub comment : meaning (text "  # put 0 74 2385") ≡ Command.Nothing
  pub make : meaning (text "make 1 4") ≡ Command.Call (Call.Make 1 4)
  pub put : meaning (text "put 0 74 2385") ≡ Command.Call (Call.Put 0 74 2385)
  pub flip : meaning (text "\tflip  0 \t 3 \r") ≡ Command.Call (Call.Flip 0 3)
  pub mark : meaning (text "mark 0 35") ≡ Command.Call (Call.Mark 0 35)
  pub load : meaning (text "load 0 1 3") ≡ Command.Call (Call.Load 0 1 3)
  pub clear : meaning (text "clear 2") ≡ Command.Call (Call.Clear 2)
  pub read : meaning (text "read 0") ≡ Command.Call (Call.Read 0)
  pub survey : meaning (text "survey") ≡ Command.Call Call.Survey
  pub bytes : meaning (text "bytes") ≡ Command.Call Call.Bytes
  pub return : meaning (text "read\r 0") ≡ Command.Unreadable
  pub size : meaning (text "buffer 100000") ≡ Command.Buffer 100000
  pub no_size : meaning (text "buffer 00FF") ≡ Command.Unreadable
  pub hex : meaning (text "hex 00ff") ≡ Command.Hex
  pub no_digit : meaning (text "hex @0") ≡ Command.Unreadable
  pub half_pair : meaning (text "hex 0 0") ≡ Command.Unreadable
  pub opened : meaning (text "open bed 3.trace ") ≡ Command.Open
  pub saved : meaning (text "save bed 3.trace") ≡ Command.Save
  pub no_file : meaning (text "save ") ≡ Command.Unreadable
  pub below : meaning (text "read /") ≡ Command.Unreadable
  pub above : meaning (text "read :") ≡ Command.Unreadable
  pub fewer : meaning (text "put 0 74") ≡ Command.Unreadable
  pub more : meaning (text "put 0 74 2385 1") ≡ Command.Unreadable
  pub largest : meaning (text "read 18446744073709551615") ≡ Command.Call (Call.Read 18446744073709551615)
  pub too_large : meaning (text "read 18446744073709551616") ≡ Command.Unreadable
  pub no_count : meaning (text "load 0 1") ≡ Command.Unreadable
  pub largest_seed : meaning (text "load 4294967296 4294967295 4294967296") ≡ Command.Call (Call.Load 4294967296 4294967295 4294967296)
  pub too_large_seed : meaning (text "load 0 4294967296 3") ≡ Command.Unreadable
  pub puts : meaning (text "puts 1 7,8 100,200") ≡ Command.PutList
  pub no_puts : meaning (text "puts 0 - -") ≡ Command.PutList
  pub uneven : meaning (text " puts\t2  - 1 \r") ≡ Command.PutList
  pub empty_number : meaning (text "puts 0 1,,2 1,2,3") ≡ Command.Unreadable
  pub comma_in_front : meaning (text "puts 0 ,1 1") ≡ Command.Unreadable
  pub comma_at_end : meaning (text "puts 0 1 1,") ≡ Command.Unreadable
  pub two_dashes : meaning (text "puts 0 -- -") ≡ Command.Unreadable
  pub dash_in_list : meaning (text "puts 0 1,- 1") ≡ Command.Unreadable
  pub no_comma : meaning (text "puts 0 1;2 1,2") ≡ Command.Unreadable
  pub no_start : meaning (text "puts - 1 1") ≡ Command.Unreadable
  pub fewer_lists : meaning (text "puts 0 1") ≡ Command.Unreadable
  pub more_lists : meaning (text "puts 0 1 1 1") ≡ Command.Unreadable
  pub too_large_in_list : meaning (text "puts 0 1,18446744073709551616 1,2") ≡ Command.Unreadable

-- what they lend, which file they name, and what lent bytes make of a buffer
pub record LinesLend : Type 0 where
  pub size : line_lends (text "buffer 100000") ≡ Some (zeros 100000)
  pub pairs : line_lends (text "hex 00 fF\t2c ") ≡ Some (0x00 ∷ 0xFF ∷ 0x2C ∷ [])
  pub digits : line_lends (text "hex 09AFaf") ≡ Some (0x09 ∷ 0xAF ∷ 0xAF ∷ [])
  pub no_digits : map hex_value (text "/:@G`g") ≡ replicate 6 None
  pub call : line_lends (text "read 0") ≡ None
  pub name : argument (text " open  bed 3.trace \r") ≡ text "bed 3.trace"
  pub front : lend_in (Some (1 ∷ 2 ∷ [])) (7 ∷ 8 ∷ 9 ∷ []) ≡ lending (Ok 2) (1 ∷ 2 ∷ 9 ∷ [])
  pub fits : lend_in (Some (1 ∷ 2 ∷ 3 ∷ [])) (7 ∷ 8 ∷ 9 ∷ []) ≡ lending (Ok 3) (1 ∷ 2 ∷ 3 ∷ [])
  pub too_many : lend_in (Some (1 ∷ 2 ∷ 3 ∷ 4 ∷ [])) (7 ∷ 8 ∷ 9 ∷ []) ≡ lending (Err NotTaken.TooMany) (7 ∷ 8 ∷ 9 ∷ [])
  pub nothing : lend_in None (7 ∷ 8 ∷ 9 ∷ []) ≡ lending (Err NotTaken.Nothing) (7 ∷ 8 ∷ 9 ∷ [])

-- ---- lines that ask for a list of puts

abbrev pub puts_from : ℕ → List ℕ → List ℕ → PutList
puts_from start steps readings = record { start = start; steps = steps; readings = readings }

abbrev pub sizes : ℕ → ℕ → ℕ → Puts
sizes start steps readings = record { start = start; steps = steps; readings = readings }

-- which list of puts they ask for, and what lists make of a buffer of numbers
pub record LinesPut : Type 0 where
  pub puts : line_puts (text "puts 1 7,8 100,200") ≡ Some (puts_from 1 (7 ∷ 8 ∷ []) (100 ∷ 200 ∷ []))
  pub several : line_puts (text "puts 3990 127,0,64,1 1310,4095,0,7,1024")
      ≡ Some (puts_from 3990 (127 ∷ 0 ∷ 64 ∷ 1 ∷ []) (1310 ∷ 4095 ∷ 0 ∷ 7 ∷ 1024 ∷ []))
  pub empty : line_puts (text "puts 0 - -") ≡ Some (puts_from 0 [] [])
  pub uneven : line_puts (text " puts\t2  - 1 \r") ≡ Some (puts_from 2 [] (1 ∷ []))
  pub largest : line_puts (text "puts 18446744073709551615 007,18446744073709551615 0")
      ≡ Some (puts_from 18446744073709551615 (7 ∷ 18446744073709551615 ∷ []) (0 ∷ []))
  pub put : line_puts (text "put 1 7 100") ≡ None
  pub front : take_in (Some (puts_from 3 (4 ∷ []) (5 ∷ 6 ∷ []))) (7 ∷ 8 ∷ 9 ∷ 10 ∷ []) ≡ taking (Ok (sizes 3 1 2)) (4 ∷ 5 ∷ 6 ∷ 10 ∷ [])
  pub fits : take_in (Some (puts_from 3 (4 ∷ []) (5 ∷ 6 ∷ []))) (7 ∷ 8 ∷ 9 ∷ []) ≡ taking (Ok (sizes 3 1 2)) (4 ∷ 5 ∷ 6 ∷ [])
  pub too_many : take_in (Some (puts_from 3 (4 ∷ []) (5 ∷ 6 ∷ []))) (7 ∷ 8 ∷ []) ≡ taking (Err NotTaken.TooMany) (7 ∷ 8 ∷ [])
  pub nothing : take_in None (7 ∷ 8 ∷ []) ≡ taking (Err NotTaken.Nothing) (7 ∷ 8 ∷ [])

-- words with a comma between any two
unfoldable pub joined : List (List ℕ) → List ℕ
joined [] = []
joined (w ∷ []) = w
joined (w ∷ (v ∷ ws)) = w ++ (44 ∷ joined (v ∷ ws))

-- the words are numbers, one for each
abbrev pub AreNumbers : List (List ℕ) → List ℕ → Type 0
AreNumbers [] [] = Unit {0}
AreNumbers [] (n ∷ ns) = ⊥
AreNumbers (w ∷ ws) [] = ⊥
AreNumbers (w ∷ ws) (n ∷ ns) = (number_of w ≡ Some n) × AreNumbers ws ns

-- a list may be of any length: numbers with a comma between any two are read, all of them, in order
abbrev pub ListsRead : Type 0
ListsRead = (ws : List (List ℕ)) (n : ℕ) (ns : List ℕ) → AreNumbers ws (n ∷ ns) → number_list (joined ws) ≡ Some (n ∷ ns)

-- a buffer of 100,000 numbers has room for every list of puts of a line of at most 200,000 bytes
abbrev pub ListsFit : Type 0
ListsFit =
    (line numbers : List ℕ) (puts : PutList) → length line ≤ 200000 → length numbers ≡ 100000 → line_puts line ≡ Some puts
    → take_in (line_puts line) numbers ≡ taking (Ok (taken puts)) (over (both_lists puts) numbers)

-- ---- lines that are taken byte by byte

-- a line of at most 200,000 bytes is held as it is, and a longer one is told apart
pub record LinesHeld : Type 0 where
  pub held : (line : List ℕ) → length line ≤ 200000 → hold_all line (Some []) ≡ Some line
  pub long : (line : List ℕ) → 200000 < length line → hold_all line (Some []) ≡ None

-- ---- calls

-- a line, and the bytes afterwards
abbrev pub says : String → List ℕ → Answered
says line bytes = record { line = text line; bytes = bytes }

-- a written slot whose word and marks are below 256, and a blank one
abbrev pub slot_with : ℕ → ℕ → List ℕ
slot_with word marks = 1 ∷ 0 ∷ 0 ∷ 0 ∷ 0 ∷ word ∷ 0 ∷ 0 ∷ 0 ∷ 0 ∷ marks ∷ []

abbrev pub blank_slot : List ℕ
blank_slot = replicate 11 0

-- calls on a trace of one slot under code 2, byte for byte, where positions 34, 16 and 15 are the bits of value 2, 80000 and 100000 (hexadecimal),
-- and on the scope's example: each call's line, and the bytes that it leaves
pub record CallsAnswer : Type 0 where
  pub make : answered (Call.Make 2 1) (replicate 21 0xFF) ≡ says "ok\n" (example_bytes blank_slot)
  pub no_room : answered (Call.Make 1 2) (replicate 21 0xFF) ≡ says "refused 7\n" (replicate 21 0xFF)
  pub put : answered (Call.Put 0 74 2385) (example_bytes blank_slot)
      ≡ says "ok\n" (example_bytes (1 ∷ 0x02 ∷ 0xE4 ∷ 0x87 ∷ 0x22 ∷ 0xDB ∷ replicate 5 0))
  pub too_large : answered (Call.Put 0 2385 74) (example_bytes blank_slot) ≡ says "refused 13\n" (example_bytes blank_slot)
  pub flip : answered (Call.Flip 0 34) (example_bytes (slot_with 5 8)) ≡ says "ok\n" (example_bytes (slot_with 7 8))
  pub mark : answered (Call.Mark 0 34) (example_bytes (slot_with 5 8)) ≡ says "ok\n" (example_bytes (slot_with 5 10))
  pub no_slot : answered (Call.Mark 34 0) (example_bytes (slot_with 5 8)) ≡ says "refused 9\n" (example_bytes (slot_with 5 8))
  pub load : answered (Call.Load 0 1 3) (example_bytes (slot_with 5 8))
      ≡ says "ok 2165703038\n" (example_bytes (1 ∷ 0 ∷ 0 ∷ 0x18 ∷ 0 ∷ 7 ∷ 0 ∷ 0 ∷ 0 ∷ 0 ∷ 8 ∷ []))
  pub too_many : answered (Call.Load 0 1 37) (example_bytes (slot_with 5 8)) ≡ says "refused 14\n" (example_bytes (slot_with 5 8))
  pub clear : answered (Call.Clear 0) (example_bytes (slot_with 5 8)) ≡ says "ok\n" (example_bytes blank_slot)
  pub read : answered (Call.Read 0) example_file ≡ says "ok 74 2385 2 0 0\n" example_file
  pub blank : answered (Call.Read 1) example_file ≡ says "refused 11\n" example_file
  pub survey : answered Call.Survey example_file ≡ says "ok 1 1 1 0 1 0 2385 2385 2385 2385\n" example_file
  pub puts : answered_list 0 (74 ∷ []) (2385 ∷ []) (example_bytes blank_slot)
      ≡ says "ok\n" (example_bytes (1 ∷ 0x02 ∷ 0xE4 ∷ 0x87 ∷ 0x22 ∷ 0xDB ∷ replicate 5 0))
  pub no_puts : answered_list 0 [] [] (example_bytes (slot_with 5 8)) ≡ says "ok\n" (example_bytes (slot_with 5 8))
  pub past_end : answered_list 0 (1 ∷ 2 ∷ []) (3 ∷ []) (example_bytes (slot_with 5 8)) ≡ says "refused 15\n" (example_bytes (slot_with 5 8))
  pub uneven : answered_list 0 [] (3 ∷ []) (example_bytes (slot_with 5 8)) ≡ says "refused 16\n" (example_bytes (slot_with 5 8))
  pub step_too_large : answered_list 0 (2385 ∷ []) (74 ∷ []) (example_bytes (slot_with 5 8)) ≡ says "refused 13\n" (example_bytes (slot_with 5 8))
  pub bytes : answered Call.Bytes (0x00 ∷ 0x2C ∷ 0xE4 ∷ 0xFF ∷ []) ≡ says "002CE4FF\n" (0x00 ∷ 0x2C ∷ 0xE4 ∷ 0xFF ∷ [])
