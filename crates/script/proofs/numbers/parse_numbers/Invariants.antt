-- The numbers that are read and those that are still to come are the text's.
use Rattle.std.proofs.Common.{◌≡◌, ◌++◌, option_map}
use Rattle.script.specs.Script.{words, numbers_of}
use Rattle.script.specs.ContractsOfSteps.{words_left}
use Rattle.script.proofs.numbers.parse_numbers.Given as goal

abbrev pub invariant-loop-word : goal.invariant-loop-word
invariant-loop-word l = option_map (λ ns. l.numbers.items ++ ns) (numbers_of (words_left l.word-iterator)) ≡ numbers_of (words l.text)
