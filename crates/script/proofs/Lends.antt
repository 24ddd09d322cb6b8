-- What is lent, by how many bytes it has.
use Rattle.std.proofs.Common.{◌≡◌, Option, Some, None, Ok, Err, option_map, List, [], ◌∷◌, ℕ, ◌<◌, ◌≤◌, length, refl, arith}
use borrow.Author.Tests.{le-leb, lt-leb}
use Rattle.script.specs.declared.line.Command.{Command}
use Rattle.script.specs.declared.lending.NotTaken.{NotTaken}
use Rattle.script.specs.Script.{hex_command}
use Rattle.script.specs.Lending.{lending, over, lend_in}
use Rattle.script.specs.ContractsOfSteps.{list_of}

pub lent_all : (o : Option (List ℕ)) (b : List ℕ) (n : ℕ) → Some n ≡ option_map length o → n ≤ length b → lending (Ok n) (over (list_of o) b) ≡ lend_in o b
lent_all None b n e fits = let z : ◌≡◌ {A = ℕ} 0 1 = cc in absurd (omega arith)
lent_all (Some xs) b n e fits = let size : n ≡ length xs = cc in rw size (simp (le-leb (length xs) (length b) (omega arith)))

pub lent_too_many : (o : Option (List ℕ)) (b : List ℕ) (n : ℕ) → Some n ≡ option_map length o → length b < n → lending (Err NotTaken.TooMany) b ≡ lend_in o b
lent_too_many None b n e less = let z : ◌≡◌ {A = ℕ} 0 1 = cc in absurd (omega arith)
lent_too_many (Some xs) b n e less = let size : n ≡ length xs = cc in simp (lt-leb (length xs) (length b) (omega arith))

pub lent_nothing : (o : Option (List ℕ)) (b : List ℕ) → None ≡ option_map length o → lending (Err NotTaken.Nothing) b ≡ lend_in o b
lent_nothing None b e = refl
lent_nothing (Some xs) b e = let z : ◌≡◌ {A = ℕ} 0 1 = cc in absurd (omega arith)

-- ---- the command whose argument is bytes

pub no_pairs : (o : Option (List ℕ)) → None ≡ option_map length o → Command.Unreadable ≡ hex_command o
no_pairs None e = refl
no_pairs (Some xs) e = let z : ◌≡◌ {A = ℕ} 0 1 = cc in absurd (omega arith)

pub empty_pairs : (o : Option (List ℕ)) (n : ℕ) → Some n ≡ option_map length o → n ≡ 0 → Command.Unreadable ≡ hex_command o
empty_pairs None n e h = refl
empty_pairs (Some []) n e h = refl
empty_pairs (Some (x ∷ xs)) n e h = let size : n ≡ length (x ∷ xs) = cc in absurd (omega arith)

pub some_pairs : (o : Option (List ℕ)) (n : ℕ) → Some n ≡ option_map length o → (n ≡ 0 → ⊥) → Command.Hex ≡ hex_command o
some_pairs None n e h = let z : ◌≡◌ {A = ℕ} 0 1 = cc in absurd (omega arith)
some_pairs (Some []) n e h = let size : n ≡ length {A = ℕ} [] = cc in absurd (h size)
some_pairs (Some (x ∷ xs)) n e h = refl
