-- The four codes by their numbers, and what each word call answers.
use Rattle.std.specs.Prelude.{ℕ, ◌-◌, ◌/◌, ◌^◌, Bool, cond, not, ◌&&◌, List, [], ◌∷◌, length, nat_le, slice_index_or, Result, Ok, Err}
use Rattle.std.proofs.Math.Option.{Option, none, some}
use Rattle.codes.specs.declared.code.Code.{Code}
use Rattle.codes.specs.declared.code.Code.TheVariants.{O36, E36, O40, E40}
use Rattle.codes.specs.declared.answer.Refusal.{Refusal}
use Rattle.codes.specs.declared.answer.Refusal.TheVariants.{UnknownCode, MessageTooLarge, WordTooWide, NotACodeword, NoneNear}
use Rattle.codes.specs.declared.answer.Correction.{Correction}
use Rattle.codes.specs.Answer.{Answer, accepted, refused, Row, unless}
use Rattle.codes.specs.Projection.{Projection, rule_o, rule_e, nine, ten, width, message_bits}
use Rattle.codes.specs.Word.{word, is_codeword}
use Rattle.codes.specs.Message.{encode, decode}
use Rattle.codes.specs.Correction.{correct, is_far}

abbrev pub projection : Code → Projection
projection O36 = nine rule_o
projection E36 = nine rule_e
projection O40 = ten rule_o
projection E40 = ten rule_e

-- 'Code 1 is 36 O, 2 is 36 E, 3 is 40 O, 4 is 40 E'
abbrev pub codes : List Code
codes = O36 ∷ E36 ∷ O40 ∷ E40 ∷ []

abbrev pub is_code : ℕ → Bool
is_code n = nat_le 1 n && nat_le n (length codes)

abbrev pub code_of : ℕ → Code
code_of n = slice_index_or codes (n - 1) O36

-- 'Each code carries its own width, message size and step limit': message = step·4096 + reading
abbrev pub step_limit : Projection → ℕ
step_limit π = 2 ^ message_bits π / 4096

-- 'code not 1 to 4'
abbrev pub code_found : ℕ → Result Code Refusal
code_found n = cond (is_code n) (Ok (code_of n)) (Err UnknownCode)

-- each refusal's number
abbrev pub refusal_number : Refusal → ℕ
refusal_number UnknownCode = 1
refusal_number MessageTooLarge = 2
refusal_number WordTooWide = 3
refusal_number NotACodeword = 4
refusal_number NoneNear = 5

-- the values of a correction, in the order in which mending answers them
abbrev pub correction_values : Correction → List ℕ
correction_values c = c.codeword ∷ c.message ∷ c.wrong ∷ c.marks ∷ c.marked_wrong ∷ []

-- the number and values of each case of an answer
abbrev pub encoded_answer : Result ℕ Refusal → Answer (List ℕ)
encoded_answer (Ok w) = accepted (w ∷ [])
encoded_answer (Err r) = refused (refusal_number r)

abbrev pub decoded_answer : Result ℕ Refusal → Answer (List ℕ)
decoded_answer (Ok m) = accepted (m ∷ [])
decoded_answer (Err r) = refused (refusal_number r)

abbrev pub corrected_answer : Result Correction Refusal → Answer (List ℕ)
corrected_answer (Ok c) = accepted (correction_values c)
corrected_answer (Err r) = refused (refusal_number r)

abbrev pub correction_answer : Option Correction → Answer (List ℕ)
correction_answer (some c) = accepted (correction_values c)
correction_answer none = refused (refusal_number NoneNear)

-- the word calls' rows of the scope's table of refusals: 'code not 1 to 4'; 'message over 19 or 22 bits'; 'word or marks have a bit above
-- the width'; 'not a codeword'; 'no near codeword'
abbrev pub unknown_code : ℕ → Row
unknown_code n = record { number = 1; met = not (is_code n) }

abbrev pub message_too_large : Projection → ℕ → Row
message_too_large π m = record { number = 2; met = nat_le (2 ^ message_bits π) m }

abbrev pub word_too_wide : Projection → ℕ → Row
word_too_wide π w = record { number = 3; met = nat_le (2 ^ width π) w }

abbrev pub not_a_codeword : Projection → ℕ → Row
not_a_codeword π w = record { number = 4; met = not (is_codeword π (word π w)) }

abbrev pub none_near : Projection → ℕ → ℕ → Row
none_near π w m = record { number = 5; met = is_far (correct π w m) }

-- writing, strict reading and mending under a code: encoding, decoding and correcting
abbrev pub encoding : Projection → ℕ → Answer (List ℕ)
encoding π m = unless (message_too_large π m ∷ []) (accepted (encode π m ∷ []))

abbrev pub decoding : Projection → ℕ → Answer (List ℕ)
decoding π w = unless (word_too_wide π w ∷ not_a_codeword π w ∷ []) (accepted (decode π w ∷ []))

abbrev pub correcting : Projection → ℕ → ℕ → Answer (List ℕ)
correcting π w m = unless (word_too_wide π w ∷ word_too_wide π m ∷ []) (correction_answer (correct π w m))

-- a word call names a code by its number
abbrev pub under : ℕ → (Projection → Answer (List ℕ)) → Answer (List ℕ)
under n call = unless (unknown_code n ∷ []) (call (projection (code_of n)))
