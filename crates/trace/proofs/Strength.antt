-- Demand 3 shuts out two wrong traces. A machine of which it holds leaves the bytes of the plain trace, in which a put writes its slot. A put that leaves every byte,
-- the first one or the next, would leave a slot blank that the plain trace has written; but a call sees in the bytes of a plain trace what it sees
-- of that trace, so bytes that are the same are seen alike.
use Rattle.std.proofs.Common.{◌≡◌, ℕ, List, [], ◌∷◌, replicate, sym, refl, ap, ◌∙◌, arith, lit≤}
use lib.Bits.{bit_xor}
use Rattle.codes.specs.Message.{encode}
use Rattle.codes.specs.Codes.{projection, code_of}
use Rattle.trace.specs.declared.slot.Content.{Content}
use Rattle.trace.specs.Calls.{Call, put, Making, run}
use Rattle.trace.specs.View.{content_of, message_of}
use Rattle.trace.specs.Trace.{view_in}
use Rattle.trace.specs.Plain.{view_of, bytes, fresh, on_plain}
use Rattle.trace.specs.Claims.{MakeFit, Machine, bytes_after, plain_after, Demanded3, StoresNothing, OnlySaysYes, Demand3ShutsOut}
use Rattle.trace.proofs.Stored.{Sound, seen_alike}
use Rattle.trace.proofs.Refinement.{run_kept}
use Rattle.trace.proofs.Makings.{fresh_sound}

-- ---- a trace of two slots, after no put, one and two

found : List ℕ
found = replicate 30 0

two : Making
two = record { code = 1; slots = 2 }

fit : MakeFit found two
unfolding found two
fit = record { code = refl; count = refl; room = lit≤ tt }

sound : (calls : List Call) → Sound (plain_after found two calls)
sound calls = (run_kept two.code calls (fresh two found) (fresh_sound found two fit)).sound

-- what a call sees of slot 0, or 1, of the plain trace, after calls
abbrev seen : List Call → ℕ → Content
seen calls slot = content_of (view_of (plain_after found two calls)) slot

-- ---- bytes that are the same are seen alike

apart : (before after : List Call) (slot word marks : ℕ) → seen before slot ≡ Content.Blank → seen after slot ≡ Content.Written word marks
    → bytes (plain_after found two before) ≡ bytes (plain_after found two after) → ⊥
apart before after slot word marks blank written same =
    let p = plain_after found two before in
    let q = plain_after found two after in
    let alike = sym (seen_alike p (sound before)) ∙ ap view_in same ∙ seen_alike q (sound after) in
    let none : Content.Blank ≡ Content.Written word marks = sym blank ∙ ap (λ v. content_of v slot) alike ∙ written in
    let z : ◌≡◌ {A = ℕ} 0 1 = cc in
    omega arith

-- ---- two puts

abbrev first : Call
first = put 0 0 0

abbrev second : Call
second = put 1 0 0

-- the word of step 0 and reading 0
codeword : ℕ
codeword = bit_xor (encode (projection (code_of 1)) (message_of 0 0)) 0

blank_before : seen [] 0 ≡ Content.Blank
unfolding run fresh view_of two
blank_before = refl

written_then : seen (first ∷ []) 0 ≡ Content.Written codeword 0
unfolding run fresh view_of on_plain two codeword
written_then = refl

blank_still : seen (first ∷ []) 1 ≡ Content.Blank
unfolding run fresh view_of on_plain two
blank_still = refl

written_last : seen (first ∷ second ∷ []) 1 ≡ Content.Written codeword 0
unfolding run fresh view_of on_plain two codeword
written_last = refl

-- ---- the claim

module _ (machine : Machine) (demanded : Demanded3 machine) where
  -- the bytes after a list of calls
  left : (calls : List Call) → bytes_after machine found two calls ≡ bytes (plain_after found two calls)
  left calls = (demanded found two calls fit).left

  nothing_stored : StoresNothing machine → ⊥
  unfolding run
  nothing_stored stores =
      apart [] (first ∷ []) 0 codeword 0 blank_before written_then
      (sym (left []) ∙ sym (stores found two [] fit 0 0 0) ∙ left (first ∷ []))

  yes_said : OnlySaysYes machine → ⊥
  unfolding run
  yes_said says =
      let written : content_of (view_in (bytes_after machine found two (first ∷ []))) 0 ≡ Content.Written codeword 0 =
      ap (λ b. content_of (view_in b) 0) (left (first ∷ [])) ∙ ap (λ v. content_of v 0) (seen_alike _ (sound (first ∷ []))) ∙ written_then in
      apart (first ∷ []) (first ∷ second ∷ []) 1 codeword 0 blank_still written_last
      (sym (left (first ∷ [])) ∙ sym (says found two (first ∷ []) fit 0 codeword 0 written 1 0 0) ∙ left (first ∷ second ∷ []))

pub demand3_shuts_out : Demand3ShutsOut
demand3_shuts_out =
    record { stores_nothing = λ machine stores d. nothing_stored machine d stores; only_says_yes = λ machine says d. yes_said machine d says }
