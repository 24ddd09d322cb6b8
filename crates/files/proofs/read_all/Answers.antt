-- A read gives the reader's next bytes, which stand behind those that were read before it.
use Rattle.std.proofs.Common.{◌≡◌, ℕ, ◌+◌, ◌-◌, ◌≤◌, List, ◌++◌, Ok, length, take, length-take-le, rules, sym, ap, ◌∙◌, subst}
use Rattle.std.proofs.Math.Seq.{take-append-add}
use Rattle.std.proofs.lemmas.List.{take-append-le}
use Rattle.std.specs.Io.KnownBytes.{Consumes}
use Rattle.std.proofs.KnownBytes.{Consumes-trans}
use borrow.Rule.Slice.PartMut.{put_mid, post_of}
use Rattle.files.proofs.read_all.Goals as goal

-- the first bytes of a part that is written from `start` on stand behind what the buffer has before it
behind_start : (start room count : ℕ) (buffer part : List ℕ) → start ≤ length buffer → count ≤ length part
    → take (start + count) (put_mid start room buffer part) ≡ take start buffer ++ take count part
behind_start start room count buffer part there fits =
    let rest = post_of start room buffer in
    rw (length-take-le start buffer there) at (take-append-add (take start buffer) (part ++ rest) count)
    ∙ ap (λ l. take start buffer ++ l) (take-append-le count part rest fits)

pub loop-end-preserved : goal.loop-end-preserved
loop-end-preserved g c =
    let before = c.loop-end in
    let kept = before.invariant in
    let count = c.in_ok-count.count in
    let gave : c.read.result ≡ Ok count = search rules in
    let fits = rw gave at c.read.ensures.bound in
    let next = rw gave at c.read.ensures.bytes in
    let joined = behind_start before.end (length before.buf - before.end) count before.buf c.read.new.buf kept.1 fits.0 in
    (search rules, search rules, subst (Consumes _ _) (sym joined) (Consumes-trans _ _ _ _ _ kept.2 next.0))
