-- Text made visible. A byte is shown as itself or begins with a backslash, which never stands for itself, and two hexadecimal digits tell every
-- byte; so what is shown of a text gives its bytes back, one after the other. Of a long text the first 72 bytes and three dots are shown, which
-- would be what is shown of 75 bytes.
use mathlib.Core.Path.{◌≡◌, refl, sym, ap, ◌∙◌}
use mathlib.Core.Bool.{Bool, true, false}
use mathlib.Core.List.{List, [], ◌∷◌, ◌++◌}
use Prim.Native.Nat.{ℕ, zero, suc, ◌/◌, ◌%◌, ◌<◌, ◌≤◌}
use native.Mathlib.Omega.{arith}
use lib.Dec.{ltb, leb}
use lib.ListN.{length, take, length-append}
use lib.Seq.{length-take-le}
use borrow.Author.Tests.{ltb-true, ltb-false, leb-true}
use Rattle.lines.specs.Text.{text, hex_digit, hex, each}
use Rattle.lines.specs.Trouble.{is_plain, visible_byte, visible, most_shown, shown}
use Rattle.lines.specs.Claims.{AllOf, Bytes, Printable, VisibleTexts}
use Rattle.lines.proofs.Texts.{each_append}
use Rattle.lines.proofs.Troubles.{visible_plain, visible_escaped, shown_long, shown_short}

-- ---- numbers that all have a property

module _ (P : ℕ → Type 0) where
  all_append : (l m : List ℕ) → AllOf P l → AllOf P m → AllOf P (l ++ m)
  all_append [] m p q = q
  all_append (n ∷ l) m p q = (p.0, all_append l m p.1 q)

  all_take : (k : ℕ) (l : List ℕ) → AllOf P l → AllOf P (take k l)
  all_take zero l p = tt
  all_take (suc k) [] p = tt
  all_take (suc k) (n ∷ l) p = (p.0, all_take k l p.1)

false_true : false ≡ true → ⊥
false_true e = let never : ◌≡◌ {A = ℕ} 0 1 = cc in omega arith

-- ---- hexadecimal digits

digit_range : (d : ℕ) → d < 16 → (48 ≤ hex_digit d) × (hex_digit d ≤ 70)
digit_range d h = go (ltb d 10) refl
  where
    go : (small : Bool) → ltb d 10 ≡ small → (48 ≤ hex_digit d) × (hex_digit d ≤ 70)
    go true e = let small = ltb-true d 10 e in rw e (omega arith, omega arith)
    go false e = rw e (omega arith, omega arith)

digit_same : (c d : ℕ) → c < 16 → d < 16 → hex_digit c ≡ hex_digit d → c ≡ d
digit_same c d hc hd e = go (ltb c 10) refl (ltb d 10) refl
  where
    go : (s : Bool) → ltb c 10 ≡ s → (t : Bool) → ltb d 10 ≡ t → c ≡ d
    go true p true q = omega (arith, simp (p, q) at e)
    go true p false q = omega (arith, simp (p, q) at e, ltb-true c 10 p, ltb-false d 10 q)
    go false p true q = omega (arith, simp (p, q) at e, ltb-false c 10 p, ltb-true d 10 q)
    go false p false q = omega (arith, simp (p, q) at e)

byte_same : (c d : ℕ) → c < 256 → d < 256 → hex_digit (c / 16) ≡ hex_digit (d / 16) → hex_digit (c % 16) ≡ hex_digit (d % 16) → c ≡ d
byte_same c d hc hd high low =
    let h = digit_same (c / 16) (d / 16) (omega arith) (omega arith) high in
    let l = digit_same (c % 16) (d % 16) (omega arith) (omega arith) low in
    omega arith

-- ---- a byte made visible

plain_range : (c : ℕ) → is_plain c ≡ true → (32 ≤ c) × (c ≤ 126)
plain_range c e = go (leb 32 c) (leb c 126) refl refl
  where
    go : (low high : Bool) → leb 32 c ≡ low → leb c 126 ≡ high → (32 ≤ c) × (c ≤ 126)
    go true true p q = (leb-true 32 c p, leb-true c 126 q)
    go true false p q = absurd (false_true (simp (p, q) at e))
    go false high p q = absurd (false_true (simp p at e))

byte_printable : (c : ℕ) → c < 256 → Printable (visible_byte c)
unfolding hex
byte_printable c h = go (is_plain c) refl
  where
    go : (t : Bool) → is_plain c ≡ t → Printable (visible_byte c)
    go true e = rw (← visible_plain c e) (plain_range c e, tt)
    go false e =
        let high = digit_range (c / 16) (omega arith) in
        let low = digit_range (c % 16) (omega arith) in
        rw (← visible_escaped c e)
        ((omega arith, omega arith), ((omega arith, omega arith), ((omega arith, omega arith), ((omega arith, omega arith), tt))))

-- what is shown of two texts tells their first bytes, and what is shown of the rest
first_same : (c d : ℕ) (x y : List ℕ) → c < 256 → d < 256 → visible_byte c ++ x ≡ visible_byte d ++ y → (c ≡ d) × (x ≡ y)
unfolding hex
first_same c d x y hc hd e = go (is_plain c) refl (is_plain d) refl
  where
    go : (s : Bool) → is_plain c ≡ s → (t : Bool) → is_plain d ≡ t → (c ≡ d) × (x ≡ y)
    go true p true q = let same = rw (← visible_plain c p, ← visible_plain d q) at e in (cc same, cc same)
    go true p false q =
        let same = rw (← visible_plain c p, ← visible_escaped d q) at e in
        let slash : c ≡ 92 = cc same in
        absurd (false_true (rw slash at p))
    go false p true q =
        let same = rw (← visible_escaped c p, ← visible_plain d q) at e in
        let slash : d ≡ 92 = cc same in
        absurd (false_true (rw slash at q))
    go false p false q =
        let same = rw (← visible_escaped c p, ← visible_escaped d q) at e in
        let high : hex_digit (c / 16) ≡ hex_digit (d / 16) = cc same in
        let low : hex_digit (c % 16) ≡ hex_digit (d % 16) = cc same in
        (byte_same c d hc hd high low, cc same)

-- ---- a text made visible

visible_printable : (t : List ℕ) → Bytes t → Printable (visible t)
unfolding each
visible_printable [] p = tt
visible_printable (c ∷ t) p = all_append _ (visible_byte c) (visible t) (byte_printable c p.0) (visible_printable t p.1)

-- a byte is shown as something
some_shown : (c : ℕ) (x : List ℕ) → [] ≡ visible_byte c ++ x → ⊥
unfolding hex
some_shown c x e = go (is_plain c) refl
  where
    go : (t : Bool) → is_plain c ≡ t → ⊥
    go true p = omega (arith, ap length (rw (← visible_plain c p) at e))
    go false p = omega (arith, ap length (rw (← visible_escaped c p) at e))

visible_same : (t u : List ℕ) → Bytes t → Bytes u → visible t ≡ visible u → t ≡ u
unfolding each
visible_same [] [] p q e = refl
visible_same [] (d ∷ u) p q e = absurd (some_shown d (visible u) e)
visible_same (c ∷ t) [] p q e = absurd (some_shown c (visible t) (sym e))
visible_same (c ∷ t) (d ∷ u) p q e =
    let first = first_same c d (visible t) (visible u) p.0 q.0 e in
    let rest = visible_same t u p.1 q.1 first.1 in
    cc

-- ---- what is shown of a text

-- three dots are printable bytes that stand for themselves
abbrev dots : List ℕ
dots = text "..."

dots_visible : visible dots ≡ dots
unfolding each visible_byte
dots_visible = refl

dots_bytes : Bytes dots
dots_bytes = (omega arith, (omega arith, (omega arith, tt)))

dots_printable : Printable dots
dots_printable = ((omega arith, omega arith), ((omega arith, omega arith), ((omega arith, omega arith), tt)))

shown_printable : (t : List ℕ) → Bytes t → Printable (shown t)
shown_printable t p = go (ltb most_shown (length t)) refl
  where
    go : (long : Bool) → ltb most_shown (length t) ≡ long → Printable (shown t)
    go true e =
        let first = visible_printable (take most_shown t) (all_take _ most_shown t p) in
        rw (← shown_long t (ltb-true most_shown (length t) e)) (all_append _ (visible (take most_shown t)) dots first dots_printable)
    go false e = rw (← shown_short t (ltb-false most_shown (length t) e)) (visible_printable t p)

-- the first bytes of a long text and three dots are what is made visible of as many bytes
cut_visible : (t : List ℕ) → most_shown < length t → shown t ≡ visible (take most_shown t ++ dots)
cut_visible t h =
    let first = take most_shown t in
    sym (shown_long t h) ∙ sym (each_append visible_byte first dots ∙ ap (◌++◌ (visible first)) dots_visible)

shown_same : (t u : List ℕ) → Bytes t → Bytes u → length t ≤ most_shown → shown t ≡ shown u → t ≡ u
shown_same t u p q short e = go (ltb most_shown (length u)) refl
  where
    go : (long : Bool) → ltb most_shown (length u) ≡ long → t ≡ u
    go true l =
        let long = ltb-true most_shown (length u) l in
        let first = take most_shown u in
        let bytes = all_append _ first dots (all_take _ most_shown u q) dots_bytes in
        let same = visible_same t (first ++ dots) p bytes (shown_short t short ∙ e ∙ cut_visible u long) in
        absurd (omega (arith, simp length-append at (ap length same), length-take-le most_shown u (omega arith)))
    go false l = visible_same t u p q (shown_short t short ∙ e ∙ sym (shown_short u (ltb-false most_shown (length u) l)))

pub visible_texts : VisibleTexts
visible_texts = record { printable = shown_printable; apart = shown_same }
