-- The columns that lack the parity are taken from the mask one by one, and there are at most three.
use Rattle.std.proofs.Common.{◌≡◌, ℕ, Bool, List, sym, ◌∙◌, arith, ltb-false, ltb-true}
use Rattle.codes.specs.declared.search.Trial.{Trial}
use Rattle.codes.specs.Digits.{mask}
use Rattle.codes.specs.Projection.{Projection, count}
use Rattle.codes.specs.Word.{word}
use Rattle.codes.specs.Codes.{projection}
use Rattle.codes.specs.ContractsOfSearch.{lacking, cleared, SomeSet, Begun}
use Rattle.codes.proofs.Masks.{some_set, none_set, count_cleared, length_lacking, length_cleared}
use Rattle.codes.proofs.Seeking.{too_many}
use Rattle.codes.proofs.Words.{length_word}
use Rattle.codes.proofs.search.Trial.seek.Goals as goal

-- the columns that lack the parity, some of them, and some without the first
columns : Projection → Bool → Trial → List Bool
columns π p t = lacking p (word π t.word)

some_first : {π : Projection} {p : Bool} {d : ℕ} {t : Trial} → Begun π p d t → (d ≡ 0 → ⊥) → SomeSet π (lacking p (word π t.word)) d
some_first {π} {p} {d} {t} begun n = some_set _ begun.masks (length_lacking p (word π t.word) ∙ length_word π t.word) n

some_next : {π : Projection} {l : List Bool} {d e : ℕ} → SomeSet π l d → e ≡ mask (cleared l) → (e ≡ 0 → ⊥) → SomeSet π (cleared l) e
some_next {π} {l} set others n = some_set (cleared l) others (length_cleared l ∙ set.long) n

pub returns-then-has_four : goal.returns-then-has_four
returns-then-has_four c p begun =
    let t = c.args.self in
    let few = c.has_four.ensures (lacking p (word (projection t.code) t.word)) begun.masks in
    too_many (projection t.code) p t.word (ltb-true _ _ (sym few ∙ c.if-has_four.true))

pub returns-then-lacking-eq0 : goal.returns-then-lacking-eq0
returns-then-lacking-eq0 c p begun =
    c.by_syndrome.ensures 3 (omega arith) (omega arith) p
    (record { known = begun.known; places = none_set _ (sym begun.masks ∙ c.if-lacking-eq0.true) })

pub first_column-i-requires : goal.first_column-i-requires
first_column-i-requires c = (_, some_first c.requires.1 c.if-lacking-eq0.false)

pub returns-then-others-eq0 : goal.returns-then-others-eq0
returns-then-others-eq0 c p begun =
    let l = lacking p (word (projection c.args.self.code) c.args.self.word) in
    let first = some_first begun c.if-lacking-eq0.false in
    let others = c.without_first-others.ensures l first.masks in
    c.seek_one.ensures 3 (omega arith) (omega arith) p
    (record { known = begun.known; places = (first.some, c.first_column-i.ensures.1 l first, none_set _ (sym others ∙ c.if-others-eq0.true)) })

pub first_column-j-requires : goal.first_column-j-requires
first_column-j-requires c =
    let begun = c.requires.1 in
    let l = lacking c.requires.0 (word (projection c.args.self.code) c.args.self.word) in
    (_, some_next (some_first begun c.if-lacking-eq0.false) (c.without_first-others.ensures l begun.masks) c.if-others-eq0.false)

pub returns-then-last-eq0 : goal.returns-then-last-eq0
returns-then-last-eq0 c p begun =
    let l = lacking p (word (projection c.args.self.code) c.args.self.word) in
    let first = some_first begun c.if-lacking-eq0.false in
    let second = some_next first (c.without_first-others.ensures l first.masks) c.if-others-eq0.false in
    let last = c.without_first-last.ensures (cleared l) second.masks in
    c.seek_two.ensures 3 (omega arith) (omega arith) p
    (record {
      known = begun.known;
      places =
          (first.some, c.first_column-i.ensures.1 l first, (second.some, c.first_column-j.ensures.1 (cleared l) second, none_set _ (sym last ∙ c.if-last-eq0.true)));
    })

pub first_column-requires : goal.first_column-requires
first_column-requires c =
    let begun = c.requires.1 in
    let l = lacking c.requires.0 (word (projection c.args.self.code) c.args.self.word) in
    let second = some_next (some_first begun c.if-lacking-eq0.false) (c.without_first-others.ensures l begun.masks) c.if-others-eq0.false in
    (_, some_next second (c.without_first-last.ensures (cleared l) second.masks) c.if-last-eq0.false)

pub returns : goal.returns
returns c p begun =
    let l = lacking p (word (projection c.args.self.code) c.args.self.word) in
    let first = some_first begun c.if-lacking-eq0.false in
    let second = some_next first (c.without_first-others.ensures l first.masks) c.if-others-eq0.false in
    let third = some_next second (c.without_first-last.ensures (cleared l) second.masks) c.if-last-eq0.false in
    let few = ltb-false 3 (count l) (sym (c.has_four.ensures l begun.masks) ∙ c.if-has_four.false) in
    let none : count (cleared (cleared (cleared l))) ≡ 0 =
    omega (arith, few, count_cleared l, count_cleared (cleared l), count_cleared (cleared (cleared l))) in
    c.seek_three.ensures 3 (omega arith) (omega arith) p
    (record {
      known = begun.known;
      places = (
        first.some,
        c.first_column-i.ensures.1 l first,
        (second.some, c.first_column-j.ensures.1 (cleared l) second, (third.some, c.first_column.ensures.1 (cleared (cleared l)) third, none)),
      );
    })
