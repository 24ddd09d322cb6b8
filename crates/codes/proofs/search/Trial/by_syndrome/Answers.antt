-- The word itself, the word with two bits inverted of the column that the entry names, or none.
use Rattle.std.proofs.Common.{◌≡◌, ℕ, sym, ◌∙◌, arith}
use Rattle.symbols.specs.Column.{column_with}
use Rattle.symbols.proofs.Claims.{numbers}
use Rattle.codes.specs.Word.{word}
use Rattle.codes.specs.Codes.{projection}
use Rattle.codes.specs.ContractsOfSearch.{entry}
use Rattle.codes.specs.Projection.{Projection}
use Rattle.codes.proofs.Differences.{lacks_none}
use Rattle.codes.proofs.Entries.{Named, entry_names}
use Rattle.codes.proofs.Searches.{searchable}
use Rattle.codes.proofs.Syndromes.{zero_here, zero_off, none_unnamed, pair_inverted}
use Rattle.codes.proofs.search.Trial.by_syndrome.Goals as goal

-- what an entry that was read names
named : (π : Projection) (s e : ℕ) → e ≡ entry π s → (e ≡ 0 → ⊥) → Named π s e
named π s e read n = rw read (entry_names π s (λ z. n (read ∙ z)))

pub returns-then-self : goal.returns-then-self
returns-then-self c n l h p left =
    let t = c.args.self in
    zero_off left.known (lacks_none p (word (projection t.code) t.word) left.places) n (searchable t.code) c.if-self-eq0.true c.if-self.true h

pub returns-then-self-eq0 : goal.returns-then-self-eq0
returns-then-self-eq0 c n l h p left =
    let t = c.args.self in
    zero_here left.known (lacks_none p (word (projection t.code) t.word) left.places) n c.if-self-eq0.true c.if-self.false

pub returns-then-named-eq0 : goal.returns-then-named-eq0
returns-then-named-eq0 c n l h p left =
    let t = c.args.self in
    none_unnamed left.known (lacks_none p (word (projection t.code) t.word) left.places) n (searchable t.code) c.if-self-eq0.false
    (sym c.entry-named.ensures ∙ c.if-named-eq0.true) h

pub overflow_sub-named : goal.overflow_sub-named
overflow_sub-named c =
    let t = c.args.self in
    omega (arith, (named (projection t.code) t.syndrome c.entry-named.result c.entry-named.ensures c.if-named-eq0.false).from)

pub inverted-requires : goal.inverted-requires
inverted-requires c =
    let t = c.args.self in (
      (named (projection t.code) t.syndrome c.entry-named.result c.entry-named.ensures c.if-named-eq0.false).place,
      rw c.column_with-pair.ensures (numbers.columns.small (column_with _ _ _)),
    )

pub returns : goal.returns
returns c n l h p left =
    let t = c.args.self in
    let pair = c.column_with-pair in
    rw c.inverted.ensures
    (pair_inverted left.known (lacks_none p (word (projection t.code) t.word) left.places) n (searchable t.code) l
    (named (projection t.code) t.syndrome c.entry-named.result c.entry-named.ensures c.if-named-eq0.false) pair.result pair.ensures)
