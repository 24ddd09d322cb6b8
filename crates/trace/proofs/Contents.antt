-- What a slot's state, word and marks say of it: a written slot has passed the tests of its word and marks, so both are narrow.
use Rattle.std.proofs.Common.{◌≡◌, ℕ, ◌^◌, ◌<◌, Bool, true, false, cond, not, ◌&&◌, ◌||◌, eqb, leb, refl, leb-false}
use Rattle.codes.specs.Projection.{Projection, width}
use Rattle.trace.specs.declared.slot.Content.{Content}
use Rattle.trace.specs.Refusals.{is_bad}
use Rattle.trace.specs.Trace.{content_with}

-- a word and marks that a slot's width holds
abbrev pub Narrow : Projection → Content → Type 0
Narrow π Content.Blank = Unit {0}
Narrow π Content.Bad = Unit {0}
Narrow π (Content.Written word marks) = (word < 2 ^ width π) × (marks < 2 ^ width π)

module _ (π : Projection) (s w m : ℕ) where
  content_narrow : Narrow π (content_with π s w m)
  unfolding content_with is_bad
  content_narrow = go (leb 2 s) (leb (2 ^ width π) w) (leb (2 ^ width π) m) (eqb s 0 && not (eqb w 0 && eqb m 0)) refl refl
    where
      kept : (t : Bool) → w < 2 ^ width π → m < 2 ^ width π → Narrow π (cond t Content.Blank (Content.Written w m))
      kept true hw hm = tt
      kept false hw hm = (hw, hm)

      go : (a b c d : Bool) → leb (2 ^ width π) w ≡ b → leb (2 ^ width π) m ≡ c
          → Narrow π (cond (a || (b || (c || d))) Content.Bad (cond (eqb s 0) Content.Blank (Content.Written w m)))
      go true b c d eb ec = tt
      go false true c d eb ec = tt
      go false false true d eb ec = tt
      go false false false true eb ec = tt
      go false false false false eb ec = kept (eqb s 0) (leb-false _ w eb) (leb-false _ m ec)

  pub narrow : (c : Content) → c ≡ content_with π s w m → Narrow π c
  narrow c e = rw e content_narrow
