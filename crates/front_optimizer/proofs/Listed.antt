-- What is listed at each node from the leaves up is listed.
use Rattle.std.proofs.Common.{◌≡◌, ◌⊎◌, Bool, refl, sym, ap, ap₂, ◌∙◌, subst, inl, inr}
use Rattle.base_language.specs.Language.Expression.{Expression, Str, Insens, Range, Ident, PeekSlice, PosPred, NegPred, Seq, Choice, Opt, Rep, RepOnce, RepExact, RepMin, RepMax, RepMinMax, Skip, Push, RestoreOnErr, PushLiteral, NodeTag}
use Rattle.base_language.specs.Language.Expression.{RuleType, Normal, Silent, Atomic, CompoundAtomic, NonAtomic}
use Rattle.base_language.specs.Rewritings.Listing.{listed, listed_sequence}
use Rattle.base_language.specs.Language.Meaning.{Matches, mode_in}
use Rattle.base_language.specs.Language.State.{Mode, AtomicMode, CompoundAtomicMode, Success}
use Rattle.base_language.proofs.Listing.{listing_keeps}
use Rattle.front_optimizer.specs.Listed.{SkipsNothing, KeepsMatches}
use Rattle.front_optimizer.specs.Here.{listed_here}
use Rattle.front_optimizer.specs.Traversals.{HasNoOperands, BottomUp, left, Above}
use Rattle.front_optimizer.specs.Traversals as trav

abbrev Lists : Expression → Expression → Type 0
Lists a b = listed_here a ≡ b

leaf : (a : Expression) → HasNoOperands a → listed_here a ≡ listed a
leaf (Str s) h = refl
leaf (Insens s) h = refl
leaf (Range s u) h = refl
leaf (Ident s) h = refl
leaf (PeekSlice i j) h = refl
leaf (Skip ss) h = refl
leaf (PushLiteral s) h = refl
leaf (PosPred e) h = absurd h
leaf (NegPred e) h = absurd h
leaf (Seq a b) h = absurd h
leaf (Choice a b) h = absurd h
leaf (Opt e) h = absurd h
leaf (Rep e) h = absurd h
leaf (RepOnce e) h = absurd h
leaf (RepExact e i) h = absurd h
leaf (RepMin e i) h = absurd h
leaf (RepMax e i) h = absurd h
leaf (RepMinMax e i j) h = absurd h
leaf (Push e) h = absurd h
leaf (NodeTag e t) h = absurd h
leaf (RestoreOnErr e) h = absurd h

mutual
  pub listed_bottom_up : {a b : Expression} → BottomUp Lists a b → b ≡ listed a
  listed_bottom_up (left d r) = sym r ∙ listed_above d

  listed_above : {a b : Expression} → Above Lists a b → listed_here b ≡ listed a
  listed_above (trav.Above.leaf h) = leaf _ h
  listed_above (trav.Above.seq d e) = ap₂ listed_sequence (listed_bottom_up d) (listed_bottom_up e)
  listed_above (trav.Above.choice d e) = ap₂ Choice (listed_bottom_up d) (listed_bottom_up e)
  listed_above (trav.Above.pos_pred d) = ap PosPred (listed_bottom_up d)
  listed_above (trav.Above.neg_pred d) = ap NegPred (listed_bottom_up d)
  listed_above (trav.Above.opt d) = ap Opt (listed_bottom_up d)
  listed_above (trav.Above.rep d) = ap Rep (listed_bottom_up d)
  listed_above (trav.Above.rep_once d) = ap RepOnce (listed_bottom_up d)
  listed_above (trav.Above.rep_exact {i = i} d) = ap (λ x. RepExact x i) (listed_bottom_up d)
  listed_above (trav.Above.rep_min {i = i} d) = ap (λ x. RepMin x i) (listed_bottom_up d)
  listed_above (trav.Above.rep_max {i = i} d) = ap (λ x. RepMax x i) (listed_bottom_up d)
  listed_above (trav.Above.rep_min_max {i = i} {j = j} d) = ap (λ x. RepMinMax x i j) (listed_bottom_up d)
  listed_above (trav.Above.push d) = ap Push (listed_bottom_up d)
  listed_above (trav.Above.tag {t = t} d) = ap (λ x. NodeTag x t) (listed_bottom_up d)

-- such rules run in a mode in which nothing is skipped
mode_of : (type : RuleType) (blank : Bool) (m : Mode) → SkipsNothing type → (mode_in type blank m ≡ AtomicMode) ⊎ (mode_in type blank m ≡ CompoundAtomicMode)
mode_of Normal blank m h = absurd h
mode_of Silent blank m h = absurd h
mode_of Atomic blank m h = inl refl
mode_of CompoundAtomic blank m h = inr refl
mode_of NonAtomic blank m h = absurd h

pub keeps_matches : (type : RuleType) (body other : Expression) → other ≡ listed body → KeepsMatches type body other
keeps_matches type body other h g classes x y blank m s t us n i j d =
    subst (λ (e : Expression). Matches g classes e (mode_in type blank m) s (Success t us))
    (sym (h ∙ ap listed i))
    (listing_keeps g classes x y (mode_in type blank m) s t us (mode_of type blank m n) j
    (subst (λ (e : Expression). Matches g classes e (mode_in type blank m) s (Success t us)) i d))
