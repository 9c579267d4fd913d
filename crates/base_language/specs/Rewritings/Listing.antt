-- The listing.
use Rattle.std.specs.Prelude.{◌≡◌, ◌⊎◌, if◌then◌else◌}
use Rattle.base_language.specs.Language.Expression.{Expression, PosPred, NegPred, Seq, Choice, Opt, Rep, RepOnce, RepExact, RepMin, RepMax, RepMinMax, Push, NodeTag, RestoreOnErr, Grammar}
use Rattle.base_language.specs.Language.State.{AtomicMode, Classes, CompoundAtomicMode, Mode, State, Success, Trees}
use Rattle.base_language.specs.Language.Meaning.{Matches}
use Rattle.base_language.specs.Rewritings.Rewriting.{EachBody}
use Rattle.base_language.specs.Rewritings.Equality.{expression_eq}

-- `(x ~ y)* ~ x` becomes `x ~ (y ~ x)*`, and any other sequence stays
abbrev pub listed_sequence : Expression → Expression → Expression
listed_sequence (Rep (Seq x y)) z = if expression_eq x z then Seq x (Rep (Seq y x)) else Seq (Rep (Seq x y)) z
listed_sequence a b = Seq a b

-- the subexpressions are listed first, and then each sequence
abbrev pub listed : Expression → Expression
listed (PosPred e) = PosPred (listed e)
listed (NegPred e) = NegPred (listed e)
listed (Seq a b) = listed_sequence (listed a) (listed b)
listed (Choice a b) = Choice (listed a) (listed b)
listed (Opt e) = Opt (listed e)
listed (Rep e) = Rep (listed e)
listed (RepOnce e) = RepOnce (listed e)
listed (RepExact e i) = RepExact (listed e) i
listed (RepMin e i) = RepMin (listed e) i
listed (RepMax e i) = RepMax (listed e) i
listed (RepMinMax e i j) = RepMinMax (listed e) i j
listed (Push e) = Push (listed e)
listed (NodeTag e t) = NodeTag (listed e) t
listed (RestoreOnErr e) = RestoreOnErr (listed e)
listed e = e

-- every body is listed; names, types and order stay
abbrev pub EachListed : Grammar → Grammar → Type 0
EachListed = EachBody (λ y a b. b ≡ listed a)

-- in Atomic and CompoundAtomic, the listing of `(x ~ y)* ~ x` matches what that matches, if there is
-- nothing to list within it
abbrev pub ListingKeeps : Type 0
ListingKeeps = (g : Grammar) (classes : Classes) (x y : Expression) (m : Mode) (s t : State) (us : Trees)
    → (m ≡ AtomicMode) ⊎ (m ≡ CompoundAtomicMode)
    → listed (Seq x y) ≡ Seq x y
    → Matches g classes (Seq (Rep (Seq x y)) x) m s (Success t us)
    → Matches g classes (listed (Seq (Rep (Seq x y)) x)) m s (Success t us)
