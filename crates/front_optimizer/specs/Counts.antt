-- Which rules have readable counts.
use Rattle.std.specs.Prelude.{⊤, ◌<◌}
use Rattle.base_language.specs.Language.Expression.{Expression, PosPred, NegPred, Seq, Choice, Opt, Rep, RepOnce, RepExact, RepMin, RepMax, RepMinMax, Push, RestoreOnErr, Part, NodeTag}
use Rattle.base_language.specs.Language.WellFormed.{CountIsReadable}

-- nothing in it may be repeated 0 times at most
abbrev pub CountsAreReadable : Expression → Type 0
CountsAreReadable e = (p : Expression) → Part e p → CountIsReadable p

-- the property of an expression, defined from its parts
abbrev pub PartsAreReadable : Expression → Type 0
PartsAreReadable (RepExact e i) = (0 < i) × PartsAreReadable e
PartsAreReadable (RepMax e i) = (0 < i) × PartsAreReadable e
PartsAreReadable (RepMinMax e i j) = (0 < j) × PartsAreReadable e
PartsAreReadable (PosPred e) = PartsAreReadable e
PartsAreReadable (NegPred e) = PartsAreReadable e
PartsAreReadable (Seq a b) = PartsAreReadable a × PartsAreReadable b
PartsAreReadable (Choice a b) = PartsAreReadable a × PartsAreReadable b
PartsAreReadable (Opt e) = PartsAreReadable e
PartsAreReadable (Rep e) = PartsAreReadable e
PartsAreReadable (RepOnce e) = PartsAreReadable e
PartsAreReadable (RepMin e i) = PartsAreReadable e
PartsAreReadable (Push e) = PartsAreReadable e
PartsAreReadable (NodeTag e t) = PartsAreReadable e
PartsAreReadable (RestoreOnErr e) = PartsAreReadable e
PartsAreReadable _ = ⊤

-- an expression is neither `~` nor `|`
abbrev pub IsNoPair : Expression → Type 0
IsNoPair (Seq a b) = ⊥
IsNoPair (Choice a b) = ⊥
IsNoPair _ = ⊤
