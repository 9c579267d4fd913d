-- Which expressions have no counted repetition.
use Rattle.std.specs.Prelude.{⊤, [], ◌∷◌}
use Rattle.base_language.specs.Language.Expression.{Expression, PosPred, NegPred, Seq, Choice, Opt, Rep, RepOnce, RepExact, RepMin, RepMax, RepMinMax, Push, RestoreOnErr, Grammar, NodeTag}

-- no part is a counted repetition
abbrev pub IsUnrolled : Expression → Type 0
IsUnrolled (RepExact e n) = ⊥
IsUnrolled (RepMin e m) = ⊥
IsUnrolled (RepMax e n) = ⊥
IsUnrolled (RepMinMax e m n) = ⊥
IsUnrolled (PosPred e) = IsUnrolled e
IsUnrolled (NegPred e) = IsUnrolled e
IsUnrolled (Seq a b) = IsUnrolled a × IsUnrolled b
IsUnrolled (Choice a b) = IsUnrolled a × IsUnrolled b
IsUnrolled (Opt e) = IsUnrolled e
IsUnrolled (Rep e) = IsUnrolled e
IsUnrolled (RepOnce e) = IsUnrolled e
IsUnrolled (Push e) = IsUnrolled e
IsUnrolled (NodeTag e t) = IsUnrolled e
IsUnrolled (RestoreOnErr e) = IsUnrolled e
IsUnrolled _ = ⊤

-- so are the bodies of all rules
abbrev pub AreUnrolled : Grammar → Type 0
AreUnrolled [] = ⊤
AreUnrolled (r ∷ rs) = IsUnrolled r.body × AreUnrolled rs
