-- How far the rotations of an expression are from their end.
use Rattle.std.specs.Prelude.{ℕ, ◌+◌, ◌*◌}
use Rattle.base_language.specs.Language.Expression.{Expression, PosPred, NegPred, Seq, Choice, Opt, Rep, RepOnce, RepExact, RepMin, RepMax, RepMinMax, Push, NodeTag, RestoreOnErr}

-- the size, in which left sides count double: rotations make an expression lighter
abbrev pub weight : Expression → ℕ
weight (PosPred e) = weight e + 1
weight (NegPred e) = weight e + 1
weight (Seq a b) = 2 * weight a + weight b + 1
weight (Choice a b) = 2 * weight a + weight b + 1
weight (Opt e) = weight e + 1
weight (Rep e) = weight e + 1
weight (RepOnce e) = weight e + 1
weight (RepExact e n) = weight e + 1
weight (RepMin e m) = weight e + 1
weight (RepMax e n) = weight e + 1
weight (RepMinMax e m n) = weight e + 1
weight (Push e) = weight e + 1
weight (NodeTag e t) = weight e + 1
weight (RestoreOnErr e) = weight e + 1
weight _ = 1
