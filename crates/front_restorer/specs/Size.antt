-- The size of an expression.
use Rattle.std.specs.Prelude.{ℕ, ◌+◌}
use Rattle.base_language.specs.Language.Expression.{Expression, PosPred, NegPred, Seq, Choice, Opt, Rep, RepOnce, Push, RestoreOnErr, NodeTag}

-- the number of nodes of an expression without counted repetitions
abbrev pub size : Expression → ℕ
size (PosPred e) = size e + 1
size (NegPred e) = size e + 1
size (Seq a b) = size a + size b + 1
size (Choice a b) = size a + size b + 1
size (Opt e) = size e + 1
size (Rep e) = size e + 1
size (RepOnce e) = size e + 1
size (Push e) = size e + 1
size (NodeTag e t) = size e + 1
size (RestoreOnErr e) = size e + 1
size _ = 1
