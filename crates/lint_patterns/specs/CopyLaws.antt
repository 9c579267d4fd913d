-- The copies by the pass that writes counts out.
use Rattle.std.specs.Prelude.{◌≡◌, ℕ, ◌+◌, ◌*◌, ◌≤◌, [], Bool, if◌then◌else◌}
use Rattle.std.specs.List.{AllByRecursion}
use Rattle.base_language.specs.Language.Expression.{Expression, Str, PosPred, NegPred, Seq, Choice, Opt, Rep, RepOnce, RepExact, RepMin, RepMax, RepMinMax, Push, NodeTag, RestoreOnErr}
use Rattle.base_language.specs.Rewritings.Rewriting.{Many, Unrolls}
use Rattle.lint_patterns.specs.Copies.{crowded}
use Rattle.front_optimizer.specs.Unrolled.{IsUnrolled}
use Rattle.front_spanned.specs.Erasure.{without_spans}
use Rattle.front_spanned.specs.Spanned.{Span, Spanned, Unary, One}

-- the number of leaves of an expression that pass a test; the empty literal, as which `e{0}` is written, does
-- not count
abbrev pub leaves : (Expression → Bool) → Expression → ℕ
leaves p (PosPred e) = leaves p e
leaves p (NegPred e) = leaves p e
leaves p (Seq a b) = leaves p a + leaves p b
leaves p (Choice a b) = leaves p a + leaves p b
leaves p (Opt e) = leaves p e
leaves p (Rep e) = leaves p e
leaves p (RepOnce e) = leaves p e
leaves p (RepExact e n) = leaves p e
leaves p (RepMin e m) = leaves p e
leaves p (RepMax e n) = leaves p e
leaves p (RepMinMax e m n) = leaves p e
leaves p (Push e) = leaves p e
leaves p (NodeTag e t) = leaves p e
leaves p (RestoreOnErr e) = leaves p e
leaves p (Str []) = 0
leaves p e = if p e then 1 else 0

-- an expression with all counts written out
pub record IsWrittenOut (e f : Expression) : Type 0 where
  pub steps : Many Unrolls e f
  pub unrolled : IsUnrolled f

-- a node is a repetition; when all counts are written out, each leaf of what it repeats is there at least
-- 10,000 times as often in the whole body
pub record MakesMany (body x : Spanned) : Type 0 where
  pub span : Span
  pub sign : Unary
  pub operand : Spanned
  pub repeats : x ≡ One span sign operand
  pub often : (whole part : Expression) → IsWrittenOut (without_spans body) whole
      → IsWrittenOut (without_spans operand) part
      → (p : Expression → Bool) → 10000 * leaves p part ≤ leaves p whole

abbrev pub ManyAreMade : Type 0
ManyAreMade = (body : Spanned) → AllByRecursion (MakesMany body) (crowded 1 body)
