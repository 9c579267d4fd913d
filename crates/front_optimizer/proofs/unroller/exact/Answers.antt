use Rattle.std.proofs.Common.{ap, ◌∙◌, []}
use Rattle.std.proofs.lemmas.Str.{chars-nil}
use Rattle.base_language.specs.Language.Expression.{Str}
use Rattle.front_optimizer.proofs.Carried.{carried}
use Rattle.front_optimizer.proofs.Unrolling.{exactly_copies, one_alone}
use Rattle.front_optimizer.proofs.unroller.exact.Goals as goal

pub returns-then-count-eq0 : goal.returns-then-count-eq0
returns-then-count-eq0 c = rw (c.if-count-eq0.true, c.new.ensures.bytes) (ap Str chars-nil)

pub returns-then-count-eq1 : goal.returns-then-count-eq1
returns-then-count-eq1 c = rw c.into_inner.ensures (one_alone _ _ c.if-count-eq1.true)

pub returns : goal.returns
returns c = carried c.repeat_before.result (λ e h. h _ [] c.in_ok-last.ensures ∙ exactly_copies _ _ c.if-count-eq0.false) c.repeat_before.ensures
