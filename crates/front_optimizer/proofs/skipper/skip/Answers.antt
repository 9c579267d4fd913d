use Rattle.base_language.specs.Rewritings.Rewriting.{done}
use Rattle.front_optimizer.proofs.Turning.{nothing_to_do}
use Rattle.front_optimizer.proofs.skipper.skip.Goals as goal

pub returns-then-is_free-clause-done : goal.returns-then-is_free-clause-done
returns-then-is_free-clause-done c = λ g h.
    rw c.into_inner.ensures (nothing_to_do g c.args.rule.ty c.args.rule.expr (rw c.if-is_free.true at c.in_ok-is_free.ensures))

pub returns-then-is_free-clause-chain : goal.returns-then-is_free-clause-chain
returns-then-is_free-clause-chain c = λ before after h. rw c.into_inner.ensures done
