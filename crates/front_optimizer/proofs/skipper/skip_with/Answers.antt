use Rattle.base_language.specs.Language.Expression.{Grammar}
use Rattle.base_language.specs.Rewritings.Rewriting.{Many, SkipsUntil, done}
use Rattle.base_language.proofs.StepsKeepOutcomes.{keeps}
use Rattle.base_ast.specs.Ast.{expression_of, rule_of_code, rule_type_of}
use Rattle.front_optimizer.specs.Bodies.{HoldsBodies, SkippedHere}
use Rattle.front_optimizer.proofs.Skipping.{mapped, all_done, reached, nothing_done, chained}
use Rattle.front_optimizer.proofs.skipper.skip_with.Goals as goal

pub returns-in_ok-expr-in-Atomic-clause-done : goal.returns-in_ok-expr-in-Atomic-clause-done
returns-in_ok-expr-in-Atomic-clause-done c = λ t g h. rw c.in-Atomic.is (all_done g (mapped _ (SkippedHere g) (λ a b f. f g (h, t g h)) c.in_ok-expr-in-Atomic.ensures))

pub returns-in_ok-expr-in-Atomic-clause-chain : goal.returns-in_ok-expr-in-Atomic-clause-chain
returns-in_ok-expr-in-Atomic-clause-chain c = λ t before after h.
    let steps : (g : Grammar) → HoldsBodies c.args.bodies.now g → Many (SkipsUntil g (rule_type_of c.args.rule.ty)) (expression_of c.args.rule.expr) (expression_of c.in_ok-expr-in-Atomic.expr) =
    λ g h. rw c.in-Atomic.is (reached g (mapped _ (SkippedHere g) (λ a b f. f g (h, t g h)) c.in_ok-expr-in-Atomic.ensures)) in
    chained (rule_of_code c.args.rule) _ before after (steps _ h)

pub returns-in_ok-expr-in-Atomic-clause-outcomes : goal.returns-in_ok-expr-in-Atomic-clause-outcomes
returns-in_ok-expr-in-Atomic-clause-outcomes c = λ t before after h free.
    let steps : (g : Grammar) → HoldsBodies c.args.bodies.now g → Many (SkipsUntil g (rule_type_of c.args.rule.ty)) (expression_of c.args.rule.expr) (expression_of c.in_ok-expr-in-Atomic.expr) =
    λ g h. rw c.in-Atomic.is (reached g (mapped _ (SkippedHere g) (λ a b f. f g (h, t g h)) c.in_ok-expr-in-Atomic.ensures)) in
    keeps _ _ free (chained (rule_of_code c.args.rule) _ before after (steps _ h))

pub returns-in_default-clause-done : goal.returns-in_default-clause-done
returns-in_default-clause-done c = λ t g h. nothing_done g c.args.rule.ty (expression_of c.args.rule.expr) c.in_default.not-Atomic

pub returns-in_default-clause-chain : goal.returns-in_default-clause-chain
returns-in_default-clause-chain c = λ t before after h. done

pub returns-in_default-clause-outcomes : goal.returns-in_default-clause-outcomes
returns-in_default-clause-outcomes c = λ t before after h free. keeps _ _ free done
