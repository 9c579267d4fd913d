use Rattle.std.proofs.Common.{◌≡◌, ◌∙◌, replicate, ◌-◌, IfOk}
use Rattle.base_language.specs.Language.Expression.{Opt}
use Rattle.base_language.specs.Language.Meaning.{exactly}
use Rattle.base_ast.specs.Ast.{expression_of}
use Rattle.front_optimizer.proofs.Carried.{carried}
use Rattle.front_optimizer.proofs.Unrolling.{all_optional, few, more, first_optional}
use Rattle.front_optimizer.proofs.unroller.min_to_max.Goals as goal

pub returns-then-max-min : goal.returns-then-max-min
returns-then-max-min c = carried c.exact.result (λ e h. h ∙ few _ _ _ c.if-max-min.true) c.exact.ensures

pub returns-then-min-eq0 : goal.returns-then-min-eq0
returns-then-min-eq0 c =
    let x = expression_of c.args.expr.value in
    let optional : IfOk c.exact-then-min-eq0.result (λ e. expression_of e ≡ exactly (Opt x) c.args.max) = rw c.in_ok-make_optional.ensures at c.exact-then-min-eq0.ensures in
    carried c.exact-then-min-eq0.result (λ e h. h ∙ all_optional x c.args.min c.args.max c.if-min-eq0.true) optional

pub returns : goal.returns
returns c =
    let x = expression_of c.args.expr.value in
    let others : expression_of c.in_ok-others.others ≡ exactly (Opt (expression_of c.args.expr.value)) (c.args.max - c.args.min) = rw (c.in_ok-make_optional-2.ensures, c.in_ok-copy.ensures) at c.in_ok-others.ensures in
    carried c.repeat_before.result
    (λ e h. h (Opt x) (replicate (c.args.max - c.args.min - 1) (Opt x)) (others ∙ first_optional x c.args.min c.args.max c.if-max-min.false) ∙ more x c.args.min c.args.max c.if-max-min.false)
    c.repeat_before.ensures
