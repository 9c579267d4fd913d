use Rattle.std.proofs.Common.{◌∷◌, ◌∙◌, ap, false, subst, sym}
use Rattle.matcher_engine.specs.Walks.{Leaves, visited_of}
use Rattle.pest_test.specs.Walking.{Follows}
use Rattle.pest_test.specs.Walking.Follows.{leaves_end}
use Rattle.pest_test.proofs.Following.{leaves_first}
use Rattle.pest_test.proofs.agreement.leave.Goals as goal

pub returns-then-progress : goal.returns-then-progress
returns-then-progress c = λ text.
    let v = visited_of c.args.tree.now in
    let es = c.args.progress.rest.now in
    subst (λ b. Follows text es b (Leaves v) es false) (sym c.if-progress.true) (leaves_end v es)

pub returns-in-Some-Leave-default : goal.returns-in-Some-Leave-default
returns-in-Some-Leave-default c = λ text.
    let it = c.in-Some-Leave-default in
    let split = rw it.is at c.split_first.ensures.cases in
    leaves_first text (visited_of c.args.tree.now) c.args.progress.rest.now it.rest.now _ c.if-progress.false
    (split.0 ∙ ap (λ e. e ∷ it.rest.now) it.field-0-0-is)
