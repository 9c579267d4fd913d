use Rattle.std.proofs.Common.{map, subst, sym}
use Rattle.base_ast.specs.Ast.{text_of}
use Rattle.matcher_compiler.proofs.Growing.{later_twice}
use Rattle.matcher_compiler.specs.Plans.{AreTexts}
use Rattle.matcher_compiler.proofs.plan.Plan.text_list.Goals as goal

pub returns-clause-later : goal.returns-clause-later
returns-clause-later c = λ p. later_twice p _ _ _ (c.in_ok-numbers.ensures.later p) (c.in_ok-list.ensures.later p)

pub returns-clause-means : goal.returns-clause-means
returns-clause-means c = λ p code laid m.
    let m1 = (c.in_ok-list.ensures.later p).met code laid m in
    subst (λ ns. AreTexts code ns (map text_of c.args.texts.now.items)) (sym (c.in_ok-list.ensures.means p code laid m)) (c.in_ok-numbers.ensures.means p code laid m1)
