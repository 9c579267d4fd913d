use Rattle.matcher_code.specs.Failures.{in_silence}
use Rattle.matcher_code.specs.Laid as lay
use Rattle.matcher_code.specs.Laid.{skip_set}
use Rattle.matcher_compiler.proofs.Growing.{later_twice}
use Rattle.matcher_sets.proofs.Leaves.{all_as}
use Rattle.matcher_compiler.specs.Names.{number_in}
use Rattle.matcher_sets.specs.Forms.{grammar_in}
use Rattle.matcher_compiler.proofs.plan.Plan.span.Goals as goal

pub returns-clause-later : goal.returns-clause-later
returns-clause-later c = λ p. later_twice p _ _ _ (c.in_ok-set.ensures.later p) (c.in_ok-operation.ensures.later p)

pub returns-clause-lays : goal.returns-clause-lays
returns-clause-lays c = λ p k takes classes fits code laid m.
    let m1 = (c.in_ok-operation.ensures.later p).met code laid m in
    let x = takes classes fits in
    lay.leaf (skip_set x.characters) in_silence x.takes
    (all_as c.args.ranges.items x.characters x.covers code (number_in (grammar_in p)) m.fail c.in_ok-set.set
    (c.in_ok-set.ensures.means p code laid m1) c.args.at.label c.args.at.next c.args.at.on_fail (c.in_ok-operation.ensures.met p code laid m))
