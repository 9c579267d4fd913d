use Rattle.std.proofs.Common.{◌∙◌, [], false, refl, subst}
use Rattle.matcher_code.specs.Failures.{in_silence}
use Rattle.matcher_code.specs.Laid as lay
use Rattle.matcher_code.specs.Laid.{skip_set}
use Rattle.matcher_compiler.proofs.Skipping.{no_comments}
use Rattle.matcher_sets.proofs.Leaves.{all_as}
use Rattle.matcher_compiler.specs.Names.{number_in}
use Rattle.matcher_compiler.specs.Plans.{SkipsAs}
use Rattle.matcher_sets.specs.Forms.{grammar_in}
use Rattle.matcher_compiler.proofs.plan.Plan.no_comments.Goals as goal

pub returns-clause-later : goal.returns-clause-later
returns-clause-later c = c.in_ok-operation.ensures.later c.args.program.now

pub returns-clause-lays : goal.returns-clause-lays
returns-clause-lays c = λ classes fits code laid m.
    let p = c.args.program.now in
    let r = subst (λ x. SkipsAs p c.args.self.now.sets x) c.in-Calls.is c.requires.ready in
    let m0 = (c.in_ok-operation.ensures.later p).met code laid m in
    lay.leaf (skip_set (λ x. false)) in_silence (no_comments (grammar_in p) classes c.requires.none)
    (all_as [] (λ x. false) (λ x l. refl) code (number_in (grammar_in p)) m.fail c.in-Calls.set (λ x bs h u. m0.sets c.in-Calls.set x bs r.within h ∙ r.is x bs h u)
    c.args.at.label c.args.at.next c.args.at.on_fail (c.in_ok-operation.ensures.met p code laid m))
