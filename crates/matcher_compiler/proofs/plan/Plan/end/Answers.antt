use Rattle.matcher_compiler.proofs.Growing.{later_twice}
use Rattle.matcher_code.specs.Laid as lay
use Rattle.matcher_code.specs.Failures.{end_failures}
use Rattle.matcher_code.proofs.Ends.{end_performs}
use Rattle.base_language.specs.Language.Matching.{end_outcome}
use Rattle.matcher_sets.proofs.Leaves.{end_outcome_of}
use Rattle.matcher_compiler.proofs.Calling.{end_number, leaf_rule, miss_rule}
use Rattle.matcher_sets.specs.Modes.{mode_of}
use Rattle.matcher_compiler.specs.Names.{number_in}
use Rattle.matcher_sets.specs.Forms.{grammar_in}
use Rattle.matcher_compiler.proofs.plan.Plan.end.Goals as goal

pub returns-clause-later : goal.returns-clause-later
returns-clause-later c = later_twice c.args.program.now _ _ _ (later_twice c.args.program.now _ _ _ (c.in_ok-operation.ensures.later c.args.program.now) (c.in_ok-operation-2.ensures.later c.args.program.now)) (c.in_ok-operation-3.ensures.later c.args.program.now)

pub returns-clause-lays : goal.returns-clause-lays
returns-clause-lays c = λ classes fits code laid m.
    let m2 = (c.in_ok-operation-3.ensures.later c.args.program.now).met code laid m in
    let m1 = (c.in_ok-operation-2.ensures.later c.args.program.now).met code laid m2 in
    lay.leaf (λ s. end_outcome (mode_of c.args.at.mode) s.rest s) (λ place s. end_failures place s (end_outcome (mode_of c.args.at.mode) s.rest s))
    (end_outcome_of c.args.program.now classes c.args.at.mode c.requires.bound c.requires.seen)
    (end_performs code (number_in (grammar_in c.args.program.now)) m.fail (mode_of c.args.at.mode) c.args.at.label c.args.at.next c.args.at.on_fail _ _ c.requires.seen
    (c.in_ok-operation.ensures.met c.args.program.now code laid m1)
    (leaf_rule code _ (end_number c.args.program.now _ c.requires.bound c.end_rule-rule.ensures) (c.in_ok-operation-2.ensures.met c.args.program.now code laid m2))
    (miss_rule code _ (end_number c.args.program.now _ c.requires.bound c.end_rule-rule.ensures) (c.in_ok-operation-3.ensures.met c.args.program.now code laid m)))
