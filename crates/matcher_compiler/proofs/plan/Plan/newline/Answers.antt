use Rattle.matcher_code.specs.Failures.{in_silence}
use Rattle.matcher_code.specs.Laid as lay
use Rattle.matcher_code.proofs.Newlines.{newline_performs}
use Rattle.base_language.specs.Language.Matching.{newline_outcome}
use Rattle.matcher_compiler.proofs.Growing.{later_twice}
use Rattle.matcher_sets.proofs.Leaves.{newline_outcome_of}
use Rattle.matcher_compiler.specs.Names.{number_in}
use Rattle.matcher_sets.specs.Forms.{grammar_in}
use Rattle.matcher_compiler.proofs.plan.Plan.newline.Goals as goal

pub returns-clause-later : goal.returns-clause-later
returns-clause-later c =
    let p = c.args.program.now in
    later_twice p _ _ _ (later_twice p _ _ _ (c.in_ok-text_at.ensures.later p) (c.in_ok-text_at-2.ensures.later p)) (c.in_ok-text_at-3.ensures.later p)

pub returns-clause-lays : goal.returns-clause-lays
returns-clause-lays c = λ classes fits code laid m.
    let p = c.args.program.now in
    let m2 = (c.in_ok-text_at-3.ensures.later p).met code laid m in
    let m1 = (c.in_ok-text_at-2.ensures.later p).met code laid m2 in
    lay.leaf newline_outcome in_silence (newline_outcome_of p classes c.args.at.mode c.requires.bound)
    (newline_performs code (number_in (grammar_in p)) m.fail c.args.at.label _ _ c.args.at.next c.args.at.on_fail
    (c.in_ok-text_at.ensures.has p code laid m1) (c.in_ok-text_at-2.ensures.has p code laid m2) (c.in_ok-text_at-3.ensures.has p code laid m))
