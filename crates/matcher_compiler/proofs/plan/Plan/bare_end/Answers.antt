use Rattle.matcher_code.specs.Failures.{in_silence}
use Rattle.matcher_code.specs.Laid as lay
use Rattle.matcher_code.proofs.Ends.{bare_end_performs}
use Rattle.base_language.specs.Language.Matching.{end_outcome}
use Rattle.base_language.specs.Language.State.{AtomicMode}
use Rattle.matcher_sets.proofs.Leaves.{bare_end_outcome}
use Rattle.matcher_compiler.specs.Names.{number_in}
use Rattle.matcher_sets.specs.Forms.{grammar_in}
use Rattle.matcher_compiler.proofs.plan.Plan.bare_end.Goals as goal

pub returns-clause-later : goal.returns-clause-later
returns-clause-later c = c.in_ok-operation.ensures.later c.args.program.now

pub returns-clause-lays : goal.returns-clause-lays
returns-clause-lays c = λ classes fits code laid m.
    lay.leaf (λ s. end_outcome AtomicMode s.rest s) in_silence (bare_end_outcome c.args.program.now classes c.args.at.mode c.requires.bound c.requires.unseen)
    (bare_end_performs code (number_in (grammar_in c.args.program.now)) m.fail c.args.at.label c.args.at.next c.args.at.on_fail (c.in_ok-operation.ensures.met c.args.program.now code laid m))
