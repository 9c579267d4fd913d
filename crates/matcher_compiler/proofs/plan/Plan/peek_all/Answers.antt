use Rattle.std.proofs.Common.{nat_eq}
use Rattle.base_language.specs.Language.Matching.{concatenated, text_outcome}
use Rattle.matcher_code.specs.Failures.{in_silence}
use Rattle.matcher_code.specs.Laid as lay
use Rattle.matcher_code.proofs.StackReads.{peek_all_performs}
use Rattle.matcher_sets.specs.Forms.{grammar_in}
use Rattle.matcher_compiler.specs.Names.{number_in}
use Rattle.matcher_compiler.proofs.Reading.{peek_all_has}
use Rattle.matcher_compiler.proofs.plan.Plan.peek_all.Goals as goal

pub returns-clause-later : goal.returns-clause-later
returns-clause-later c = c.in_ok-operation.ensures.later c.args.program.now

pub returns-clause-lays : goal.returns-clause-lays
returns-clause-lays c = λ classes fits code laid m.
    lay.leaf (λ s. text_outcome nat_eq (concatenated s.stack) s) in_silence (peek_all_has c.args.program.now classes c.args.at.mode c.requires.bound)
    (peek_all_performs code (number_in (grammar_in c.args.program.now)) m.fail c.args.at.label c.args.at.next c.args.at.on_fail (c.in_ok-operation.ensures.met c.args.program.now code laid m))
