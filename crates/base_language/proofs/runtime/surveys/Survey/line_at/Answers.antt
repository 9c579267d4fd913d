use Rattle.std.proofs.Common.{◌∙◌}
use Rattle.base_language.proofs.Surveys.{known_line, same_line}
use Rattle.base_language.proofs.runtime.surveys.Survey.line_at.Goals as goal

pub returns-then-known-landmark-clause-line : goal.returns-then-known-landmark-clause-line
returns-then-known-landmark-clause-line c =
    let right = c.args.self.now.known_right c.in-Some.known c.in-Some.is in
    let same = known_line _ c.in-Some.known.landmark c.args.landmark right.landmark c.requires.landmark c.if-known-landmark.true in
    same_line c.clone.result c.in-Some.known.line _ c.clone.ensures.cases (right.line ∙ same)
