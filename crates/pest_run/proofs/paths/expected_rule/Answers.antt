use Rattle.std.proofs.Common.{◌∙◌, ap, sym}
use Rattle.pest_run.specs.Paths.{expected_rule}
use Rattle.pest_run.proofs.PathTexts.{last_rule_index}
use Rattle.pest_run.proofs.paths.expected_rule.Goals as goal

pub returns-in-Some : goal.returns-in-Some
returns-in-Some c = sym (ap expected_rule c.in-Some.ensures.cases.0 ∙ last_rule_index c.in-Some.field-0-1.now c.in-Some.call.now)
