use Rattle.lint_warnings.proofs.Suspicious.{no_unmatchable_succeeds}
use Rattle.lint_warnings.proofs.laws.unmatchable_nodes_match_nothing.Goals as goal

pub returns : goal.returns
returns c = λ x h g no_any classes m of_rule text s t us st d. no_unmatchable_succeeds g classes m of_rule no_any text x h s t us st d
