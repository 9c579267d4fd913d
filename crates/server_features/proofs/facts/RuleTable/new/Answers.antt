use Rattle.server_features.proofs.Knowing.{tabled}
use Rattle.server_features.proofs.facts.RuleTable.new.Goals as goal

pub returns : goal.returns
returns c = tabled c.in_ok-analysis.analysis c.args.rules.now c.in_ok-starts.starts c.in_ok-analysis.ensures.right c.in_ok-analysis.ensures.rules
