use Rattle.std.proofs.Common.{◌+◌}
use Rattle.front_spanned.specs.Nodes.{rule_views}
use Rattle.front_analysis.specs.Nodes.{all_nodes}
use Rattle.front_validator.specs.Searching.{cost, unentered, IsGoing}
use Rattle.front_validator.proofs.recursions.run_walk.Given as goal

abbrev pub invariant-loop-task : goal.invariant-loop-task
invariant-loop-task l = IsGoing l.guide.rules.now l.guide.facts.now.table.roots.items l.start l.walk.entered.all.items l.walk.tasks.items l.walk.trail.items

abbrev pub decreases-loop-task : goal.decreases-loop-task
decreases-loop-task l = cost (all_nodes l.guide.rules.now) l.walk.tasks.items + unentered l.walk.entered.all.items (rule_views l.guide.rules.now)
