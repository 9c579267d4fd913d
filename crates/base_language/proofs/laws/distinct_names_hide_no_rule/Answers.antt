use Rattle.base_language.proofs.SomeRule.{in_rules, in_some_rule, names_readable}
use Rattle.base_language.proofs.laws.distinct_names_hide_no_rule.Goals as goal

pub returns-clause-parts : goal.returns-clause-parts
returns-clause-parts c = λ g p d. (in_rules g d, in_some_rule g)

pub returns-clause-counts : goal.returns-clause-counts
returns-clause-counts c = λ g d. (names_readable g, (λ k p i. k p (in_rules g d i)))
