use Rattle.base_ast.specs.Ast.{rules_of}
use Rattle.front_spanned.specs.Nodes.{rule_views}
use Rattle.pest_meta.proofs.Spelled.{optimized_answer, optimized_spans}
use Rattle.pest_meta.proofs.spanned.optimize_with_spans.Goals as goal

pub returns-clause-rules : goal.returns-clause-rules
returns-clause-rules c =
    optimized_spans (rule_views c.args.rules.items) (rules_of c.in_ok-plain.plain.items) c.optimize.result c.in_ok-plain.ensures c.optimize.ensures.rules

pub returns-clause-answer : goal.returns-clause-answer
returns-clause-answer c =
    optimized_answer (rule_views c.args.rules.items) c.optimize.result (returns-clause-rules c)
