use Rattle.std.proofs.Common.{ap}
use Rattle.std.specs.Str.{chars}
use Rattle.std.proofs.lemmas.Map.Text.{hash_map_updates_text}
use Rattle.base_ast.specs.Ast.{rule_of_code}
use Rattle.front_optimizer.proofs.Holding.{one_more_body}
use Rattle.front_optimizer.proofs.bodies.add_body.Goals as goal

pub returns-in-Ok-None : goal.returns-in-Ok-None
returns-in-Ok-None c = λ g h.
    one_more_body c.args.bodies.now c.insert.new.self g (rule_of_code c.args.rule.now) c.in_ok-name.name c.in_ok-body.body h
    (λ bs. hash_map_updates_text _ c.args.bodies.now c.insert.new.self _ c.in-Ok-None.ensures.updates bs) c.in_ok-body.ensures.cases (ap chars c.in_ok-name.ensures.cases)

pub returns-in-Ok-Some : goal.returns-in-Ok-Some
returns-in-Ok-Some c = λ g h.
    one_more_body c.args.bodies.now c.insert.new.self g (rule_of_code c.args.rule.now) c.in_ok-name.name c.in_ok-body.body h
    (λ bs. hash_map_updates_text _ c.args.bodies.now c.insert.new.self _ c.in-Ok-Some.ensures.updates bs) c.in_ok-body.ensures.cases (ap chars c.in_ok-name.ensures.cases)
