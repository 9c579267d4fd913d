use Rattle.std.proofs.Common.{◌∙◌, map, ap, arith, length, ◌≤◌}
use Rattle.std.proofs.lemmas.List.{take_all}
use Rattle.front_restorer.specs.Bodies.{named_body}
use Rattle.front_restorer.proofs.bodies.bodies_of_rules.Goals as goal

pub returns : goal.returns
returns c =
    let end : length c.args.rules.now ≤ c.loop-rule.rule-index = omega arith in
    c.loop-rule.invariant ∙ ap (map named_body) (take_all c.loop-rule.rule-index c.args.rules.now end)
