use Rattle.std.proofs.Common.{rules, subst}
use Rattle.std.proofs.lemmas.List.{take_all}
use Rattle.std.proofs.lemmas.List.Elements.{All-more}
use Rattle.front_restorer.specs.Restoring.{IsQuiet, AreQuiet}
use Rattle.front_restorer.proofs.restorer.is_any_changing.Goals as goal

pub loop-rule-preserved : goal.loop-rule-preserved
loop-rule-preserved c =
    let quiet : IsQuiet c.rule-item.result = search rules in
    All-more IsQuiet _ _ c.rule-item.result c.loop-rule-test.true c.loop-rule.invariant (rw (← c.rule-item.is) quiet)

pub returns : goal.returns
returns c =
    let whole = take_all c.loop-rule.rule-index c.args.rules.now c.loop-rule-test.false in
    λ _. subst AreQuiet whole c.loop-rule.invariant
