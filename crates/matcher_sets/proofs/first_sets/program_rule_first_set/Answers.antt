use Rattle.std.proofs.Common.{sym, ◌∙◌}
use Rattle.matcher_sets.specs.Modes.{mode_of}
use Rattle.matcher_sets.proofs.Heading.{call_first_set, if_made, program_rule_has}
use Rattle.matcher_sets.proofs.Rules.{made, meant_is}
use Rattle.matcher_sets.proofs.first_sets.program_rule_first_set.Goals as goal

pub returns-in-Some : goal.returns-in-Some
returns-in-Some c =
    let p = c.args.program.now in
    let m = mode_of c.args.mode in
    let r = c.requires in
    let body = program_rule_has p c.args.rule c.args.program_rule.now r.within r.is r.sound m (mode_of c.body_mode-inner.result) c.body_mode-inner.ensures
    c.first_sets_in-known.result.now (c.first_sets_in-known.ensures p r.first_sets) c.in-Some.body.now c.in-Some.ensures in
    if_made c.called_first_set.result
    (λ first_set is. call_first_set p m _ (made p c.args.rule c.args.program_rule.now r.within r.is) c.in-Some.body.now first_set c.is_counted-counts.result
    (meant_is p c.args.rule c.args.program_rule.now r.within r.is r.meant) c.is_counted-counts.ensures
    (c.is_counted-counts.ensures ∙ sym (c.is_uncounted.ensures c.if-is_uncounted.false)) body is) c.called_first_set.ensures
