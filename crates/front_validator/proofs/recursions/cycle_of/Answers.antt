use Rattle.std.proofs.Common.{◌∙◌, ◌++◌, ◌∷◌, [], ℕ, ap, ap₂, append-nil, flat_map, get_or, slice_get, string_bytes, sym, take}
use Rattle.std.specs.List.{join_by}
use Rattle.std.proofs.lemmas.Grind.{flat_map-append}
use Rattle.std.proofs.lemmas.List.{take_all, take_more}
use Rattle.std.proofs.lemmas.List.Concat.{flat_map-cons}
use Rattle.front_names.specs.Messages.{arrow}
use Rattle.front_spanned.specs.Nodes.{rule_views}
use Rattle.front_validator.specs.LeftRecursion.{arrows, name_at}
use Rattle.front_validator.proofs.CycleLemmas.{arrowed, join_cycle, one_arrowed}
use Rattle.front_validator.proofs.recursions.cycle_of.Goals as goal

pub loop-rule-preserved : goal.loop-rule-preserved
loop-rule-preserved c =
    let views = rule_views c.args.rules.now in
    let i = c.loop-rule.rule-index in
    let trail = c.args.trail.now in
    let named = λ (k : ℕ). name_at (slice_get views k) ++ arrow in
    let rule = get_or trail i 0 in
    ap arrowed c.in_ok-push.ensures.items ∙ one_arrowed c.loop-rule.names.items c.in_ok-name.name
    ∙ ap₂ (λ a b. a ++ (b ++ arrow)) c.loop-rule.invariant (c.in_ok-name.ensures.ok ∙ c.name_of.ensures)
    ∙ sym (ap (λ l. flat_map named l) (take_more trail i 0 c.loop-rule-test.true) ∙ flat_map-append named (take i trail) (rule ∷ [])
    ∙ ap (λ z. arrows views (take i trail) ++ z) (flat_map-cons named rule [] ∙ append-nil (named rule)))

pub returns : goal.returns
returns c =
    let views = rule_views c.args.rules.now in
    let trail = c.args.trail.now in
    ap (join_by string_bytes arrow) c.in_ok-push-2.ensures.items ∙ join_cycle c.loop-rule.names.items c.in_ok-last.last
    ∙ ap₂ (λ a b. a ++ b) (c.loop-rule.invariant ∙ ap (arrows views) (take_all c.loop-rule.rule-index trail c.loop-rule-test.false)) c.in_ok-last.ensures.ok
