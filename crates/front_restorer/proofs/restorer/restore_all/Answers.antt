use Rattle.std.proofs.Common.{◌≡◌, ◌∙◌, Some, ap, sym, suc, arith, drop, ◌<◌, length, rules, slice_get, get_or, ◌∷◌}
use Rattle.std.proofs.Math.Seq.{drop-cons}
use Rattle.std.proofs.lemmas.Option.{slice_get-get_or}
use Rattle.base_ast.specs.Optimized.{optimized_rule_of}
use Rattle.front_restorer.specs.Restoring.{restored_rule_by}
use Rattle.front_restorer.specs.KnownChanges.{changes_stack}
use Rattle.front_restorer.proofs.Looking.{noted_at, noted_within, next_of}
use Rattle.front_restorer.proofs.Restoring.{one_more_restored}
use Rattle.front_restorer.proofs.restorer.restore_all.Goals as goal

pub restore_rule-requires : goal.restore_rule-requires
restore_rule-requires c =
    let rs = c.args.rules.now in
    let names = c.args.changes.now.names in
    let noted = c.args.changes.now.noted in
    let n = c.loop-place.place in
    let rule = get_or c.loop-place.rules n c.index-rules-place.result in
    let inside_rules : n < length c.loop-place.rules = omega arith in
    let front : drop n rs ≡ rule ∷ drop (suc n) c.loop-place.rules = sym c.loop-place.invariant.others ∙ drop-cons c.loop-place.rules n c.index-rules-place.result inside_rules in
    let at = (next_of rs n rule (drop (suc n) c.loop-place.rules) front).0 in
    let within = noted_within names rs noted n rule c.requires at in
    let inside : n < length noted.shares.items = omega arith in
    let same : c.index.result.now ≡ get_or noted.shares.items n c.index.result.now = search rules in
    let here : slice_get noted.shares.items n ≡ Some c.index.result.now = slice_get-get_or noted.shares.items n c.index.result.now inside ∙ ap Some (sym same) in
    noted_at names rs noted n rule c.index.result.now c.requires at here

pub loop-place-preserved : goal.loop-place-preserved
loop-place-preserved c =
    let n = c.loop-place.place in
    let d = c.index-rules-place.result in
    let whole : optimized_rule_of c.restore_rule.new.rule ≡ restored_rule_by (changes_stack c.args.changes.now) (optimized_rule_of (get_or c.loop-place.rules n d)) = c.in_ok-restore_rule.ensures.whole in
    let inside : n < length c.loop-place.rules = omega arith in
    let more = one_more_restored (changes_stack c.args.changes.now) c.args.rules.now c.loop-place.rules n d c.restore_rule.new.rule inside c.loop-place.invariant.made c.loop-place.invariant.others whole in
    record { made = more.0; others = more.1 }
