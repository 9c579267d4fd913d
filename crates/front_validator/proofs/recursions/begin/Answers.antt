use Rattle.std.proofs.Common.{◌≡◌, ◌∙◌, ◌++◌, ◌∷◌, [], true, ap, sym, subst, length, slice_get, Some}
use Rattle.std.proofs.Math.ListN.{set}
use Rattle.std.specs.Option.{option_map}
use Rattle.std.proofs.lemmas.Option.{slice_get-map}
use Rattle.base_graphs.proofs.LeastLemmas.{item_at}
use Rattle.front_spanned.specs.Nodes.{rule_view, rule_views}
use Rattle.front_validator.specs.Searching.{IsGoing}
use Rattle.front_validator.specs.declared.recursions.Task.TheVariants.{Visit, Leave}
use Rattle.front_validator.proofs.WalkSteps.{begun_going}
use Rattle.front_validator.proofs.recursions.begin.Goals as goal

pub returns : goal.returns
returns c =
    let rs = c.args.guide.rules.now in
    let facts = c.args.guide.facts.now in
    let roots = facts.table.roots.items in
    let start = c.args.start in
    let root = c.root_at-root.result in
    let old = c.args.walk.now in
    let idle = c.requires.idle in
    let flags = old.entered.all.items in
    let long : length flags ≡ length roots = idle.alike ∙ sym c.requires.guide.facts.table.alike in
    let (rule, at) = item_at rs start c.requires.inside in
    let here : slice_get (rule_views rs) start ≡ Some (rule_view rule) = slice_get-map rule_view rs start ∙ ap (option_map rule_view) at in
    let going = begun_going rs facts c.requires.guide.facts start root (rule_view rule) flags long idle.entered here (c.requires.last (rule_view rule) here) c.root_at-root.ensures in
    let new = c.enter_rule.new.walk in
    let told = c.in_ok-enter_rule.ensures in
    subst (λ z. IsGoing rs roots start z new.tasks.items new.trail.items) (sym told.entered)
    (subst (λ z. IsGoing rs roots start (set flags start true) z new.trail.items) (sym (told.tasks ∙ ap (λ z. (z ++ Leave ∷ []) ++ Visit root ∷ []) idle.tasks))
    (subst (λ z. IsGoing rs roots start (set flags start true) (([] ++ Leave ∷ []) ++ Visit root ∷ []) z) (sym (told.trail ∙ ap (λ z. z ++ start ∷ []) idle.trail)) going))
