use Rattle.std.proofs.Common.{◌≡◌, ◌<◌, ◌+◌, ◌∙◌, sym, ap, subst, refl, rules, take, Some, slice_get, length, ◌∷◌, [], ◌++◌}
use Rattle.std.specs.List.{filter}
use Rattle.std.proofs.lemmas.List.{take_more}
use Rattle.std.proofs.lemmas.List.Elements.{filter-append}
use Rattle.std.proofs.lemmas.Option.{slice_get_read}
use Rattle.base_graphs.specs.Least.{is_set_at}
use Rattle.front_stack_loops.specs.Table.{nodes_of}
use Rattle.front_stack_loops.specs.Visiting.{FindsAll}
use Rattle.front_stack_loops.proofs.StaysApart.{movable}
use Rattle.front_stack_loops.proofs.Whole.{all_none}
use Rattle.front_stack_loops.proofs.repetitions.visit_all.Goals as goal

pub loop-rule-init : goal.loop-rule-init
loop-rule-init c = record {
  right = λ meaning h. c.in_ok-read_wanted.ensures meaning h (c.new-memory.ensures meaning (movable c.args.table.now meaning c.in_ok-apart.apart.items h c.requires.ordered c.in_ok-apart.ensures.apart c.in_ok-apart.ensures.within));
  found = subst (λ z. FindsAll c.args.table.now [] z) (sym c.new-found.ensures.items) (all_none c.args.table.now);
}

pub visit_body-requires-clause-inside : goal.visit_body-requires-clause-inside
visit_body-requires-clause-inside c =
    let roots = c.args.table.now.roots.items in
    let i = c.loop-rule.rule in
    let h : i < length roots = search rules in
    let got : slice_get roots i ≡ Some c.index.result.now = slice_get_read roots (length roots) i c.index.result.now refl h c.index.ensures in
    let w : c.index.result.now < length (nodes_of c.args.table.now) = c.requires.inside i c.index.result.now got in
    search rules

pub loop-rule-preserved : goal.loop-rule-preserved
loop-rule-preserved c =
    let t = c.args.table.now in
    let roots = t.roots.items in
    let p = is_set_at c.args.reportable.now in
    let i = c.loop-rule.rule in
    let root = c.index.result.now in
    let h : i < length roots = search rules in
    let more : take (i + 1) roots ≡ take i roots ++ root ∷ [] = take_more roots i root h ∙ ap (λ z. take i roots ++ z ∷ []) (sym c.index.ensures) in
    let parted : filter p (take (i + 1) roots) ≡ filter p (take i roots) ++ filter p (root ∷ []) = ap (filter p) more ∙ filter-append p (take i roots) (root ∷ []) in
    record {
      right = λ meaning m. c.in_ok-visit_body.ensures.kept meaning m (c.loop-rule.invariant.right meaning m);
      found = subst (λ z. FindsAll t z c.visit_body.new.found.items) (sym parted)
          (c.in_ok-visit_body.ensures.found (filter p (take i roots)) c.loop-rule.invariant.right c.loop-rule.invariant.found);
    }
