use Rattle.std.proofs.Common.{◌<◌, ap, sym, ◌∙◌, arith, rules}
use Rattle.base_language.specs.declared.runtime.trees.TokenTree.{TokenTree}
use Rattle.base_language.specs.declared.runtime.trees.TokenTree.TheOpen.{TokenTree-F}
use Rattle.base_language.specs.declared.runtime.trees.TokenTree.TheViews.{out-TokenTree, roll-TokenTree, out-roll-TokenTree}
use Rattle.base_language.proofs.LettingGo.{falls_down, falls_up, has_depth, nothing_left}
use Rattle.base_language.proofs.runtime.trees.TokenTree.+drop.Goals as goal

pub loop-last-smaller-in-Some : goal.loop-last-smaller-in-Some
loop-last-smaller-in-Some g t c =
    let last = out-TokenTree g.row.R.Denot c.in-Some.last.now in
    let entered : TokenTree-F g.row.R.Denot (TokenTree g.row.R.Denot) = record { rule = last.rule; start = last.start; end = last.end; inner = c.swap.new.x } in
    falls_down _ c.loop-last.above.items _ _ c.in-Some.last.now (roll-TokenTree g.row.R.Denot entered) _ c.loop-last.trees.ok.0 c.in-Some.ensures.item.3.0 c.in-Some.ensures.item.1
    (ap (λ v. v.items) (c.swap-in-Some.ensures.x_after ∙ c.swap.ensures.y_after))
    (ap (λ t. t.inner.items) (out-roll-TokenTree _ entered) ∙ ap (λ v. v.items) c.swap.ensures.x_after)
    (ap (λ v. v.items) c.swap-in-Some.ensures.y_after)

pub drop-above-requires : goal.drop-above-requires
drop-above-requires g t c κs =
    let deep : 0 < t = omega (arith, c.decreases, has_depth c.args.self) in
    let none = ap (λ v. v.items) c.swap-in-None.ensures.y_after ∙ nothing_left _ c.in-None.ensures.item.3 in
    search (rules, none, deep)

pub drop-above-requires-in-None : goal.drop-above-requires-in-None
drop-above-requires-in-None g t c κs =
    let deep : 0 < t = omega (arith, c.decreases, has_depth c.args.self) in
    let none = ap (λ v. v.items) c.swap-in-None.ensures.y_after ∙ nothing_left _ c.in-None.ensures.item.3 in
    search (rules, none, deep)

pub loop-last-smaller : goal.loop-last-smaller
loop-last-smaller g t c =
    falls_up c.loop-last.trees.items c.loop-last.above.items _ c.into_parts-in-None.result.inner.items c.in-Some-pop.emptied _ _ _
    (sym (ap (λ v. v.items) c.swap-in-None.ensures.x_after) ∙ c.in-Some-pop.ensures.items) c.into_parts-in-None.ensures
