use Rattle.std.proofs.Common.{[], ◌∙◌, ◌++◌, ap, if◌then◌else◌, map, sym, take}
use Rattle.front_spanned.specs.Nodes.{piece_of, view}
use Rattle.lint_warnings.specs.Tokens.{repetitions_in}
use Rattle.lint_warnings.proofs.tokens.add_of_rule.Goals as goal

pub returns-in_ok-push_first : goal.returns-in_ok-push_first
returns-in_ok-push_first c = λ f g known classes.
    let old = map piece_of c.args.found.now.items in
    let all = repetitions_in g (view c.args.rule.now.node) in
    c.in_ok-push_first.ensures
    ∙ (ap (λ l. old ++ take 1 (map piece_of l)) c.deref.ensures.value
    ∙ (ap (λ l. old ++ take 1 l) (c.in_ok-spans.ensures g classes)
    ∙ ap (λ b. old ++ (if b then take 1 all else [])) (sym (sym (c.skips_unasked.ensures f known) ∙ c.if-skips_unasked.true))))
