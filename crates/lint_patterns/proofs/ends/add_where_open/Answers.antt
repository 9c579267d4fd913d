use Rattle.std.proofs.Common.{◌∙◌, [], ◌∷◌, ◌++◌, ap, append-nil, if◌then◌else◌, map, sym}
use Rattle.std.proofs.lemmas.List.{map-append}
use Rattle.front_spanned.specs.Nodes.{piece_of}
use Rattle.lint_patterns.proofs.ends.add_where_open.Goals as goal

pub returns-in_ok-push : goal.returns-in_ok-push
returns-in_ok-push c = λ f g known asking.
    let old = map piece_of c.args.found.now.items in
    let span = piece_of c.args.rule.now.span in
    ap (map piece_of) c.in_ok-push.ensures.items
    ∙ (map-append piece_of c.args.found.now.items (c.args.rule.now.span ∷ [])
    ∙ ap (λ b. old ++ (if b then span ∷ [] else [])) (sym (sym (c.in_ok-is_open.ensures f g known asking) ∙ c.if-branch.true)))

pub returns-else-branch : goal.returns-else-branch
returns-else-branch c = λ f g known asking.
    let old = map piece_of c.args.found.now.items in
    let span = piece_of c.args.rule.now.span in
    sym (append-nil old) ∙ ap (λ b. old ++ (if b then span ∷ [] else [])) (sym (sym (c.in_ok-is_open.ensures f g known asking) ∙ c.if-branch.false))
