use Rattle.std.proofs.Common.{◌≡◌, ◌∙◌, [], ◌∷◌, ◌++◌, map, true, if◌then◌else◌, ap, sym}
use Rattle.front_spanned.specs.Nodes.{piece_of, view}
use Rattle.front_spanned.specs.Spanned.{span_of}
use Rattle.lint_warnings.proofs.Steps.{push_piece}
use Rattle.lint_warnings.specs.Choices.{is_begun}
use Rattle.lint_warnings.proofs.choices.add_where_begun.Goals as goal

pub returns-in_ok-push : goal.returns-in_ok-push
returns-in_ok-push c = λ texts names known called.
    let x = view c.args.alternative.now in
    let yes : is_begun texts names x ≡ true = sym (c.is_begun.ensures texts names known called) ∙ c.if-is_begun.true in
    ap (map piece_of) c.in_ok-push.ensures.items ∙ (push_piece c.args.found.now.items c.args.alternative.now ∙ ap (λ b. map piece_of c.args.found.now.items ++ (if b then span_of x ∷ [] else [])) (sym yes))
