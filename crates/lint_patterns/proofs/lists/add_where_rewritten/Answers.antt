use Rattle.std.proofs.Common.{◌∙◌, [], ◌∷◌, ap, map, refl, subst, sym}
use Rattle.std.proofs.lemmas.List.{map-append}
use Rattle.base_ast.specs.Ast.{expression_of}
use Rattle.lint_patterns.specs.Rewritten.{IsPassed, is_searched, passed, searched}
use Rattle.lint_patterns.proofs.Finding.{list_told, list_untold}
use Rattle.front_spanned.specs.Nodes.{piece_of, rule_view}
use Rattle.lint_patterns.proofs.lists.add_where_rewritten.Goals as goal
use Rattle.lint_patterns.proofs.lists.add_where_rewritten.Goals.{then-branch-2+in_ok-push, else-branch-2}

pub returns-then-branch : goal.returns-then-branch
returns-then-branch c = λ f known.
    let a = expression_of c.in_ok-rotated.rotated.value.expr in
    let h = c.in_ok-rotated.ensures in
    searched h.rotates (ap (λ y. is_searched y a) (sym h.type_of) ∙ (sym c.in_ok-is_searched.ensures ∙ c.if-branch.true)) refl

pub returns : goal.returns
returns c = λ f known.
    let r = rule_view c.args.rule.now in
    let a = expression_of c.in_ok-rotated.rotated.value.expr in
    let b = expression_of c.in_ok-passed.passed.value.expr in
    let h = c.in_ok-rotated.ensures in
    let free = ap (λ y. is_searched y a) (sym h.type_of) ∙ (sym c.in_ok-is_searched.ensures ∙ c.if-branch.false) in
    let runs : IsPassed r.type_of a b = subst (λ y. IsPassed y a b) h.type_of c.in_ok-passed.ensures in
    elim c.if-branch-2.branch [
      | then-branch-2+in_ok-push w ↦ passed h.rotates free runs (list_told f b r _ _ (sym (c.in_ok-has_list.ensures f known) ∙ w.if-branch-2.true)
          (ap (λ v. map piece_of v.items) w.found-is ∙ (ap (map piece_of) w.in_ok-push.ensures.items ∙ map-append piece_of c.args.found.now.items (c.args.rule.now.span ∷ []))))
      | else-branch-2 w ↦ passed h.rotates free runs (list_untold f b r _ _ (sym (c.in_ok-has_list.ensures f known) ∙ w.if-branch-2.false) (ap (λ v. map piece_of v.items) w.found-is))
    ]
