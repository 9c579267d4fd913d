use Rattle.std.proofs.Common.{◌∙◌, ap, get_or, inl, inr, map, subst}
use Rattle.std.specs.List.{All}
use Rattle.base_language.specs.Pieces.Saying.{piece_of}
use Rattle.front_spanned.specs.Nodes.{rule_views}
use Rattle.lint_findings.specs.declared.codes.Code.TheVariants as code
use Rattle.lint_warnings.specs.Choices.{unreachable_alternatives}
use Rattle.doc_pages.specs.Warnings.{SaysOfOne, Warns}
use Rattle.doc_pages.proofs.warnings.find_warnings.Goals as goal

pub returns-clause-definite : goal.returns-clause-definite
returns-clause-definite c =
    let rules = rule_views c.args.rules.now in
    let unreachable = ap (map piece_of) c.deref.ensures.value ∙ c.in_ok-unreachable.ensures in
    let reversed = ap (map piece_of) c.deref-2.ensures.value ∙ c.in_ok-reversed.ensures in
    c.in_ok-add_warnings-2.ensures.definite rules (λ w said. inr (subst (λ pieces. SaysOfOne code.ReversedRange pieces w) reversed said))
    (c.in_ok-add_warnings.ensures.definite rules (λ w said. inl (subst (λ pieces. SaysOfOne code.Unreachable pieces w) unreachable said))
    (c.in_ok-warnings.ensures.none rules))

pub returns-clause-none_missing : goal.returns-clause-none_missing
returns-clause-none_missing c = λ some.
    let alike = c.in_ok-warnings.ensures.of_each_rule in
    let rules = rule_views c.args.rules.now in
    let unreachable = ap (map piece_of) c.deref.ensures.value ∙ c.in_ok-unreachable.ensures in
    let reversed = ap (map piece_of) c.deref-2.ensures.value ∙ c.in_ok-reversed.ensures in
    let first = c.add_warnings.new.warnings.items in
    let last = c.add_warnings-2.new.warnings.items in
    let before = subst (λ pieces. All (Warns first code.Unreachable) pieces) unreachable (c.in_ok-add_warnings.ensures.added some alike) in
    record {
      alternatives = λ k d l.
          c.in_ok-add_warnings-2.ensures.kept code.Unreachable (get_or (unreachable_alternatives rules) k d) (before k d l);
      ranges = subst (λ pieces. All (Warns last code.ReversedRange) pieces) reversed
          (c.in_ok-add_warnings-2.ensures.added some (c.in_ok-add_warnings.ensures.alike ∙ alike));
    }
