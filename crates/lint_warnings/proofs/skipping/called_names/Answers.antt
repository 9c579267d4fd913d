use Rattle.std.proofs.Common.{chars, subst, List, ◌∙◌, sym}
use Rattle.std.proofs.lemmas.List.{take_all}
use Rattle.std.proofs.Math.Bool.{or-false}
use Rattle.base_language.specs.Language.Builtins.{is_one_of}
use Rattle.front_spanned.specs.Nodes.{rule_views}
use Rattle.front_spanned.specs.declared.node.ParserRule.{ParserRule}
use Rattle.lint_warnings.specs.Lists.{HasNames, texts_of}
use Rattle.lint_warnings.specs.Skipping.{is_root_or_called}
use Rattle.lint_warnings.proofs.Reached.{skipping_step}
use Rattle.lint_warnings.proofs.skipping.called_names.Goals as goal

pub loop-rule-init : goal.loop-rule-init
loop-rule-init c = λ f known name u. c.in_ok-called.ensures name u ∙ sym (or-false (is_one_of (texts_of c.args.roots.now) (chars name)))

pub loop-rule-preserved : goal.loop-rule-preserved
loop-rule-preserved c = λ f known name u.
    skipping_step f (texts_of c.args.roots.now) c.args.rules.now c.loop-rule.rule-index c.rule-item.result (chars name) _ _ c.loop-rule-test.true c.rule-item.is
    (c.in_ok-add_calls_of.ensures f known name u) (c.loop-rule.invariant f known name u)

pub returns : goal.returns
returns c = λ f known.
    let P : List ParserRule → Type 0 = λ rules. HasNames (is_root_or_called f (texts_of c.args.roots.now) (rule_views rules)) c.loop-rule.called in
    subst P (take_all c.loop-rule.rule-index c.args.rules.now c.loop-rule-test.false) (c.loop-rule.invariant f known)
