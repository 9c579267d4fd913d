use Rattle.std.proofs.Common.{chars, subst, List, ◌∙◌, sym}
use Rattle.std.proofs.lemmas.List.{take_all}
use Rattle.std.proofs.Math.Bool.{or-false}
use Rattle.base_language.specs.Language.Builtins.{is_one_of}
use Rattle.front_spanned.specs.Nodes.{rule_views}
use Rattle.front_spanned.specs.declared.node.ParserRule.{ParserRule}
use Rattle.lint_warnings.specs.Lists.{HasNames, texts_of}
use Rattle.lint_warnings.specs.Rules.{is_needed}
use Rattle.lint_warnings.proofs.Names.{rule_called}
use Rattle.lint_warnings.proofs.rules.needed_names.Goals as goal

pub loop-rule-init : goal.loop-rule-init
loop-rule-init c = λ name u. c.in_ok-needed.ensures name u ∙ sym (or-false (is_one_of (texts_of c.args.starts.now) (chars name)))

pub loop-rule-preserved : goal.loop-rule-preserved
loop-rule-preserved c = λ name u.
    rule_called (texts_of c.args.starts.now) c.args.rules.now c.loop-rule.rule-index c.rule-item.result (chars name) _ _ c.loop-rule-test.true c.rule-item.is
    (c.in_ok-add_calls.ensures name u) (c.loop-rule.invariant name u)

pub returns : goal.returns
returns c =
    let P : List ParserRule → Type 0 = λ rules. HasNames (is_needed (texts_of c.args.starts.now) (rule_views rules)) c.loop-rule.needed in
    subst P (take_all c.loop-rule.rule-index c.args.rules.now c.loop-rule-test.false) c.loop-rule.invariant
