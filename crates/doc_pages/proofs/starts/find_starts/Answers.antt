use Rattle.std.proofs.Common.{◌∙◌, ap, map}
use Rattle.std.proofs.lemmas.List.{take_all}
use Rattle.base_language.specs.Language.Builtins.{is_one_of}
use Rattle.front_spanned.specs.Nodes.{rule_view, rule_views}
use Rattle.lint_findings.specs.Fragments.{fragment_of}
use Rattle.lint_findings.specs.Starts.{names_of}
use Rattle.lint_warnings.specs.Lists.{texts_of}
use Rattle.doc_pages.specs.Starts.{is_start}
use Rattle.doc_pages.proofs.Starting.{start_more}
use Rattle.doc_pages.proofs.starts.find_starts.Goals as goal

pub loop-rule-preserved : goal.loop-rule-preserved
loop-rule-preserved c =
    let rule = c.rule-item.result in
    let named = c.is_named.ensures (is_one_of (texts_of c.deref-2.result.now)) c.in_ok-known.ensures in
    let stated =
    ap texts_of c.deref-2.ensures.value ∙ c.in_ok-names.ensures
    ∙ ap (λ fs. names_of (map fragment_of fs)) c.deref.ensures.value ∙ ap names_of c.in_ok-stated.ensures in
    start_more c.args.text.now c.args.rules.now c.loop-rule.rule-index rule c.is_named.result _ _ c.loop-rule-test.true
    c.rule-item.is c.in_ok-push.ensures.items (named ∙ ap (λ ts. is_one_of ts (rule_view rule).name) stated) c.loop-rule.invariant

pub returns : goal.returns
returns c =
    c.loop-rule.invariant
    ∙ ap (λ rs. map (is_start c.args.text.now) (rule_views rs)) (take_all c.loop-rule.rule-index c.args.rules.now c.loop-rule-test.false)
