use Rattle.std.proofs.Common.{◌∙◌, ap, sym, subst}
use Rattle.front_spanned.specs.Nodes.{rule_views}
use Rattle.lint_warnings.specs.Lists.{HasNames, texts_of}
use Rattle.lint_warnings.specs.Skipping.{is_reached}
use Rattle.lint_warnings.proofs.Reached.{repetitions_found}
use Rattle.lint_warnings.proofs.tokens.blanks_in_tokens.Goals as goal

pub returns : goal.returns
returns c =
    let rules = rule_views c.args.rules.now in
    let roots = ap texts_of c.deref.ensures.value ∙ c.in_ok-roots.ensures in
    repetitions_found rules c.in_ok-called.called c.in_ok-classes.classes c.loose_among.result (sym c.defines_blanks.ensures ∙ c.if-not-defines_blanks.false)
    (subst (λ ns. HasNames (is_reached 32 ns rules) c.in_ok-called.called) roots c.in_ok-called.ensures)
    c.in_ok-classes.ensures
    c.loose_among.ensures
