use Rattle.std.proofs.Common.{◌∙◌, ap, chars, filter, not}
use Rattle.std.proofs.lemmas.Result.{IfOk-weaker}
use Rattle.base_language.specs.Language.Builtins.{is_one_of}
use Rattle.lint_warnings.specs.Lists.{texts_of}
use Rattle.lint_findings.proofs.Straying.{unknown_told}
use Rattle.lint_findings.proofs.strays.diagnose_starts.Goals as goal

pub returns : goal.returns
returns c =
    IfOk-weaker c.warn_of.result _ _
    (λ warnings told text. unknown_told text c.args.rules.now c.in_ok-names.names.items c.args.starts.now c.deref-3.result.now warnings.items c.in_ok-names.ensures
    (c.deref-3.ensures.value ∙ c.in_ok-strays.ensures ∙ ap (λ names. filter (λ start. not (is_one_of (texts_of names) (chars start.text.now))) c.args.starts.now) c.deref.ensures.value) (told text))
    c.warn_of.ensures
