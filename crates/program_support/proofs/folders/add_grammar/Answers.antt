use Rattle.std.proofs.Common.{◌∙◌, All, subst, sym}
use Rattle.std.proofs.lemmas.List.Elements.{All-push}
use Rattle.program_support.specs.Folders.{IsGrammarName}
use Rattle.program_support.proofs.folders.add_grammar.Goals as goal

pub returns-in_ok-push : goal.returns-in_ok-push
returns-in_ok-push c = λ named.
    let h = c.if-ends_with.ensures.cases in
    let suffix : IsGrammarName c.args.path = (_, sym c.as_str.ensures.value ∙ h.1.1) in
    subst (All IsGrammarName) (sym c.in_ok-push.ensures.items) (All-push IsGrammarName _ _ named suffix)
