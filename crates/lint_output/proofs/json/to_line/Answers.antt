use Rattle.std.proofs.Common.{◌∙◌, ◌++◌, ap, codes}
use Rattle.program_support.specs.Escapes.{escaped_json}
use Rattle.lint_output.proofs.json.to_line.Goals as goal

pub returns-clause-text : goal.returns-clause-text
returns-clause-text c = λ none.
    c.in_ok-push_str.ensures.bytes
    ∙ ap (λ line. line ++ codes "\n") (c.in_ok-line.ensures ∙ ap escaped_json (c.as_str.ensures.value ∙ c.in_ok-text.ensures.text none))
