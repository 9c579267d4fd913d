use Rattle.std.proofs.Common.{ap, codes, ◌++◌, ◌∙◌}
use Rattle.program_support.specs.Escapes.{escaped_json}
use Rattle.pest_run.proofs.paths.show_json.Goals as goal

pub returns : goal.returns
returns c = λ text.
    let json = c.as_str.ensures.value ∙ c.in_ok-json.ensures in
    c.in_ok-push_str.ensures.bytes ∙ ap (λ t. t ++ codes "\n") (c.in_ok-line.ensures ∙ ap escaped_json json)
