use Rattle.std.proofs.Common.{ap, codes, ◌++◌, ◌∙◌}
use Rattle.program_support.specs.Escapes.{escaped_json}
use Rattle.pest_run.proofs.outcomes.json_line.Goals as goal

pub returns : goal.returns
returns c = λ rule us e.
    let json = c.as_str.ensures.value ∙ c.in_ok-json.ensures rule us e in
    c.in_ok-push_str.ensures.bytes ∙ ap (λ t. t ++ codes "\n") (c.in_ok-line.ensures ∙ ap escaped_json json)
