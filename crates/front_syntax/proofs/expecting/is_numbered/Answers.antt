use Rattle.std.proofs.Common.{◌∙◌, ap}
use Rattle.matcher_code.specs.Steps.{is_among}
use Rattle.front_syntax.proofs.Expectations.{any_is_among}
use Rattle.front_syntax.proofs.expecting.is_numbered.Goals as goal

pub returns : goal.returns
returns c =
    c.contains.ensures.value ∙ (any_is_among c.args.numbers.now c.rule_number.result ∙ ap (λ n. is_among c.args.numbers.now n) c.rule_number.ensures.number)
