use Rattle.std.proofs.Common.{◌∙◌}
use Rattle.front_names.proofs.Names.{is_one_of-map}
use Rattle.lint_hints.proofs.properties.is_among.Goals as goal

pub returns : goal.returns
returns c = c.contains.ensures.value ∙ is_one_of-map c.args.names.now c.args.name.now
