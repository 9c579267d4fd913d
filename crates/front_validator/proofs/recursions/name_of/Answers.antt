use Rattle.std.proofs.Common.{◌∙◌, sym}
use Rattle.front_validator.proofs.RecursionLemmas.{lent_name, no_name}
use Rattle.front_validator.proofs.recursions.name_of.Goals as goal

pub returns-in-Some : goal.returns-in-Some
returns-in-Some c = c.as_str.ensures.value ∙ lent_name c.args.rules.now c.args.place c.in-Some.rule c.in-Some.ensures.lookup

pub returns-in-None : goal.returns-in-None
returns-in-None c = sym (no_name c.args.rules.now c.args.place c.in-None.ensures.lookup.3)
