use Rattle.std.proofs.Common.{◌∙◌, ap, is_some}
use Rattle.front_analysis.proofs.NameLemmas.{ascii_place}
use Rattle.front_stack_loops.proofs.repetitions.is_defined.Goals as goal

pub returns : goal.returns
returns c = λ rs known. c.is_some.ensures ∙ ap is_some (c.place_of.ensures ∙ ascii_place rs c.args.names.now c.args.name.now known c.requires)
