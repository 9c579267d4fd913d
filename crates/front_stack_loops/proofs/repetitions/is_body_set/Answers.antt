use Rattle.std.proofs.Common.{◌∙◌, sym, ap}
use Rattle.front_stack_loops.specs.Expressions.{body_flag}
use Rattle.front_analysis.proofs.NameLemmas.{ascii_place}
use Rattle.front_stack_loops.proofs.repetitions.is_body_set.Goals as goal

pub returns-in-Some : goal.returns-in-Some
returns-in-Some c = λ rs known. c.is_root_set.ensures ∙ ap (body_flag c.args.roots.now c.args.flags.now)
    (sym c.in-Some.is ∙ (c.place_of.ensures ∙ ascii_place rs c.args.names.now c.args.name.now known c.requires))

pub returns-in-None : goal.returns-in-None
returns-in-None c = λ rs known. ap (body_flag c.args.roots.now c.args.flags.now)
    (sym c.in-None.is ∙ (c.place_of.ensures ∙ ascii_place rs c.args.names.now c.args.name.now known c.requires))
