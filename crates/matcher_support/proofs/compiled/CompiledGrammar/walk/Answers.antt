use Rattle.std.proofs.Common.{◌∙◌, ap}
use Rattle.matcher_program.specs.ExpectedNames.{name_texts}
use Rattle.matcher_support.proofs.compiled.CompiledGrammar.walk.Goals as goal

pub returns : goal.returns
returns c = λ g of n s classes x. c.walk_names.ensures g (ap name_texts c.deref.ensures.value ∙ of.names) n s classes x
