use Rattle.std.proofs.Common.{◌∙◌, ap, chars, sym}
use Rattle.matcher_engine.proofs.Known.{unnamed}
use Rattle.matcher_program.specs.ExpectedNames.{name_texts}
use Rattle.matcher_support.proofs.compiled.CompiledGrammar.find_rule.Goals as goal

pub returns-in_default-clause-refused : goal.returns-in_default-clause-refused
returns-in_default-clause-refused c = λ g of text steps.
    unnamed g (chars c.args.rule.now) (sym (c.last_number.ensures g (ap name_texts c.deref.ensures.value ∙ of.names)) ∙ c.in_default.is)
