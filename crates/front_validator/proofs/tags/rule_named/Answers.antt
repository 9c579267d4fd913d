use Rattle.std.proofs.Common.{◌∙◌, sym}
use Rattle.base_ast.specs.Ast.{text_of}
use Rattle.front_validator.proofs.TagLemmas.{lent_rule, rule_at_place, no_rule_named}
use Rattle.front_validator.proofs.tags.rule_named.Goals as goal

pub returns-in-Some : goal.returns-in-Some
returns-in-Some c =
    lent_rule c.args.rules.now c.in-Some.number c.get.result c.get.ensures.lookup
    ∙ rule_at_place c.args.rules.now (text_of c.args.name.now) c.in-Some.number (sym (c.rule_of_name.ensures c.args.rules.now c.requires) ∙ c.in-Some.is)

pub returns-in-None : goal.returns-in-None
returns-in-None c = no_rule_named c.args.rules.now (text_of c.args.name.now) (sym (c.rule_of_name.ensures c.args.rules.now c.requires) ∙ c.in-None.is)
