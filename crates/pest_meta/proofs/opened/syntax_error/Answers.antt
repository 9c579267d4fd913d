use Rattle.std.proofs.Common.{◌≡◌, ◌∙◌, [], append-nil, refl, subst}
use Rattle.base_language.specs.declared.grammar.Rule.TheVariants as rule_is
use Rattle.front_syntax.specs.Parses.{ParseRefuses}
use Rattle.pest_meta.proofs.Opens.{no_grammar_so, none_popped, one_popped}
use Rattle.pest_meta.proofs.opened.syntax_error.Goals as goal

pub returns : goal.returns
returns c =
    let refused = subst (ParseRefuses rule_is.grammar_rules c.args.text.now) c.in-Grammar.is c.requires in
    let last = one_popped c.in-Grammar.errors.items _ c.in-Some.error refused.says.error c.in-Some.ensures.items refused.says.one in
    no_grammar_so c.args.text.now c.in-Grammar.errors.items c.in-Some.error last refused

pub unreachable-requires : goal.unreachable-requires
unreachable-requires c =
    let refused = subst (ParseRefuses rule_is.grammar_rules c.args.text.now) c.in-Grammar.is c.requires in
    let left : c.pop.new.self.items ≡ [] = c.in-None.ensures.rest ∙ rw c.in-None.ensures.cases.0 refl in
    let none = c.in-None.ensures.items ∙ (append-nil c.pop.new.self.items ∙ left) in
    none_popped c.in-Grammar.errors.items refused.says.error none refused.says.one
