use Rattle.std.proofs.Common.{◌≡◌, false, sym, subst, ◌∙◌, bytes_eq, chars}
use Rattle.base_ast.specs.Ast.{text_of}
use Rattle.front_names.proofs.BuiltinLemmas.{none_left}
use Rattle.matcher_program.proofs.Refusing.{next_property}
use Rattle.matcher_program.proofs.properties.find_property.Goals as goal

pub loop-number-preserved : goal.loop-number-preserved
loop-number-preserved c =
    let n = chars c.args.name.now in
    let other = subst (λ bs. bytes_eq (chars bs) n ≡ false) c.as_str.ensures.value (sym c.same.ensures ∙ c.if-same.false) in
    c.loop-number.invariant ∙ next_property c.args.properties.now c.loop-number.number c.index-properties-number.result n c.loop-number-test.true c.index-properties-number.is other

pub returns-clause-none : goal.returns-clause-none
returns-clause-none c =
    c.loop-number.invariant ∙ none_left (λ p. text_of p.name) c.args.properties.now c.loop-number.number (chars c.args.name.now) c.loop-number-test.false
