use Rattle.std.proofs.Common.{refl, List, [], chars, false, ℕ}
use Rattle.base_language.specs.Language.Places.{IsStateIn}
use Rattle.base_language.specs.declared.grammar.Rule.TheVariants as is
use Rattle.front_grammar.proofs.Naming.{named_rule}
use Rattle.front_grammar.proofs.Yielding.{yields}
use Rattle.front_grammar.specs.Outcomes.{start_of}
use Rattle.front_grammar.proofs.laws.trees_of_a_grammar_have_their_shape.Goals as goal

pub returns : goal.returns
returns c = λ text us utf8 spells.
    let classes = λ (n : List ℕ) (x : ℕ). false in
    let start : IsStateIn (chars text) (start_of text) = record { front = []; split = refl; size = refl } in
    rw (named_rule is.grammar_rules) at (yields text utf8 classes (spells classes).1 refl start)
