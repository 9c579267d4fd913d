use Rattle.format_grammar.proofs.Readings.{same_rules}
use Rattle.format_grammar.proofs.laws.same_tokens_have_the_same_rules.Goals as goal

pub returns : goal.returns
returns c = same_rules c.trees_of_a_grammar_have_their_shape.ensures
