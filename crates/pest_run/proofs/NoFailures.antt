-- Rules that do not fail.
use Rattle.std.proofs.Common.{List, inl, ℕ}
use Rattle.std.specs.Prelude.{chars}
use Rattle.base_language.specs.Language.Expression.{Grammar}
use Rattle.base_language.proofs.OneOutcome.{same}
use Rattle.matcher_engine.specs.ParseTrees.{HasParseTree}
use Rattle.matcher_engine.specs.declared.matcher.ParseTree.{ParseTree}
use Rattle.matcher_program.specs.Answers.{start_of}
use Rattle.matcher_support.specs.Sets.{is_in_property}
use Rattle.pest_run.specs.Explanations.{HasNoFailure}

-- a rule that matches does not fail
pub matched : (g : Grammar) (rule text : List ℕ) (it : ParseTree) → HasParseTree g (chars rule) (start_of text) is_in_property it → HasNoFailure g rule text
matched g rule text it x = inl (λ f. (let e = same g is_in_property x.found f in cc))
