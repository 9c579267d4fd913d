-- Which rules may match the empty text.
use Rattle.std.specs.Prelude.{◌≡◌, ℕ, Bool, Some, slice_get}
use Rattle.std.specs.Bool.{Decides}
use Rattle.front_analysis.specs.Analysis.{IsAnalysis}
use Rattle.front_analysis.specs.Names.{grammar_of}
use Rattle.front_analysis.specs.declared.analysis.Analysis.{Analysis}
use Rattle.base_language.specs.Language.WellFormed.{IsNullable}
use Rattle.front_spanned.specs.Erasure.{without_spans}
use Rattle.front_spanned.specs.Nodes.{view}
use Rattle.front_spanned.specs.declared.node.ParserRule.{ParserRule}

-- the answer is whether the rule of a number may match the empty text, if there is such a rule
abbrev pub DecidesNullable : Analysis → ℕ → Bool → Type 0
DecidesNullable analysis number answer = (rule : ParserRule)
    → IsAnalysis analysis → slice_get analysis.grammar.rules.now number ≡ Some rule
    → Decides answer
    (IsNullable (grammar_of analysis.grammar.rules.now) (without_spans (view rule.node)))
