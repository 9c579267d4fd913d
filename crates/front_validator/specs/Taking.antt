-- Repetitions and skipped rules take something.
use Rattle.std.specs.Prelude.{◌≡◌, ℕ, List, Some, true, false, ⊤, slice_get}
use Rattle.base_ast.specs.Ast.{text_of}
use Rattle.front_spanned.specs.declared.node.ParserRule.{ParserRule}
use Rattle.base_graphs.specs.Least.{is_set_at}
use Rattle.front_validator.specs.Findings.{is_skipped_name}
use Rattle.front_analysis.specs.declared.kind_table.NodeKind.{NodeKind}
use Rattle.front_analysis.specs.declared.kind_table.NodeKind.TheVariants as is
use Rattle.front_analysis.specs.declared.facts.Facts.{Facts}

abbrev pub RepeatedTakes : Facts → NodeKind → Type 0
RepeatedTakes facts (is.Again j) = is_set_at facts.nullable.items j ≡ false
RepeatedTakes facts (is.OnceAgain j) = is_set_at facts.nullable.items j ≡ false
RepeatedTakes facts _ = ⊤

abbrev pub AllRepeatedTake : Facts → Type 0
AllRepeatedTake facts = (i : ℕ) (k : NodeKind) → slice_get facts.table.kinds.items i ≡ Some k
    → RepeatedTakes facts k

abbrev pub SkippedTake : List ParserRule → Facts → Type 0
SkippedTake rules facts = (r : ℕ) (rule : ParserRule) (i : ℕ) → slice_get rules r ≡ Some rule
    → slice_get facts.table.roots.items r ≡ Some i → is_skipped_name (text_of rule.name) ≡ true
    → is_set_at facts.nullable.items i ≡ false
