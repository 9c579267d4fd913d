-- Findings, computed from the facts.
use Rattle.std.specs.Prelude.{◌≡◌, ℕ, List, [], ◌∷◌, map, Option, Some, None, if◌then◌else◌, slice_get, string_bytes}
use Rattle.base_ast.specs.Ast.{text_of}
use Rattle.base_language.specs.Pieces.Saying.{written}
use Rattle.front_spanned.specs.Nodes.{piece_of}
use Rattle.front_spanned.specs.Spanned.{Span, span_of}
use Rattle.front_spanned.specs.declared.node.ParserRule.{ParserRule}
use Rattle.base_language.specs.declared.runtime.places.Span as code_span
use Rattle.base_graphs.specs.Least.{is_set_at}
use Rattle.front_names.specs.Messages.{cannot_fail, non_progressing, repeated_expression, unreachable_choices}
use Rattle.front_validator.specs.Findings.{Finding, found_at, is_skipped_name}
use Rattle.front_analysis.specs.Nodes.{all_nodes}
use Rattle.front_analysis.specs.declared.facts.Facts.{Facts}
use Rattle.front_validator.specs.Problems.{message_of}
use Rattle.front_validator.specs.declared.problems.RuleFinding.{RuleFinding}
use Rattle.front_analysis.specs.declared.kind_table.NodeKind.{NodeKind}
use Rattle.front_analysis.specs.declared.kind_table.NodeKind.TheVariants as is

-- the finding that one of code denotes
abbrev pub finding_of : RuleFinding → Finding
finding_of f = found_at (piece_of f.span) (message_of f.problem (written (piece_of f.span)))

abbrev pub findings_of : List RuleFinding → List Finding
findings_of fs = map finding_of fs

-- the spans of the nodes
abbrev pub AreSpans : List ParserRule → List code_span.Span → Type 0
AreSpans rules spans = map piece_of spans ≡ map span_of (all_nodes rules)

-- of an expression that is repeated without end
abbrev pub repeated_at : Facts → List ℕ → Span → ℕ → List Finding
repeated_at facts subject place j =
    if is_set_at facts.certain.items j
    then found_at place (cannot_fail subject) ∷ []
    else if is_set_at facts.nullable.items j
    then found_at place (non_progressing subject) ∷ []
    else []

-- of a node as a repetition
abbrev pub repetition_at : Facts → Span → Option NodeKind → List Finding
repetition_at facts place (Some (is.Again j)) = repeated_at facts repeated_expression place j
repetition_at facts place (Some (is.OnceAgain j)) = repeated_at facts repeated_expression place j
repetition_at facts place _ = []

-- the last alternative of the node j, if it is a choice, or else j
abbrev pub alternative_of : Option NodeKind → ℕ → ℕ
alternative_of (Some (is.Choice a b)) j = b
alternative_of _ j = j

-- of an alternative with others after it
abbrev pub alternative_at : Facts → ℕ → Option code_span.Span → List Finding
alternative_at facts a None = []
alternative_at facts a (Some s) =
    if is_set_at facts.certain.items a
    then found_at (piece_of s) unreachable_choices ∷ [] else []

abbrev pub unreachable_at : Facts → List code_span.Span → ℕ → List Finding
unreachable_at facts spans a = alternative_at facts a (slice_get spans a)

-- of a node as a choice
abbrev pub choice_at : Facts → List code_span.Span → Option NodeKind → List Finding
choice_at facts spans (Some (is.Choice j k)) =
    unreachable_at facts spans (alternative_of (slice_get facts.table.kinds.items j) j)
choice_at facts spans _ = []

-- of a rule as one that is skipped
abbrev pub skipped_at : Facts → ParserRule → Option ℕ → List Finding
skipped_at facts rule None = []
skipped_at facts rule (Some root) =
    if is_skipped_name (text_of rule.name)
    then repeated_at facts (string_bytes rule.name) (piece_of rule.node.span) root else []
