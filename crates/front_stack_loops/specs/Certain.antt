-- The promises about the reports.
use Rattle.std.specs.Prelude.{◌≡◌, ◌↔◌, ℕ, suc, ◌+◌, ◌<◌, List, [], Some, Bool, true, false, slice_get, map, IsPermutation}
use Rattle.std.specs.Ordering.{is_lt, ordering_then, nat_cmp}
use Rattle.base_language.specs.Pieces.Saying.{Complaint, AreErrorsFor}
use Rattle.base_language.specs.declared.grammar.Rule.{Rule}
use Rattle.base_language.specs.declared.runtime.errors.Error.{Error}
use Rattle.base_language.specs.Language.Text.{Text}
use Rattle.base_language.specs.Language.WellFormed.{IsNullable}
use Rattle.base_graphs.specs.Least.{is_set_at}
use Rattle.front_names.specs.Messages.{non_progressing, repeated_expression}
use Rattle.front_spanned.specs.Erasure.{rules_without_spans, without_spans}
use Rattle.front_spanned.specs.Spanned.{Span, Spanned, SpannedRule}
use Rattle.front_spanned.specs.declared.node.ParserRule.{ParserRule}
use Rattle.front_analysis.specs.Facts.{AreNullable}
use Rattle.front_stack_domain.specs.Recursion.{ReachesByCalls}
use Rattle.front_stack_domain.specs.Reported.{IsCertainAt, ReportedFrom}
use Rattle.front_stack_domain.specs.Reports.{SkippingAltersStack, skips_in}
use Rattle.front_stack_domain.specs.Stack.{In}
use Rattle.front_stack_domain.specs.Turns.{most_stacks}
use Rattle.front_stack_loops.specs.Leading.{LeadsBack}
use Rattle.front_analysis.specs.Names.{grammar_of}
use Rattle.front_stack_loops.specs.Names.{kind_in}
use Rattle.front_stack_loops.specs.Kinds.{AreTabled}
use Rattle.front_stack_loops.specs.Table.{AreInside, IsOrdered, nodes_of}
use Rattle.front_stack_loops.specs.Visiting.{AllReported}
use Rattle.front_stack_loops.specs.declared.table.Table.{Table}

-- every span is that of a repetition in some rule's own body that is reported, and that certainly has no
-- outcome where it is reached on the reported route
abbrev pub AreCertain : ℕ → ℕ → (Text → Bool) → List SpannedRule → List Span → Type 0
AreCertain limit turns recursive rules spans = (s : Span) → In s spans
    → (r : ℕ) × (rule : SpannedRule) × (slice_get rules r ≡ Some rule)
    × IsCertainAt limit turns recursive (rules_without_spans rules) rule.body s

-- one span precedes another if it starts earlier, or if both start at one position and it ends earlier
abbrev pub is_before : Span → Span → Bool
is_before s u = is_lt (ordering_then (nat_cmp s.start u.start) (nat_cmp s.end u.end))

abbrev pub IsRising : List Span → Type 0
IsRising spans = (i : ℕ) (s u : Span) → slice_get spans i ≡ Some s → slice_get spans (i + 1) ≡ Some u
    → is_before u s ≡ false

-- the message and span that report a repetition
abbrev pub complaint_at : Span → Complaint
complaint_at s = record { message = non_progressing repeated_expression; span = s }

-- `sorted` has the spans of `found`, ordered by position
pub record IsSorted (found sorted : List Span) : Type 0 where
  pub same : IsPermutation found sorted
  pub rising : IsRising sorted

-- the direct reading reports these spans in the bodies of rules, one body after another; calls of rules
-- that reach themselves are not followed, and turns are, up to any limit beyond the number of stacks; all
-- reports are definite
pub record AreRead (rules : List SpannedRule) (spans : List Span) : Type 0 where
  pub recursive : Text → Bool
  pub reaches_itself : (n : Text) → (recursive n ≡ true) ↔ ReachesByCalls (rules_without_spans rules) n n
  pub nullable : Spanned → Bool
  pub knows : (x : Spanned) → (nullable x ≡ true) ↔ IsNullable (rules_without_spans rules) (without_spans x)
  pub turns : ℕ
  pub most_searched : turns ≡ 64
  pub read : (limit : ℕ) → most_stacks < limit
      → AllReported (ReportedFrom limit turns recursive (rules_without_spans rules) nullable)
      (map (λ r. r.body) rules) spans
  pub certain : (limit : ℕ) → most_stacks < limit → AreCertain limit turns recursive rules spans

-- these are the reports: none where the implicit whitespace changes the stack, else those of the direct
-- reading
pub record AreFound (rules : List SpannedRule) (spans : List Span) : Type 0 where
  pub silent : SkippingAltersStack (rules_without_spans rules) → spans ≡ []
  pub plain : (SkippingAltersStack (rules_without_spans rules) → ⊥) → AreRead rules spans

-- these are the reports, ordered by position
pub record AreReports (rules : List SpannedRule) (spans : List Span) : Type 0 where
  pub reports : List Span
  pub plain : AreFound rules reports
  pub sorted : IsSorted reports spans

-- the errors are those of the reports, ordered by position
pub record AreErrorsOfReports (rules : List SpannedRule) (errors : List (Error Rule)) : Type 0 where
  pub spans : List Span
  pub found : AreReports rules spans
  pub told : AreErrorsFor (map complaint_at spans) errors

-- the table of rules whose implicit whitespace leaves the stack alone
pub record IsTableOf (rules : List ParserRule) (t : Table) : Type 0 where
  pub tabled : AreTabled rules (kind_in (grammar_of rules)) (nodes_of t) t.roots.items
  pub ordered : IsOrdered t
  pub exact : (r : ℕ) → (is_set_at t.recursive.items r ≡ true) ↔ LeadsBack (nodes_of t) t.roots.items r
  pub inside : AreInside t
  pub skips : t.skips ≡ skips_in (grammar_of rules)
  pub nullable : AreNullable rules t.nullable.items
  pub calm : SkippingAltersStack (grammar_of rules) → ⊥
  pub limit : t.limit ≡ suc most_stacks
  pub turns : t.turns ≡ 64
