-- In which nodes and bodies something may be reported.
use Rattle.std.specs.Prelude.{◌≡◌, ℕ, zero, ◌<◌, min, List, [], ◌∷◌, ◌++◌, Option, Some, None, Bool, true, false, ◌&&◌, ◌||◌, nat_eq, slice_get, ℤ, pos}
use Rattle.std.specs.List.{filter}
use Rattle.base_language.specs.declared.runtime.places.Span as code_span
use Rattle.base_language.specs.Language.Text.{Text}
use Rattle.base_language.specs.Language.Expression.{Expression, Str, Insens, Range, Ident, PeekSlice, PosPred, NegPred, Seq, Choice, Opt, Rep, RepOnce, RepExact, RepMin, RepMax, RepMinMax, Skip, Push, RestoreOnErr, Grammar, PushLiteral, NodeTag}
use Rattle.base_graphs.specs.Least.{is_set_at}
use Rattle.front_spanned.specs.Nodes.{view}
use Rattle.front_spanned.specs.Spanned.{Spanned}
use Rattle.front_spanned.specs.declared.node.ParserRule.{ParserRule}
use Rattle.front_stack_domain.specs.Reported.{ReportedFrom}
use Rattle.front_stack_loops.specs.Answers.{AreAnswers, some_part}
use Rattle.front_stack_loops.specs.Leading.{IsOperandOf}
use Rattle.front_stack_loops.specs.Certain.{IsTableOf}
use Rattle.front_stack_loops.specs.Memory.{Meaning, IsRight}
use Rattle.front_analysis.specs.Names.{grammar_of}
use Rattle.front_stack_loops.specs.Kinds.{is_empty_text}
use Rattle.front_stack_loops.specs.Table.{IsMeaning, parts_of}
use Rattle.front_stack_loops.specs.Visiting.{FindsAll}
use Rattle.front_stack_loops.specs.declared.facts.Question.TheVariants as asks
use Rattle.front_stack_loops.specs.declared.table.PassNode.{PassNode}
use Rattle.front_stack_loops.specs.declared.table.Parts.{Parts}
use Rattle.front_stack_loops.specs.declared.table.Parts.TheVariants as parts
use Rattle.front_stack_loops.specs.declared.table.Table.{Table}
use Rattle.front_stack_loops.specs.declared.memory.Memory.{Memory}
use Rattle.front_stack_loops.specs.declared.repetitions.ToVisit.{ToVisit}

-- a slice that may be read as taking nothing: of the whole stack, and of none of it
abbrev pub slice_may_be_still : ℤ → Option ℤ → Bool
slice_may_be_still (pos zero) None = true
slice_may_be_still (pos zero) (Some (pos zero)) = true
slice_may_be_still _ _ = false

-- e may be read as taking nothing, from some stack, by the flags `named` of names
abbrev pub may_be_still : (Text → Bool) → Expression → Bool
may_be_still named (Str t) = is_empty_text t
may_be_still named (Insens t) = is_empty_text t
may_be_still named (Range b c) = false
may_be_still named (Ident n) = named n
may_be_still named (PeekSlice i j) = slice_may_be_still i j
may_be_still named (PosPred e) = true
may_be_still named (NegPred e) = true
may_be_still named (Seq d e) = may_be_still named d && may_be_still named e
may_be_still named (Choice d e) = may_be_still named d || may_be_still named e
may_be_still named (Opt e) = true
may_be_still named (Rep e) = true
may_be_still named (RepOnce e) = may_be_still named e
may_be_still named (RepExact e n) = nat_eq n 0 || may_be_still named e
may_be_still named (RepMin e n) = nat_eq n 0 || may_be_still named e
may_be_still named (RepMax e n) = true
may_be_still named (RepMinMax e m n) = nat_eq (min m n) 0 || may_be_still named e
may_be_still named (Skip ts) = false
may_be_still named (Push e) = may_be_still named e
may_be_still named (PushLiteral t) = true
may_be_still named (NodeTag e t) = may_be_still named e
may_be_still named (RestoreOnErr e) = may_be_still named e

-- a repetition without end of what may be read as taking nothing
abbrev pub may_loop : (ℕ → Bool) → Parts → Bool
may_loop p (parts.Inside j required optional endless) = endless && p j
may_loop p parts.Nothing = false
may_loop p (parts.Both j k choice) = false

-- the operands of every node precede it
abbrev pub AreInPostorder : List PassNode → Type 0
AreInPostorder ns = (i : ℕ) (n : PassNode) → slice_get ns i ≡ Some n
    → (j : ℕ) → IsOperandOf j (parts_of n.kind) → j < i

-- the flag of a node is set iff the node is such a repetition, or has one inside
abbrev pub AreLoopFlags : List PassNode → List Bool → List Bool → Type 0
AreLoopFlags ns still flags = (i : ℕ) (n : PassNode) → slice_get ns i ≡ Some n
    → is_set_at flags i
    ≡ (may_loop (is_set_at still) (parts_of n.kind) || some_part (is_set_at flags) (parts_of n.kind))

-- the flags of nodes in which something may be reported
pub record AreReportable (ns : List PassNode) (roots : List ℕ) (flags : List Bool) : Type 0 where
  pub still : List Bool
  pub answers : AreAnswers asks.MayBeStill ns roots still
  pub told : AreLoopFlags ns still flags

-- nothing is reported in a rule's body, whichever calls are followed, and however far
abbrev pub IsSilent : Grammar → Spanned → Type 0
IsSilent g x = (limit turns : ℕ) (recursive : Text → Bool) (nullable : Spanned → Bool)
    → ReportedFrom limit turns recursive g nullable x []

-- nothing is reported in the bodies whose flags are not set
abbrev pub AreSilent : List ParserRule → List ℕ → List Bool → Type 0
AreSilent rules roots flags = (r i : ℕ) (rule : ParserRule) → slice_get rules r ≡ Some rule
    → slice_get roots r ≡ Some i → is_set_at flags i ≡ false → IsSilent (grammar_of rules) (view rule.node)

-- the table of rules, and the flags of nodes in which something may be reported
pub record IsToVisit (rules : List ParserRule) (v : ToVisit) : Type 0 where
  pub table : IsTableOf rules v.table
  pub silent : AreSilent rules v.table.roots.items v.reportable.items

-- the reports in the body at a node, where its flag is set, follow those in other bodies
abbrev pub FindsMore : Table → List Bool → Memory → ℕ → List code_span.Span → List code_span.Span → Type 0
FindsMore t flags old i before after = (is : List ℕ)
    → ((meaning : Meaning) → IsMeaning t meaning → IsRight meaning old)
    → FindsAll t is before → FindsAll t (is ++ filter (is_set_at flags) (i ∷ [])) after
