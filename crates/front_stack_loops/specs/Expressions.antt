-- Attributes of expressions, by the flags of rules.
use Rattle.std.specs.Prelude.{ℕ, List, Option, Some, None, Bool, true, false, ◌&&◌, ◌||◌, slice_get, nat_eq}
use Rattle.base_language.specs.Language.Text.{Text}
use Rattle.base_language.specs.Language.Expression.{Expression, Str, Insens, Range, Ident, PeekSlice, PosPred, NegPred, Seq, Choice, Opt, Rep, RepOnce, RepExact, RepMin, RepMax, RepMinMax, Skip, Push, RestoreOnErr, Grammar, PushLiteral, NodeTag, last_place}
use Rattle.base_graphs.specs.Least.{is_set_at}
use Rattle.front_stack_loops.specs.Answers.{at_place}
use Rattle.front_analysis.specs.Names.{is_end}
use Rattle.front_stack_loops.specs.Kinds.{is_empty_text}

-- the flag of the body of the rule with an index
abbrev pub body_flag : List ℕ → List Bool → Option ℕ → Bool
body_flag roots flags None = false
body_flag roots flags (Some r) = at_place (is_set_at flags) (slice_get roots r)

-- the flag of the body of the rule that a name means
abbrev pub name_flag : Grammar → List ℕ → List Bool → Text → Bool
name_flag g roots flags n = body_flag roots flags (last_place g n)

-- e may take nothing, by the flags `named` of the rules
abbrev pub may_stay : (Text → Bool) → Expression → Bool
may_stay named (Str t) = is_empty_text t
may_stay named (Insens t) = is_empty_text t
may_stay named (Range b c) = false
may_stay named (Ident n) = is_end n || named n
may_stay named (PeekSlice i j) = false
may_stay named (PosPred e) = true
may_stay named (NegPred e) = true
may_stay named (Seq d e) = may_stay named d && may_stay named e
may_stay named (Choice d e) = may_stay named d || may_stay named e
may_stay named (Opt e) = true
may_stay named (Rep e) = true
may_stay named (RepOnce e) = may_stay named e
may_stay named (RepExact e n) = nat_eq n 0 || may_stay named e
may_stay named (RepMin e n) = nat_eq n 0 || may_stay named e
may_stay named (RepMax e n) = true
may_stay named (RepMinMax e m n) = nat_eq m 0 || may_stay named e
may_stay named (Skip ts) = true
may_stay named (Push e) = may_stay named e
may_stay named (PushLiteral t) = true
may_stay named (NodeTag e t) = may_stay named e
may_stay named (RestoreOnErr e) = may_stay named e

-- e changes the stack outside predicates, by the flags `named` of names
abbrev pub may_change : (Text → Bool) → Expression → Bool
may_change named (Str t) = false
may_change named (Insens t) = false
may_change named (Range b c) = false
may_change named (Ident n) = named n
may_change named (PeekSlice i j) = false
may_change named (PosPred e) = false
may_change named (NegPred e) = false
may_change named (Seq d e) = may_change named d || may_change named e
may_change named (Choice d e) = may_change named d || may_change named e
may_change named (Opt e) = may_change named e
may_change named (Rep e) = may_change named e
may_change named (RepOnce e) = may_change named e
may_change named (RepExact e n) = may_change named e
may_change named (RepMin e n) = may_change named e
may_change named (RepMax e n) = may_change named e
may_change named (RepMinMax e m n) = may_change named e
may_change named (Skip ts) = false
may_change named (Push e) = true
may_change named (PushLiteral t) = true
may_change named (NodeTag e t) = may_change named e
may_change named (RestoreOnErr e) = may_change named e
