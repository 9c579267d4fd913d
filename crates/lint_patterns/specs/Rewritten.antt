-- Rules with lists that the optimizer writes otherwise.
use Rattle.std.specs.Prelude.{◌≡◌, ◌<◌, ◌≤◌, ℕ, List, [], ◌∷◌, ◌++◌, Bool, true, false, ◌&&◌, ◌||◌, not, if◌then◌else◌, bytes_eq}
use Rattle.std.specs.List.{list_any}
use Rattle.base_language.specs.Language.Expression.{Expression, Str, Ident, PosPred, NegPred, Seq, Choice, Opt, Rep, RepOnce, RepExact, RepMin, RepMax, RepMinMax, Push, NodeTag, RestoreOnErr, RuleType, Atomic, Rule}
use Rattle.base_language.specs.Language.Text.{Text}
use Rattle.base_language.specs.Rewritings.Equality.{expression_eq}
use Rattle.base_language.specs.Rewritings.Rewriting.{IsDone, Joins, Rotates}
use Rattle.front_optimizer.specs.Passes.{IsFactoring, IsUnrolling}
use Rattle.front_spanned.specs.Erasure.{without_spans}
use Rattle.front_spanned.specs.Spanned.{Span, SpannedRule}
use Rattle.lint_patterns.specs.Sizes.{nodes_of_rules}

-- an expression and its parts, each before its own parts
abbrev pub parts : Expression → List Expression
parts (PosPred e) = PosPred e ∷ parts e
parts (NegPred e) = NegPred e ∷ parts e
parts (Seq a b) = Seq a b ∷ (parts a ++ parts b)
parts (Choice a b) = Choice a b ∷ (parts a ++ parts b)
parts (Opt e) = Opt e ∷ parts e
parts (Rep e) = Rep e ∷ parts e
parts (RepOnce e) = RepOnce e ∷ parts e
parts (RepExact e n) = RepExact e n ∷ parts e
parts (RepMin e m) = RepMin e m ∷ parts e
parts (RepMax e n) = RepMax e n ∷ parts e
parts (RepMinMax e m n) = RepMinMax e m n ∷ parts e
parts (Push e) = Push e ∷ parts e
parts (NodeTag e t) = NodeTag e t ∷ parts e
parts (RestoreOnErr e) = RestoreOnErr e ∷ parts e
parts e = e ∷ []

abbrev pub is_empty : Text → Bool
is_empty [] = true
is_empty (c ∷ t) = false

-- an expression cannot fail; `f`: the names of such rules
abbrev pub cannot_fail : (Text → Bool) → Expression → Bool
cannot_fail f (Opt e) = true
cannot_fail f (Rep e) = true
cannot_fail f (RepMax e n) = true
cannot_fail f (Str t) = is_empty t
cannot_fail f (Ident n) = f n
cannot_fail f _ = false

-- a rule of this name has a body that cannot fail, without a call
abbrev pub no_names : Text → Bool
no_names n = false

abbrev pub is_optional_as : SpannedRule → Text → Bool
is_optional_as r n = cannot_fail no_names (without_spans r.body) && bytes_eq r.name n

abbrev pub is_optional_name : List SpannedRule → Text → Bool
is_optional_name rules n = list_any (λ r. is_optional_as r n) rules

-- `(x ~ y)* ~ x` with an `x` that may fail
abbrev pub is_list : (Text → Bool) → Expression → Bool
is_list f (Seq (Rep (Seq x y)) z) = not (cannot_fail f x) && expression_eq x z
is_list f _ = false

abbrev pub has_list : (Text → Bool) → Expression → Bool
has_list f e = list_any (is_list f) (parts e)

-- `(!c ~ n)*`, of which the optimizer may make a forward search in an Atomic rule
abbrev pub is_turn : Expression → Bool
is_turn (Rep (Seq (NegPred c) (Ident n))) = true
is_turn _ = false

abbrev pub has_turn : Expression → Bool
has_turn e = list_any is_turn (parts e)

-- a rule of a type whose body has such a part
abbrev pub is_searched : RuleType → Expression → Bool
is_searched Atomic e = has_turn e
is_searched _ e = false

-- a rule after the first pass
pub record IsRotatedRule (r : SpannedRule) (q : Rule) : Type 0 where
  pub type_of : q.type_of ≡ r.type_of
  pub rotates : IsDone Rotates (without_spans r.body) q.body

-- the second body is the first after the passes from `unroll` to `factor`, in a rule of a type
pub record IsPassed (y : RuleType) (a b : Expression) : Type 0 where
  pub unrolled : Expression
  pub joined : Expression
  pub unrolls : IsUnrolling a unrolled
  pub joins : IsDone (Joins y) unrolled joined
  pub factors : IsFactoring y joined b

abbrev pub span_if_list : (Text → Bool) → Expression → SpannedRule → List Span
span_if_list f b r = if has_list f b then r.span ∷ [] else []

-- of a rule, its name's span is added where the body, as the passes before the listing leave it, has a list;
-- rules with forward searches are not looked at
pub data AddsLists (f : Text → Bool) (r : SpannedRule) (old new : List Span) : Type 0 where
  searched : {a : Expression} → IsDone Rotates (without_spans r.body) a → is_searched r.type_of a ≡ true
      → new ≡ old → AddsLists f r old new
  passed : {a b : Expression} → IsDone Rotates (without_spans r.body) a → is_searched r.type_of a ≡ false
      → IsPassed r.type_of a b → new ≡ old ++ span_if_list f b r → AddsLists f r old new

-- so rule by rule
pub data FindsEach (f : Text → Bool) : List SpannedRule → List Span → Type 0 where
  no_rules : FindsEach f [] []
  next_rule : {r : SpannedRule} {rs : List SpannedRule} {here found all : List Span} → AddsLists f r [] here
      → FindsEach f rs found → all ≡ here ++ found → FindsEach f (r ∷ rs) all

-- rules of more than 1,000,000 nodes, where counts are written out, are not looked at
pub data FindsLists (f : Text → Bool) (rules : List SpannedRule) (found : List Span) : Type 0 where
  large : 1000000 < nodes_of_rules rules → found ≡ [] → FindsLists f rules found
  looked_at : nodes_of_rules rules ≤ 1000000 → FindsEach f rules found → FindsLists f rules found
