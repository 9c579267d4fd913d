-- Which grammars are well-formed, and which are plain.
use Rattle.std.specs.Prelude.{◌≡◌, ℕ, ◌<◌, List, [], Option, Some, ℤ, codes, ⊤}
use Rattle.std.specs.List.{Contains}
use Rattle.base_language.specs.Language.Text.{Text}
use Rattle.base_language.specs.Language.Expression.{Expression, Str, Insens, Ident, PeekSlice, PosPred, NegPred, Seq, Choice, Opt, Rep, RepOnce, RepExact, RepMin, RepMax, RepMinMax, Skip, Push, RestoreOnErr, NonAtomic, Rule, Grammar, rule_of, whitespace, comment, Part, PushLiteral, NodeTag}
use Rattle.base_language.specs.Language.State.{Mode, State, Outcome, Classes}
use Rattle.base_language.specs.Language.Builtins.{Builtin, One, Property, Newline, Soi, Eoi, Peek, Pop, Drop, PeekAll, PopAll, builtin_of}
use Rattle.base_language.specs.Language.Meaning.{Matches}

module _ (g : Grammar) where
  -- an expression may succeed without consuming: the least relation of these cases
  pub data IsNullable : Expression → Type 0 where
    nullable_str : IsNullable (Str [])
    nullable_insens : IsNullable (Insens [])
    nullable_soi : IsNullable (Ident (codes "SOI"))
    nullable_eoi : IsNullable (Ident (codes "EOI"))
    nullable_call : {n : Text} {r : Rule} → rule_of g n ≡ Some r → IsNullable r.body → IsNullable (Ident n)
    nullable_pos_pred : {e : Expression} → IsNullable (PosPred e)
    nullable_neg_pred : {e : Expression} → IsNullable (NegPred e)
    nullable_opt : {e : Expression} → IsNullable (Opt e)
    nullable_rep : {e : Expression} → IsNullable (Rep e)
    nullable_rep_max : {e : Expression} {i : ℕ} → IsNullable (RepMax e i)
    nullable_seq : {a b : Expression} → IsNullable a → IsNullable b → IsNullable (Seq a b)
    nullable_left : {a b : Expression} → IsNullable a → IsNullable (Choice a b)
    nullable_right : {a b : Expression} → IsNullable b → IsNullable (Choice a b)
    nullable_rep_once : {e : Expression} → IsNullable e → IsNullable (RepOnce e)
    nullable_push : {e : Expression} → IsNullable e → IsNullable (Push e)
    nullable_push_literal : {t : Text} → IsNullable (PushLiteral t)
    nullable_tag : {e : Expression} {t : Text} → IsNullable e → IsNullable (NodeTag e t)
    nullable_exact_zero : {e : Expression} → IsNullable (RepExact e 0)
    nullable_exact : {e : Expression} {i : ℕ} → IsNullable e → IsNullable (RepExact e i)
    nullable_min_zero : {e : Expression} → IsNullable (RepMin e 0)
    nullable_min : {e : Expression} {i : ℕ} → IsNullable e → IsNullable (RepMin e i)
    nullable_min_max_zero : {e : Expression} {j : ℕ} → IsNullable (RepMinMax e 0 j)
    nullable_min_max : {e : Expression} {i j : ℕ} → IsNullable e → IsNullable (RepMinMax e i j)
    nullable_skip : {ts : List Text} → IsNullable (Skip ts)
    nullable_restore : {e : Expression} → IsNullable e → IsNullable (RestoreOnErr e)

  -- an expression cannot fail: the least relation of these cases
  pub data CannotFail : Expression → Type 0 where
    cannot_fail_str : CannotFail (Str [])
    cannot_fail_insens : CannotFail (Insens [])
    cannot_fail_call : {n : Text} {r : Rule} → rule_of g n ≡ Some r → CannotFail r.body → CannotFail (Ident n)
    cannot_fail_opt : {e : Expression} → CannotFail (Opt e)
    cannot_fail_rep : {e : Expression} → CannotFail (Rep e)
    cannot_fail_rep_max : {e : Expression} {i : ℕ} → CannotFail (RepMax e i)
    cannot_fail_seq : {a b : Expression} → CannotFail a → CannotFail b → CannotFail (Seq a b)
    cannot_fail_left : {a b : Expression} → CannotFail a → CannotFail (Choice a b)
    cannot_fail_right : {a b : Expression} → CannotFail b → CannotFail (Choice a b)
    cannot_fail_rep_once : {e : Expression} → CannotFail e → CannotFail (RepOnce e)
    cannot_fail_push : {e : Expression} → CannotFail e → CannotFail (Push e)
    cannot_fail_push_literal : {t : Text} → CannotFail (PushLiteral t)
    cannot_fail_tag : {e : Expression} {t : Text} → CannotFail e → CannotFail (NodeTag e t)
    cannot_fail_pos_pred : {e : Expression} → CannotFail e → CannotFail (PosPred e)
    cannot_fail_exact_zero : {e : Expression} → CannotFail (RepExact e 0)
    cannot_fail_exact : {e : Expression} {i : ℕ} → CannotFail e → CannotFail (RepExact e i)
    cannot_fail_min_zero : {e : Expression} → CannotFail (RepMin e 0)
    cannot_fail_min : {e : Expression} {i : ℕ} → CannotFail e → CannotFail (RepMin e i)
    cannot_fail_min_max_zero : {e : Expression} {j : ℕ} → CannotFail (RepMinMax e 0 j)
    cannot_fail_min_max : {e : Expression} {i j : ℕ} → CannotFail e → CannotFail (RepMinMax e i j)
    cannot_fail_skip : {ts : List Text} → CannotFail (Skip ts)
    cannot_fail_restore : {e : Expression} → CannotFail e → CannotFail (RestoreOnErr e)

  -- a name that may be called before anything is taken
  pub data LeftCalls : Expression → Text → Type 0 where
    left_name : {n : Text} → LeftCalls (Ident n) n
    left_first : {a b : Expression} {n : Text} → LeftCalls a n → LeftCalls (Seq a b) n
    left_second : {a b : Expression} {n : Text} → IsNullable a → LeftCalls b n → LeftCalls (Seq a b) n
    left_pos_pred : {e : Expression} {n : Text} → LeftCalls e n → LeftCalls (PosPred e) n
    left_neg_pred : {e : Expression} {n : Text} → LeftCalls e n → LeftCalls (NegPred e) n
    left_left : {a b : Expression} {n : Text} → LeftCalls a n → LeftCalls (Choice a b) n
    left_right : {a b : Expression} {n : Text} → LeftCalls b n → LeftCalls (Choice a b) n
    left_opt : {e : Expression} {n : Text} → LeftCalls e n → LeftCalls (Opt e) n
    left_rep : {e : Expression} {n : Text} → LeftCalls e n → LeftCalls (Rep e) n
    left_rep_once : {e : Expression} {n : Text} → LeftCalls e n → LeftCalls (RepOnce e) n
    left_rep_exact : {e : Expression} {n : Text} {i : ℕ} → LeftCalls e n → LeftCalls (RepExact e i) n
    left_rep_min : {e : Expression} {n : Text} {i : ℕ} → LeftCalls e n → LeftCalls (RepMin e i) n
    left_rep_max : {e : Expression} {n : Text} {i : ℕ} → LeftCalls e n → LeftCalls (RepMax e i) n
    left_rep_min_max : {e : Expression} {n : Text} {i j : ℕ} → LeftCalls e n → LeftCalls (RepMinMax e i j) n
    left_push : {e : Expression} {n : Text} → LeftCalls e n → LeftCalls (Push e) n
    left_tag : {e : Expression} {n t : Text} → LeftCalls e n → LeftCalls (NodeTag e t) n
    left_restore : {e : Expression} {n : Text} → LeftCalls e n → LeftCalls (RestoreOnErr e) n

  -- the rule n left-calls k, at once or by way of others
  pub data Leads : Text → Text → Type 0 where
    at_once : {n k : Text} {r : Rule} → rule_of g n ≡ Some r → LeftCalls r.body k → Leads n k
    by_way : {n j k : Text} → Leads n j → Leads j k → Leads n k

  -- the rule n calls k, at once or by way of others, or is k
  pub data Reaches : Text → Text → Type 0 where
    itself : {n : Text} → Reaches n n
    onward : {n j k : Text} {r : Rule} → Reaches n j → rule_of g j ≡ Some r → Part r.body (Ident k)
        → Reaches n k

-- an expression occurs in the body of a rule that a name means
abbrev pub InRules : Grammar → Expression → Type 0
InRules g p = (n : Text) × (r : Rule) × (rule_of g n ≡ Some r) × Part r.body p

-- an expression occurs in the body of some rule of the list, be it one that a later rule of its name hides
abbrev pub InSomeRule : Grammar → Expression → Type 0
InSomeRule g p = (r : Rule) × Contains g r × Part r.body p

pub data IsSkipped : Text → Type 0 where
  is_whitespace : IsSkipped whitespace
  is_comment : IsSkipped comment

pub record IsWellFormed (g : Grammar) : Type 0 where
  pub rep : (e : Expression) → InRules g (Rep e) → IsNullable g e → ⊥
  pub rep_once : (e : Expression) → InRules g (RepOnce e) → IsNullable g e → ⊥
  pub rep_min : (e : Expression) (i : ℕ) → InRules g (RepMin e i) → IsNullable g e → ⊥
  pub skipping : (n : Text) → IsSkipped n → IsNullable g (Ident n) → ⊥
  pub no_cycle : (n : Text) → Leads g n n → ⊥

-- builtins that do not read the stack
abbrev pub IsPlainBuiltin : Builtin → Type 0
IsPlainBuiltin (One set) = ⊤
IsPlainBuiltin (Property n) = ⊤
IsPlainBuiltin Newline = ⊤
IsPlainBuiltin Soi = ⊤
IsPlainBuiltin Eoi = ⊤
IsPlainBuiltin Peek = ⊥
IsPlainBuiltin Pop = ⊥
IsPlainBuiltin Drop = ⊥
IsPlainBuiltin PeekAll = ⊥
IsPlainBuiltin PopAll = ⊥

pub data IsPlainName (g : Grammar) (n : Text) : Type 0 where
  of_rule : {r : Rule} → rule_of g n ≡ Some r → IsPlainName g n
  of_builtin : {b : Builtin} → builtin_of n ≡ Some b → IsPlainBuiltin b → IsPlainName g n

pub record IsPlain (g : Grammar) : Type 0 where
  pub names : (n : Text) → InRules g (Ident n) → IsPlainName g n
  pub slices : (i : ℤ) (j : Option ℤ) → InRules g (PeekSlice i j) → ⊥
  pub skipping : (n k : Text) (r : Rule) → IsSkipped n → Reaches g n k → rule_of g k ≡ Some r
      → r.type_of ≡ NonAtomic → ⊥

-- how often something may be repeated at most is not 0
abbrev pub CountIsReadable : Expression → Type 0
CountIsReadable (RepExact e i) = 0 < i
CountIsReadable (RepMax e i) = 0 < i
CountIsReadable (RepMinMax e i j) = 0 < j
CountIsReadable _ = ⊤

-- in every rule of the list
abbrev pub HasReadableCounts : Grammar → Type 0
HasReadableCounts g = (p : Expression) → InSomeRule g p → CountIsReadable p

-- in every rule that a name means
abbrev pub NamesHaveReadableCounts : Grammar → Type 0
NamesHaveReadableCounts g = (p : Expression) → InRules g p → CountIsReadable p

abbrev pub HasOutcome : Grammar → Classes → Expression → Mode → State → Type 0
HasOutcome g classes e m s = (o : Outcome) × Matches g classes e m s o

-- there is an outcome, and every outcome is that one
abbrev pub HasOneOutcome : Grammar → Classes → Expression → Mode → State → Type 0
HasOneOutcome g classes e m s =
    (o : Outcome) × Matches g classes e m s o × ((p : Outcome) → Matches g classes e m s p → p ≡ o)

-- where a grammar may be started: a defined rule, a mode, and a state (a text, a position in it and a stack)
pub record Start (g : Grammar) : Type 0 where
  pub name : Text
  pub rule : Rule
  pub defined : rule_of g name ≡ Some rule
  pub mode : Mode
  pub state : State

abbrev pub EndsFrom : (g : Grammar) → Classes → Start g → Type 0
EndsFrom g classes start = HasOneOutcome g classes (Ident start.name) start.mode start.state
