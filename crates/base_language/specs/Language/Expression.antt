-- Expressions, rules and grammars.
use Rattle.std.specs.Prelude.{ℕ, suc, List, [], ◌∷◌, Option, Some, None, ℤ, if◌then◌else◌, bytes_eq, codes}
use Rattle.base_language.specs.Language.Text.{Text}

pub data Expression : Type 0 where
  Str : Text → Expression
  Insens : Text → Expression
  Range : Text → Text → Expression
  Ident : Text → Expression
  PeekSlice : ℤ → Option ℤ → Expression
  PosPred : Expression → Expression
  NegPred : Expression → Expression
  Seq : Expression → Expression → Expression
  Choice : Expression → Expression → Expression
  Opt : Expression → Expression
  Rep : Expression → Expression
  RepOnce : Expression → Expression
  RepExact : Expression → ℕ → Expression
  RepMin : Expression → ℕ → Expression
  RepMax : Expression → ℕ → Expression
  RepMinMax : Expression → ℕ → ℕ → Expression
  Skip : List Text → Expression
  Push : Expression → Expression
  PushLiteral : Text → Expression
  NodeTag : Expression → Text → Expression
  RestoreOnErr : Expression → Expression

pub data RuleType : Type 0 where
  Normal : RuleType
  Silent : RuleType
  Atomic : RuleType
  CompoundAtomic : RuleType
  NonAtomic : RuleType

pub record Rule : Type 0 where
  pub name : Text
  pub type_of : RuleType
  pub body : Expression

abbrev pub Grammar : Type 0
Grammar = List Rule

-- the first, if there is one, else the second
abbrev pub or_else : Option Rule → Option Rule → Option Rule
or_else (Some r) o = Some r
or_else None o = o

-- the rule that a name means: the last rule of that name
abbrev pub rule_of : Grammar → Text → Option Rule
rule_of [] n = None
rule_of (r ∷ g) n = or_else (rule_of g n) (if bytes_eq r.name n then Some r else None)

-- the index of that rule
abbrev pub last_place : Grammar → Text → Option ℕ
last_place [] n = None
last_place (r ∷ g) n = elim (last_place g n) [
  | Some k ↦ Some (suc k)
  | None ↦ if bytes_eq r.name n then Some 0 else None
]

-- the names of the rules that are skipped implicitly
unfoldable pub whitespace : Text
whitespace = codes "WHITESPACE"

unfoldable pub comment : Text
comment = codes "COMMENT"

-- an expression and its parts
pub data Part : Expression → Expression → Type 0 where
  whole : {e : Expression} → Part e e
  of_pos_pred : {e p : Expression} → Part e p → Part (PosPred e) p
  of_neg_pred : {e p : Expression} → Part e p → Part (NegPred e) p
  of_seq_left : {a b p : Expression} → Part a p → Part (Seq a b) p
  of_seq_right : {a b p : Expression} → Part b p → Part (Seq a b) p
  of_choice_left : {a b p : Expression} → Part a p → Part (Choice a b) p
  of_choice_right : {a b p : Expression} → Part b p → Part (Choice a b) p
  of_opt : {e p : Expression} → Part e p → Part (Opt e) p
  of_rep : {e p : Expression} → Part e p → Part (Rep e) p
  of_rep_once : {e p : Expression} → Part e p → Part (RepOnce e) p
  of_rep_exact : {e p : Expression} {i : ℕ} → Part e p → Part (RepExact e i) p
  of_rep_min : {e p : Expression} {i : ℕ} → Part e p → Part (RepMin e i) p
  of_rep_max : {e p : Expression} {i : ℕ} → Part e p → Part (RepMax e i) p
  of_rep_min_max : {e p : Expression} {i j : ℕ} → Part e p → Part (RepMinMax e i j) p
  of_push : {e p : Expression} → Part e p → Part (Push e) p
  of_tag : {e p : Expression} {t : Text} → Part e p → Part (NodeTag e t) p
  of_restore : {e p : Expression} → Part e p → Part (RestoreOnErr e) p
