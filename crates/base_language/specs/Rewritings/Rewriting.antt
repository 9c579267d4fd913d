-- The eight rewritings, at any position of any rule.
use Rattle.std.specs.Prelude.{◌≡◌, ℕ, List, [], ◌∷◌, ◌++◌, Some, None, ◌↔◌, codes}
use Rattle.base_language.specs.Language.Text.{Text}
use Rattle.base_language.specs.Language.Expression.{Expression, Str, Insens, Ident, PosPred, NegPred, Seq, Choice, Opt, Rep, RepOnce, RepExact, RepMin, RepMax, RepMinMax, Skip, Push, NodeTag, RestoreOnErr, RuleType, Atomic, CompoundAtomic, Rule, Grammar, rule_of, Part}
use Rattle.base_language.specs.Language.State.{Mode, State, Outcome, Classes}
use Rattle.base_language.specs.Language.Meaning.{exactly, at_least, at_most, from_to, Matches}

-- a literal or a name
pub data IsLeaf : Expression → Type 0 where
  literal : {t : Text} → IsLeaf (Str t)
  name : {n : Text} → IsLeaf (Ident n)

-- `(a ~ b) ~ c` to `a ~ (b ~ c)`, and the same for `|`
pub data Rotates : Expression → Expression → Type 0 where
  rotate_sequence : {a b c : Expression} → Rotates (Seq (Seq a b) c) (Seq a (Seq b c))
  rotate_choice : {a b c : Expression} → Rotates (Choice (Choice a b) c) (Choice a (Choice b c))

-- counted repetitions to the copies that they mean
pub data Unrolls : Expression → Expression → Type 0 where
  unroll_exact : {e : Expression} {i : ℕ} → Unrolls (RepExact e i) (exactly e i)
  unroll_min : {e : Expression} {i : ℕ} → Unrolls (RepMin e i) (at_least e i)
  unroll_max : {e : Expression} {i : ℕ} → Unrolls (RepMax e i) (at_most e i)
  unroll_min_max : {e : Expression} {i j : ℕ} → Unrolls (RepMinMax e i j) (from_to e i j)

-- the strings that an expression matches as a choice of literals, with names looked up in g
pub data Strings (g : Grammar) : Expression → List Text → Type 0 where
  one : {t : Text} → Strings g (Str t) (t ∷ [])
  named : {n : Text} {r : Rule} {ts : List Text} → rule_of g n ≡ Some r → Strings g r.body ts
      → Strings g (Ident n) ts
  more : {x e : Expression} {ts us : List Text} → IsLeaf x → Strings g x ts → Strings g e us
      → Strings g (Choice x e) (ts ++ us)

-- in an Atomic rule, `(!c ~ ANY)*` to `Skip`
pub data SkipsUntil (g : Grammar) : RuleType → Expression → Expression → Type 0 where
  skip_until : {c : Expression} {ts : List Text} → Strings g c ts
      → SkipsUntil g Atomic (Rep (Seq (NegPred c) (Ident (codes "ANY")))) (Skip ts)

-- in an Atomic rule, two literals in sequence to one
pub data Joins : RuleType → Expression → Expression → Type 0 where
  join_literals : {a b : Text} → Joins Atomic (Seq (Str a) (Str b)) (Str (a ++ b))
  join_insensitive : {a b : Text} → Joins Atomic (Seq (Insens a) (Insens b)) (Insens (a ++ b))

-- `(l ~ r) | (l ~ q)` to `l ~ (r | q)`; in the two atomic types `(l ~ r) | l` to `l ~ r?`; `l | (l ~ r)` to
-- `l`
pub data Factors : RuleType → Expression → Expression → Type 0 where
  factor_prefix : {y : RuleType} {l r q : Expression}
      → Factors y (Choice (Seq l r) (Seq l q)) (Seq l (Choice r q))
  factor_optional : {l r : Expression} → Factors Atomic (Choice (Seq l r) l) (Seq l (Opt r))
  factor_optional_compound : {l r : Expression} → Factors CompoundAtomic (Choice (Seq l r) l) (Seq l (Opt r))
  factor_absorbed : {y : RuleType} {l r : Expression} → Factors y (Choice l (Seq l r)) l

-- one rewriting at the root of an expression, in a rule of a type
pub data Rewrites (g : Grammar) (y : RuleType) (a b : Expression) : Type 0 where
  by_rotating : Rotates a b → Rewrites g y a b
  by_unrolling : Unrolls a b → Rewrites g y a b
  by_skipping : SkipsUntil g y a b → Rewrites g y a b
  by_joining : Joins y a b → Rewrites g y a b
  by_factoring : Factors y a b → Rewrites g y a b

module _ (R : Expression → Expression → Type 0) where
  -- one rewriting at one position of an expression
  pub data Within : Expression → Expression → Type 0 where
    here : {a b : Expression} → R a b → Within a b
    in_pos_pred : {a b : Expression} → Within a b → Within (PosPred a) (PosPred b)
    in_neg_pred : {a b : Expression} → Within a b → Within (NegPred a) (NegPred b)
    in_seq_left : {a b c : Expression} → Within a b → Within (Seq a c) (Seq b c)
    in_seq_right : {a b c : Expression} → Within a b → Within (Seq c a) (Seq c b)
    in_choice_left : {a b c : Expression} → Within a b → Within (Choice a c) (Choice b c)
    in_choice_right : {a b c : Expression} → Within a b → Within (Choice c a) (Choice c b)
    in_opt : {a b : Expression} → Within a b → Within (Opt a) (Opt b)
    in_rep : {a b : Expression} → Within a b → Within (Rep a) (Rep b)
    in_rep_once : {a b : Expression} → Within a b → Within (RepOnce a) (RepOnce b)
    in_rep_exact : {a b : Expression} {i : ℕ} → Within a b → Within (RepExact a i) (RepExact b i)
    in_rep_min : {a b : Expression} {i : ℕ} → Within a b → Within (RepMin a i) (RepMin b i)
    in_rep_max : {a b : Expression} {i : ℕ} → Within a b → Within (RepMax a i) (RepMax b i)
    in_rep_min_max : {a b : Expression} {i j : ℕ} → Within a b → Within (RepMinMax a i j) (RepMinMax b i j)
    in_push : {a b : Expression} → Within a b → Within (Push a) (Push b)
    in_tag : {a b : Expression} {t : Text} → Within a b → Within (NodeTag a t) (NodeTag b t)
    in_restore : {a b : Expression} → Within a b → Within (RestoreOnErr a) (RestoreOnErr b)

  -- rewritings one after another
  pub data Many : Expression → Expression → Type 0 where
    no_step : {a : Expression} → Many a a
    one_step : {a b c : Expression} → Within a b → Many b c → Many a c

  -- the rewriting applies nowhere
  abbrev pub Nowhere : Expression → Type 0
  Nowhere e = (p q : Expression) → Part e p → R p q → ⊥

  pub record IsDone (a b : Expression) : Type 0 where
    pub reached : Many a b
    pub nowhere : Nowhere b

-- one rewriting in one of a list of rules, names being looked up in g
pub data Changed (g : Grammar) : Grammar → Grammar → Type 0 where
  this : {r : Rule} {b : Expression} {rs : Grammar} → Within (Rewrites g r.type_of) r.body b
      → Changed g (r ∷ rs) (record r { body = b } ∷ rs)
  later : {r : Rule} {rs qs : Grammar} → Changed g rs qs → Changed g (r ∷ rs) (r ∷ qs)

-- one of the eight steps at one position of one rule
abbrev pub Step : Grammar → Grammar → Type 0
Step g h = Changed g g h

pub data Chain : Grammar → Grammar → Type 0 where
  done : {g : Grammar} → Chain g g
  step : {g h i : Grammar} → Step g h → Chain h i → Chain g i

-- rule by rule, names, types and order being kept, the bodies are related
pub data EachBody (P : RuleType → Expression → Expression → Type 0) : Grammar → Grammar → Type 0 where
  no_rules : EachBody P [] []
  also_rule : {r : Rule} {b : Expression} {rs qs : Grammar} → P r.type_of r.body b → EachBody P rs qs
      → EachBody P (r ∷ rs) (record r { body = b } ∷ qs)

-- the result of a pass: any number of rewritings in each rule, with names looked up in g throughout
abbrev pub EachRewritten : Grammar → Grammar → Grammar → Type 0
EachRewritten g = EachBody (λ y. Many (Rewrites g y))

-- no rule hides the builtin ANY
abbrev pub KeepsAny : Grammar → Type 0
KeepsAny g = rule_of g (codes "ANY") ≡ None

-- every expression, and so every rule, has the same outcomes over both from every state in every mode
abbrev pub SameOutcomes : Grammar → Grammar → Type 0
SameOutcomes g h = (classes : Classes) (e : Expression) (m : Mode) (s : State) (o : Outcome)
    → Matches g classes e m s o ↔ Matches h classes e m s o
