-- Routes of the reading and of matching, reports, and definite reports.
use Rattle.std.specs.Prelude.{◌≡◌, ℕ, zero, suc, List, [], ◌∷◌, replicate, length, Option, Some, None, is_some, Bool, true, ◌||◌, ⊤, ◌⊎◌}
use Rattle.base_language.specs.Language.Text.{Text}
use Rattle.base_language.specs.Language.Expression.{Expression, Ident, PosPred, NegPred, Seq, Choice, Opt, Rep, RepOnce, RepExact, RepMin, RepMax, RepMinMax, Push, RestoreOnErr, Rule, Grammar, rule_of, whitespace, comment, PushLiteral, NodeTag}
use Rattle.base_language.specs.Language.State.{Classes, Mode, IsRuleMode, State, Trees, Outcome, Success, Failure}
use Rattle.base_language.specs.Language.Builtins.{Builtin, One, Property, Newline, Soi, Eoi, Peek, Pop, Drop, PeekAll, PopAll, builtin_of}
use Rattle.base_language.specs.Language.Meaning.{Does, Run, Skipping, Matches, body_mode}
use Rattle.base_language.specs.Language.WellFormed.{IsNullable, CannotFail}
use Rattle.front_stack_domain.specs.Stack.{AbstractStack, Describes, entry, failed}
use Rattle.front_stack_domain.specs.Reading.{Reading, reading, name_reading, tried, loops, Copy, Required, Optional, Endless, from_to_copies, at_least_copies}

-- something may be skipped between the parts of a sequence
abbrev pub skips_in : Grammar → Bool
skips_in g = is_some (rule_of g whitespace) || is_some (rule_of g comment)

-- the builtin takes entries off the stack
abbrev pub TakesEntries : Builtin → Type 0
TakesEntries (One set) = ⊥
TakesEntries (Property n) = ⊥
TakesEntries Newline = ⊥
TakesEntries Soi = ⊥
TakesEntries Eoi = ⊥
TakesEntries Peek = ⊥
TakesEntries Pop = ⊤
TakesEntries Drop = ⊤
TakesEntries PeekAll = ⊥
TakesEntries PopAll = ⊤

module _ (g : Grammar) where
  -- outside predicates it has a `PUSH`, `PUSH_LITERAL`, `POP`, `DROP` or `POP_ALL`, itself or by way of rules
  pub data AltersStack : Expression → Type 0 where
    by_push : {e : Expression} → AltersStack (Push e)
    by_push_literal : {t : Text} → AltersStack (PushLiteral t)
    by_builtin : {n : Text} {b : Builtin} → rule_of g n ≡ None → builtin_of n ≡ Some b → TakesEntries b
        → AltersStack (Ident n)
    by_rule : {n : Text} {r : Rule} → rule_of g n ≡ Some r → AltersStack r.body → AltersStack (Ident n)
    in_left : {a b : Expression} → AltersStack a → AltersStack (Seq a b)
    in_right : {a b : Expression} → AltersStack b → AltersStack (Seq a b)
    in_first : {a b : Expression} → AltersStack a → AltersStack (Choice a b)
    in_second : {a b : Expression} → AltersStack b → AltersStack (Choice a b)
    in_opt : {e : Expression} → AltersStack e → AltersStack (Opt e)
    in_rep : {e : Expression} → AltersStack e → AltersStack (Rep e)
    in_rep_once : {e : Expression} → AltersStack e → AltersStack (RepOnce e)
    in_rep_exact : {e : Expression} {i : ℕ} → AltersStack e → AltersStack (RepExact e i)
    in_rep_min : {e : Expression} {i : ℕ} → AltersStack e → AltersStack (RepMin e i)
    in_rep_max : {e : Expression} {i : ℕ} → AltersStack e → AltersStack (RepMax e i)
    in_rep_min_max : {e : Expression} {i j : ℕ} → AltersStack e → AltersStack (RepMinMax e i j)
    in_tag : {e : Expression} {t : Text} → AltersStack e → AltersStack (NodeTag e t)
    in_restore : {e : Expression} → AltersStack e → AltersStack (RestoreOnErr e)

  -- the implicit whitespace changes the stack
  abbrev pub SkippingAltersStack : Type 0
  SkippingAltersStack = AltersStack (Ident whitespace) ⊎ AltersStack (Ident comment)

-- a repetition as the copies of its body
pub record Repetition : Type 0 where
  pub body : Expression
  pub copies : List Copy

abbrev pub repetition : Expression → Option Repetition
repetition (Rep e) = Some (record { body = e; copies = Endless ∷ [] })
repetition (RepOnce e) = Some (record { body = e; copies = Required ∷ Endless ∷ [] })
repetition (RepExact e n) = Some (record { body = e; copies = replicate n Required })
repetition (RepMin e n) = Some (record { body = e; copies = at_least_copies n })
repetition (RepMax e n) = Some (record { body = e; copies = replicate n Optional })
repetition (RepMinMax e m n) = Some (record { body = e; copies = from_to_copies m n })
repetition _ = None

-- the body of an endless repetition
pub data Repeats : Expression → Expression → Type 0 where
  any_times : {e : Expression} → Repeats (Rep e) e
  once_or_more : {e : Expression} → Repeats (RepOnce e) e
  at_least : {e : Expression} {n : ℕ} → Repeats (RepMin e n) e

-- a position in a body, with the number of a turn, from 0 on, for each repetition around it
pub data Route : Type 0 where
  Here : Route
  First : Route → Route
  Second : Route → Route
  Inner : Route → Route
  Turn : ℕ → Route → Route

-- a given number of these copies or turns come before one more
abbrev pub HasTurn : List Copy → ℕ → Type 0
HasTurn [] i = ⊥
HasTurn (Required ∷ cs) zero = ⊤
HasTurn (Required ∷ cs) (suc i) = HasTurn cs i
HasTurn (Optional ∷ cs) zero = ⊤
HasTurn (Optional ∷ cs) (suc i) = HasTurn cs i
HasTurn (Endless ∷ cs) i = ⊤

-- the part at a route, on which each turn is one that its repetition has
pub data IsPartAt : Expression → Route → Expression → Type 0 where
  to_itself : {e : Expression} → IsPartAt e Here e
  to_seq_first : {a b p : Expression} {r : Route} → IsPartAt a r p → IsPartAt (Seq a b) (First r) p
  to_seq_second : {a b p : Expression} {r : Route} → IsPartAt b r p → IsPartAt (Seq a b) (Second r) p
  to_choice_first : {a b p : Expression} {r : Route} → IsPartAt a r p → IsPartAt (Choice a b) (First r) p
  to_choice_second : {a b p : Expression} {r : Route} → IsPartAt b r p → IsPartAt (Choice a b) (Second r) p
  to_opt : {e p : Expression} {r : Route} → IsPartAt e r p → IsPartAt (Opt e) (Inner r) p
  to_push : {e p : Expression} {r : Route} → IsPartAt e r p → IsPartAt (Push e) (Inner r) p
  to_tag : {e p : Expression} {t : Text} {r : Route} → IsPartAt e r p → IsPartAt (NodeTag e t) (Inner r) p
  to_pos_pred : {e p : Expression} {r : Route} → IsPartAt e r p → IsPartAt (PosPred e) (Inner r) p
  to_neg_pred : {e p : Expression} {r : Route} → IsPartAt e r p → IsPartAt (NegPred e) (Inner r) p
  to_turn : {e p : Expression} {q : Repetition} {i : ℕ} {r : Route} → repetition e ≡ Some q
      → HasTurn q.copies i → IsPartAt q.body r p → IsPartAt e (Turn i r) p

-- where the reading goes on from a stack that may be impossible
abbrev pub next : Option AbstractStack → (AbstractStack → Option AbstractStack) → Option AbstractStack
next None f = None
next (Some a) f = f a

-- the stack from which a copy or turn starts, counted from 0
abbrev pub turn_start : (AbstractStack → Reading) → List Copy → ℕ → AbstractStack → Option AbstractStack
turn_start step [] i a = None
turn_start step (c ∷ cs) zero a = Some a
turn_start step (Required ∷ cs) (suc i) a = next (step a).ok (λ b. turn_start step cs i b)
turn_start step (Optional ∷ cs) (suc i) a = next (tried a (step a)) (λ b. turn_start step cs i b)
turn_start step (Endless ∷ cs) (suc i) a = next (step a).ok (λ b. turn_start step (Endless ∷ cs) i b)

module _ (step : Expression → AbstractStack → Reading) where
  -- the reading of an expression from one stack comes to a route with another
  pub data Visits : Expression → Route → AbstractStack → AbstractStack → Type 0 where
    visit : {e : Expression} {a : AbstractStack} → Visits e Here a a
    visit_seq_first : {e f : Expression} {r : Route} {a b : AbstractStack} → Visits e r a b
        → Visits (Seq e f) (First r) a b
    visit_seq_second : {e f : Expression} {r : Route} {a b c : AbstractStack} → (step e a).ok ≡ Some c
        → Visits f r c b → Visits (Seq e f) (Second r) a b
    visit_choice_first : {e f : Expression} {r : Route} {a b : AbstractStack} → Visits e r a b
        → Visits (Choice e f) (First r) a b
    visit_choice_second : {e f : Expression} {r : Route} {a b c : AbstractStack}
        → failed (step e a).err a ≡ Some c → Visits f r c b → Visits (Choice e f) (Second r) a b
    visit_opt : {e : Expression} {r : Route} {a b : AbstractStack} → Visits e r a b
        → Visits (Opt e) (Inner r) a b
    visit_push : {e : Expression} {r : Route} {a b : AbstractStack} → Visits e r a b
        → Visits (Push e) (Inner r) a b
    visit_tag : {e : Expression} {t : Text} {r : Route} {a b : AbstractStack} → Visits e r a b
        → Visits (NodeTag e t) (Inner r) a b
    visit_pos_pred : {e : Expression} {r : Route} {a b : AbstractStack} → Visits e r a b
        → Visits (PosPred e) (Inner r) a b
    visit_neg_pred : {e : Expression} {r : Route} {a b : AbstractStack} → Visits e r a b
        → Visits (NegPred e) (Inner r) a b
    visit_turn : {e : Expression} {q : Repetition} {i : ℕ} {r : Route} {a b c : AbstractStack}
        → repetition e ≡ Some q → turn_start (step q.body) q.copies i a ≡ Some c → Visits q.body r c b
        → Visits e (Turn i r) a b

-- where matching goes
module _ (g : Grammar) (classes : Classes) (m : Mode) where
  -- after a given number of copies or turns from one state, the next one starts from another
  pub data TurnAt (e : Expression) : List Copy → ℕ → State → State → Type 0 where
    now : {c : Copy} {cs : List Copy} {s : State} → TurnAt e (c ∷ cs) 0 s s
    after_required : {cs : List Copy} {i : ℕ} {s t u v : State} {us vs : Trees}
        → Does g classes (Run m e) s (Success t us) → Does g classes (Skipping m) t (Success u vs)
        → TurnAt e cs i u v → TurnAt e (Required ∷ cs) (suc i) s v
    after_optional : {cs : List Copy} {i : ℕ} {s t u v : State} {us vs : Trees}
        → Does g classes (Run m (Opt e)) s (Success t us) → Does g classes (Skipping m) t (Success u vs)
        → TurnAt e cs i u v → TurnAt e (Optional ∷ cs) (suc i) s v
    after_turn : {cs : List Copy} {i : ℕ} {s t u v : State} {us vs : Trees}
        → Does g classes (Run m e) s (Success t us) → Does g classes (Skipping m) t (Success u vs)
        → TurnAt e (Endless ∷ cs) i u v → TurnAt e (Endless ∷ cs) (suc i) s v

  -- matching of an expression from one state comes to a route with another
  pub data ReachesRoute : Expression → Route → State → State → Type 0 where
    reach : {e : Expression} {s : State} → ReachesRoute e Here s s
    reach_seq_first : {a b : Expression} {r : Route} {s t : State} → ReachesRoute a r s t
        → ReachesRoute (Seq a b) (First r) s t
    reach_seq_second : {a b : Expression} {r : Route} {s t u v : State} {us vs : Trees}
        → Does g classes (Run m a) s (Success t us) → Does g classes (Skipping m) t (Success u vs)
        → ReachesRoute b r u v → ReachesRoute (Seq a b) (Second r) s v
    reach_choice_first : {a b : Expression} {r : Route} {s t : State} → ReachesRoute a r s t
        → ReachesRoute (Choice a b) (First r) s t
    reach_choice_second : {a b : Expression} {r : Route} {s t : State} → Does g classes (Run m a) s Failure
        → ReachesRoute b r s t → ReachesRoute (Choice a b) (Second r) s t
    reach_opt : {e : Expression} {r : Route} {s t : State} → ReachesRoute e r s t
        → ReachesRoute (Opt e) (Inner r) s t
    reach_push : {e : Expression} {r : Route} {s t : State} → ReachesRoute e r s t
        → ReachesRoute (Push e) (Inner r) s t
    reach_tag : {e : Expression} {u : Text} {r : Route} {s t : State} → ReachesRoute e r s t
        → ReachesRoute (NodeTag e u) (Inner r) s t
    reach_pos_pred : {e : Expression} {r : Route} {s t : State} → ReachesRoute e r s t
        → ReachesRoute (PosPred e) (Inner r) s t
    reach_neg_pred : {e : Expression} {r : Route} {s t : State} → ReachesRoute e r s t
        → ReachesRoute (NegPred e) (Inner r) s t
    reach_turn : {e : Expression} {q : Repetition} {i : ℕ} {r : Route} {s t u : State}
        → repetition e ≡ Some q → TurnAt q.body q.copies i s t → ReachesRoute q.body r t u
        → ReachesRoute e (Turn i r) s u

-- the repetition p at a route in the rule's body e is definite, without an outcome wherever a start of the
-- rule reaches it on this route
pub record IsCertain (g : Grammar) (e p : Expression) (r : Route) (a : AbstractStack) : Type 0 where
  pub leads : IsPartAt e r p
  -- p repeats it, and has no greatest number
  pub body : Expression
  pub repeats : Repeats p body
  -- from no stack that is described p has an outcome, at any position of any text
  pub no_outcome : (classes : Classes) (m : Mode) (s : State) (o : Outcome) → IsRuleMode m
      → Describes a s.stack → Matches g classes p m s o → ⊥
  -- every stack with which a start of the rule reaches the route is described
  pub described : (classes : Classes) (m : Mode) (s t : State) → IsRuleMode m
      → ReachesRoute g classes m e r s t → Describes a t.stack

-- no start of a rule with the body e that reaches the route has an outcome, and no call of such a rule has
pub record NeverEnds (g : Grammar) (e : Expression) (r : Route) : Type 0 where
  pub starts : (classes : Classes) (m : Mode) (s t : State) (o : Outcome) → IsRuleMode m
      → ReachesRoute g classes m e r s t → Matches g classes e m s o → ⊥
  -- by whichever name, in whichever mode
  pub calls : (classes : Classes) (n : Text) (x : Rule) (m : Mode) (s t : State) (o : Outcome)
      → rule_of g n ≡ Some x → x.body ≡ e
      → ReachesRoute g classes (body_mode x m) e r s t → Matches g classes (Ident n) m s o → ⊥

-- the reading of an expression by the rules of a grammar, with calls followed to a depth
abbrev pub reading_to_depth : ℕ → ℕ → (Text → Bool) → Grammar → Expression → AbstractStack → Reading
reading_to_depth depth limit recursive g e a =
    reading limit (skips_in g) (name_reading limit (skips_in g) recursive g depth) e a

-- the reading with calls followed as deep as there are rules
abbrev pub reading_in : ℕ → (Text → Bool) → Grammar → Expression → AbstractStack → Reading
reading_in limit recursive g e a = reading_to_depth (length g) limit recursive g e a

-- a report of the repetition p at a route in a rule's body e, which is visited with the stack a
pub record IsReport (limit turns : ℕ) (recursive : Text → Bool) (g : Grammar) (e p : Expression) (r : Route)
    (a : AbstractStack) : Type 0 where
  pub body : Expression
  pub repeats : Repeats p body
  pub not_null : IsNullable g body → ⊥
  pub not_sure : CannotFail g body → ⊥
  pub calm : SkippingAltersStack g → ⊥
  pub leads : IsPartAt e r p
  pub visits : Visits (reading_in limit recursive g) e r entry a
  pub loops_there : loops turns (reading_in limit recursive g body) a ≡ true
