-- Expressions that change the stack, and where the restorer wraps them.
use Rattle.std.specs.Prelude.{◌≡◌, ℕ, List, Option, Some, ℤ}
use Rattle.base_language.specs.Language.Text.{Text}
use Rattle.base_language.specs.Language.Expression.{Expression, Str, Insens, Range, Ident, PeekSlice, PosPred, NegPred, Seq, Choice, Opt, Rep, RepOnce, RepExact, RepMin, RepMax, RepMinMax, Skip, Push, PushLiteral, NodeTag, RestoreOnErr, Rule, Grammar, rule_of}
use Rattle.base_language.specs.Language.Builtins.{builtin_of, Pop, PopAll, Drop}
use Rattle.base_language.specs.Rewritings.Rewriting.{EachBody}

module _ (g : Grammar) where
  -- a `PUSH`, `PUSH_LITERAL`, `POP`, `POP_ALL` or `DROP` is met, not below a wrapper, or in the body of a
  -- rule that is named there
  pub data ChangesStack : Expression → Type 0 where
    changes_push : {e : Expression} → ChangesStack (Push e)
    changes_push_literal : {t : Text} → ChangesStack (PushLiteral t)
    changes_tag : {e : Expression} {t : Text} → ChangesStack e → ChangesStack (NodeTag e t)
    changes_pop : {n : Text} → builtin_of n ≡ Some Pop → ChangesStack (Ident n)
    changes_pop_all : {n : Text} → builtin_of n ≡ Some PopAll → ChangesStack (Ident n)
    changes_drop : {n : Text} → builtin_of n ≡ Some Drop → ChangesStack (Ident n)
    changes_rule : {n : Text} {r : Rule} → rule_of g n ≡ Some r → ChangesStack r.body → ChangesStack (Ident n)
    changes_pos_pred : {e : Expression} → ChangesStack e → ChangesStack (PosPred e)
    changes_neg_pred : {e : Expression} → ChangesStack e → ChangesStack (NegPred e)
    changes_seq_left : {a b : Expression} → ChangesStack a → ChangesStack (Seq a b)
    changes_seq_right : {a b : Expression} → ChangesStack b → ChangesStack (Seq a b)
    changes_left : {a b : Expression} → ChangesStack a → ChangesStack (Choice a b)
    changes_right : {a b : Expression} → ChangesStack b → ChangesStack (Choice a b)
    changes_opt : {e : Expression} → ChangesStack e → ChangesStack (Opt e)
    changes_rep : {e : Expression} → ChangesStack e → ChangesStack (Rep e)
    changes_rep_once : {e : Expression} → ChangesStack e → ChangesStack (RepOnce e)
    changes_rep_exact : {e : Expression} {i : ℕ} → ChangesStack e → ChangesStack (RepExact e i)
    changes_rep_min : {e : Expression} {i : ℕ} → ChangesStack e → ChangesStack (RepMin e i)
    changes_rep_max : {e : Expression} {i : ℕ} → ChangesStack e → ChangesStack (RepMax e i)
    changes_rep_min_max : {e : Expression} {i j : ℕ} → ChangesStack e → ChangesStack (RepMinMax e i j)

  -- a wrapper around an expression that changes the stack, and around no other
  pub data Wraps : Expression → Expression → Type 0 where
    wraps : {e : Expression} → ChangesStack e → Wraps e (RestoreOnErr e)
    leaves : {e : Expression} → (ChangesStack e → ⊥) → Wraps e e

  -- the restorer's result for an expression without wrappers and counted repetitions: from the inside out,
  -- the operands of `?`, `*` and `+` and both sides of `|` are wrapped if they change the stack in their
  -- new form
  pub data RestoresTo : Expression → Expression → Type 0 where
    restores_str : {t : Text} → RestoresTo (Str t) (Str t)
    restores_insens : {t : Text} → RestoresTo (Insens t) (Insens t)
    restores_range : {t u : Text} → RestoresTo (Range t u) (Range t u)
    restores_name : {n : Text} → RestoresTo (Ident n) (Ident n)
    restores_slice : {i : ℤ} {j : Option ℤ} → RestoresTo (PeekSlice i j) (PeekSlice i j)
    restores_skip : {ts : List Text} → RestoresTo (Skip ts) (Skip ts)
    restores_pos_pred : {a b : Expression} → RestoresTo a b → RestoresTo (PosPred a) (PosPred b)
    restores_neg_pred : {a b : Expression} → RestoresTo a b → RestoresTo (NegPred a) (NegPred b)
    restores_push : {a b : Expression} → RestoresTo a b → RestoresTo (Push a) (Push b)
    restores_push_literal : {t : Text} → RestoresTo (PushLiteral t) (PushLiteral t)
    restores_tag : {a b : Expression} {t : Text} → RestoresTo a b → RestoresTo (NodeTag a t) (NodeTag b t)
    restores_seq : {a b c d : Expression} → RestoresTo a b → RestoresTo c d → RestoresTo (Seq a c) (Seq b d)
    restores_choice : {a b c d e f : Expression} → RestoresTo a b → Wraps b c → RestoresTo d e → Wraps e f
        → RestoresTo (Choice a d) (Choice c f)
    restores_opt : {a b c : Expression} → RestoresTo a b → Wraps b c → RestoresTo (Opt a) (Opt c)
    restores_rep : {a b c : Expression} → RestoresTo a b → Wraps b c → RestoresTo (Rep a) (Rep c)
    restores_rep_once : {a b c : Expression} → RestoresTo a b → Wraps b c → RestoresTo (RepOnce a) (RepOnce c)

-- every body is restored, names being looked up in the rules before any was; names, types and order stay
abbrev pub EachRestored : Grammar → Grammar → Type 0
EachRestored g h = EachBody (λ y. RestoresTo g) g h
