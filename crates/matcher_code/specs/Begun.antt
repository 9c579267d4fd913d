-- Parts that a task begins, before it has an outcome.
use Rattle.std.specs.Prelude.{◌≡◌, ◌⊎◌, ℕ, ◌+◌, [], Some, None, codes}
use Rattle.base_language.specs.Language.Text.{Text}
use Rattle.base_language.specs.Language.Expression.{Expression, Ident, PosPred, NegPred, Seq, Choice, Opt, Rep, RepOnce, RepExact, RepMin, RepMax, RepMinMax, Push, RestoreOnErr, NodeTag, Rule, Grammar, rule_of}
use Rattle.base_language.specs.Language.State.{Between, Classes, Failure, Mode, NonAtomicMode, State, Success, Trees}
use Rattle.base_language.specs.Language.Meaning.{Does, Run, Skipping, Task, Turns, at_least, at_most, body_mode, exactly, from_to, once_or_more, skipped}
use Rattle.matcher_code.specs.Sizes.{size}

module _ (g : Grammar) (classes : Classes) where
  -- `Begins k s i p t`: the task k from s begins its part p from t, where a given number of rules of the
  -- relation of matching are applied before: its own, and those of the parts before p
  pub data Begins : Task → State → ℕ → Task → State → Type 0 where
    call : {m : Mode} {n : Text} {s : State} {r : Rule} → rule_of g n ≡ Some r
        → Begins (Run m (Ident n)) s 1 (Run (body_mode r m) r.body) s
    pos_pred : {m : Mode} {e : Expression} {s : State} → Begins (Run m (PosPred e)) s 1 (Run m e) s
    neg_pred : {m : Mode} {e : Expression} {s : State} → Begins (Run m (NegPred e)) s 1 (Run m e) s
    push : {m : Mode} {e : Expression} {s : State} → Begins (Run m (Push e)) s 1 (Run m e) s
    tag : {m : Mode} {e : Expression} {x : Text} {s : State} → Begins (Run m (NodeTag e x)) s 1 (Run m e) s
    restore : {m : Mode} {e : Expression} {s : State} → Begins (Run m (RestoreOnErr e)) s 1 (Run m e) s
    seq : {m : Mode} {a b : Expression} {s : State} → Begins (Run m (Seq a b)) s 1 (Run m a) s
    seq_trivia : {m : Mode} {a b : Expression} {s t : State} {us : Trees}
        (d : Does g classes (Run m a) s (Success t us))
        → Begins (Run m (Seq a b)) s (1 + size d) (Skipping m) t
    seq_second : {m : Mode} {a b : Expression} {s t u : State} {us vs : Trees}
        (d : Does g classes (Run m a) s (Success t us)) (k : Does g classes (Skipping m) t (Success u vs))
        → Begins (Run m (Seq a b)) s (1 + (size d + size k)) (Run m b) u
    left : {m : Mode} {a b : Expression} {s : State} → Begins (Run m (Choice a b)) s 1 (Run m a) s
    right : {m : Mode} {a b : Expression} {s : State} (d : Does g classes (Run m a) s Failure)
        → Begins (Run m (Choice a b)) s (1 + size d) (Run m b) s
    opt : {m : Mode} {e : Expression} {s : State} → Begins (Run m (Opt e)) s 1 (Run m e) s
    rep : {m : Mode} {e : Expression} {s : State} → Begins (Run m (Rep e)) s 1 (Run m e) s
    rep_turns : {m : Mode} {e : Expression} {s t : State} {us : Trees}
        (d : Does g classes (Run m e) s (Success t us)) → Begins (Run m (Rep e)) s (1 + size d) (Turns m e) t
    turn_trivia : {m : Mode} {e : Expression} {s : State} → Begins (Turns m e) s 1 (Skipping m) s
    turn : {m : Mode} {e : Expression} {s t : State} {us : Trees}
        (k : Does g classes (Skipping m) s (Success t us)) → Begins (Turns m e) s (1 + size k) (Run m e) t
    more_turns : {m : Mode} {e : Expression} {s t u : State} {us vs : Trees}
        (k : Does g classes (Skipping m) s (Success t us)) (d : Does g classes (Run m e) t (Success u vs))
        → Begins (Turns m e) s (1 + (size k + size d)) (Turns m e) u
    rep_once : {m : Mode} {e : Expression} {s : State}
        → Begins (Run m (RepOnce e)) s 1 (Run m (once_or_more e)) s
    rep_exact : {m : Mode} {e : Expression} {i : ℕ} {s : State}
        → Begins (Run m (RepExact e i)) s 1 (Run m (exactly e i)) s
    rep_min : {m : Mode} {e : Expression} {i : ℕ} {s : State}
        → Begins (Run m (RepMin e i)) s 1 (Run m (at_least e i)) s
    rep_max : {m : Mode} {e : Expression} {i : ℕ} {s : State}
        → Begins (Run m (RepMax e i)) s 1 (Run m (at_most e i)) s
    rep_min_max : {m : Mode} {e : Expression} {i j : ℕ} {s : State}
        → Begins (Run m (RepMinMax e i j)) s 1 (Run m (from_to e i j)) s
    skips : {s : State} → Begins (Skipping NonAtomicMode) s 1 (Run Between skipped) s

  -- so a task comes to another one, by way of parts of parts, itself counted
  pub data ComesTo : Task → State → ℕ → Task → State → Type 0 where
    here : {k : Task} {s : State} → ComesTo k s 1 k s
    onward : {k p q : Task} {s t u : State} {i j : ℕ} → Begins k s i p t → ComesTo p t j q u
        → ComesTo k s (i + j) q u

-- `PEEK` or `POP`, which are no rules, on the empty stack
pub record IsEmptyRead (g : Grammar) (n : Text) (s : State) : Type 0 where
  pub free : rule_of g n ≡ None
  pub reads : (n ≡ codes "PEEK") ⊎ (n ≡ codes "POP")
  pub empty : s.stack ≡ []
