-- A second meaning, in which a failure leaves a stack, from which the next attempt starts.
use Rattle.std.specs.Prelude.{◌≡◌, ◌↔◌, ◌-◌, ℕ, List, [], ◌∷◌, Option, Some, None, if◌then◌else◌, nat_eq, length, take, drop, ⊤, ℤ}
use Rattle.std.specs.Char.{eq_ignore_ascii_case}
use Rattle.base_language.specs.Language.Text.{Text}
use Rattle.base_language.specs.Language.Expression.{Expression, Str, Insens, Range, Ident, PeekSlice, PosPred, NegPred, Seq, Choice, Opt, Rep, RepOnce, RepExact, RepMin, RepMax, RepMinMax, Skip, Push, RestoreOnErr, Rule, Grammar, rule_of, Part, PushLiteral, NodeTag}
use Rattle.base_language.specs.Language.State.{Mode, NonAtomicMode, AtomicMode, CompoundAtomicMode, Between, State, Trees, None', Tree, joined, Outcome, Success, Failure, Classes, moved}
use Rattle.base_language.specs.Language.Matching.{text_outcome, character_outcome, range_set, slice_outcome, distance, other_outcome, begins}
use Rattle.base_language.specs.Language.Builtins.{builtin_of, Builtin, Pop, PopAll}
use Rattle.base_language.specs.Language.Meaning.{Task, Run, Turns, Skipping, body_mode, gives_token, with_top, once_or_more, exactly, at_least, at_most, from_to, skipped, Matches}
use Rattle.base_language.specs.Language.WellFormed.{IsSkipped}

-- a success, or a failure with the stack that it leaves
pub data Ending : Type 0 where
  Done : State → Trees → Ending
  Lost : List Text → Ending

-- an outcome whose failure leaves a stack
abbrev pub leaving : List Text → Outcome → Ending
leaving ts Failure = Lost ts
leaving ts (Success t us) = Done t us

-- the stack after a failed POP or POP_ALL
abbrev pub below_miss : List Text → Text → List Text
below_miss [] u = []
below_miss (t ∷ ts) u = if begins nat_eq t u then below_miss ts (drop (length t) u) else ts

abbrev pub left_by : Option Builtin → State → List Text
left_by None s = s.stack
left_by (Some Pop) s = drop 1 s.stack
left_by (Some PopAll) s = below_miss s.stack s.rest
left_by (Some _) s = s.stack

abbrev pub with_left : List Text → State → State
with_left ts s = record s { stack = ts }

abbrev pub called : Rule → Mode → State → Ending → Ending
called r m s (Lost ts) = Lost ts
called r m s (Done t us) =
    Done t (if gives_token r.type_of m then Tree r.name s.position t.position us None' else us)

abbrev pub looked : State → Ending → Ending
looked s (Lost ts) = Lost s.stack
looked s (Done t us) = Done s None'

abbrev pub not_looked : State → Ending → Ending
not_looked s (Lost ts) = Done s None'
not_looked s (Done t us) = Lost s.stack

abbrev pub pushing : State → Ending → Ending
pushing s (Lost ts) = Lost ts
pushing s (Done t us) = Done (record t { stack = take (length s.rest - length t.rest) s.rest ∷ t.stack }) us

abbrev pub restoring : State → Ending → Ending
restoring s (Lost ts) = Lost s.stack
restoring s (Done t us) = Done t us

-- the stack after a failed turn that is not the first
abbrev pub behind_turn : Mode → State → List Text → List Text
behind_turn NonAtomicMode s ts = s.stack
behind_turn _ s ts = ts

module _ (g : Grammar) (classes : Classes) where
  pub data DoesLoosely : Task → State → Ending → Type 0 where
    loose_str : {m : Mode} {t : Text} {s : State}
        → DoesLoosely (Run m (Str t)) s (leaving s.stack (text_outcome nat_eq t s))
    loose_insens : {m : Mode} {t : Text} {s : State}
        → DoesLoosely (Run m (Insens t)) s (leaving s.stack (text_outcome eq_ignore_ascii_case t s))
    loose_range : {m : Mode} {a b : Text} {s : State}
        → DoesLoosely (Run m (Range a b)) s (leaving s.stack (character_outcome (range_set a b) s))
    loose_slice : {m : Mode} {i : ℤ} {j : Option ℤ} {s : State}
        → DoesLoosely (Run m (PeekSlice i j)) s (leaving s.stack (slice_outcome i j s))
    loose_skip : {m : Mode} {ts : List Text} {s : State}
        → DoesLoosely (Run m (Skip ts)) s (Done (moved (distance ts s.rest) s) None')
    loose_call : {m : Mode} {n : Text} {s : State} {o : Ending} {r : Rule} → rule_of g n ≡ Some r
        → DoesLoosely (Run (body_mode r m) r.body) s o → DoesLoosely (Run m (Ident n)) s (called r m s o)
    loose_other : {m : Mode} {n : Text} {s : State} {o : Outcome} → rule_of g n ≡ None
        → other_outcome classes m n s ≡ Some o
        → DoesLoosely (Run m (Ident n)) s (leaving (left_by (builtin_of n) s) o)
    loose_pos_pred : {m : Mode} {e : Expression} {s : State} {o : Ending} → DoesLoosely (Run m e) s o
        → DoesLoosely (Run m (PosPred e)) s (looked s o)
    loose_neg_pred : {m : Mode} {e : Expression} {s : State} {o : Ending} → DoesLoosely (Run m e) s o
        → DoesLoosely (Run m (NegPred e)) s (not_looked s o)
    loose_push : {m : Mode} {e : Expression} {s : State} {o : Ending} → DoesLoosely (Run m e) s o
        → DoesLoosely (Run m (Push e)) s (pushing s o)
    loose_push_literal : {m : Mode} {t : Text} {s : State}
        → DoesLoosely (Run m (PushLiteral t)) s (Done (with_top t s) None')
    loose_tag : {m : Mode} {e : Expression} {t : Text} {s : State} {o : Ending} → DoesLoosely (Run m e) s o
        → DoesLoosely (Run m (NodeTag e t)) s o
    loose_restore : {m : Mode} {e : Expression} {s : State} {o : Ending} → DoesLoosely (Run m e) s o
        → DoesLoosely (Run m (RestoreOnErr e)) s (restoring s o)
    loose_seq : {m : Mode} {a b : Expression} {s t u v : State} {us vs ws : Trees}
        → DoesLoosely (Run m a) s (Done t us) → DoesLoosely (Skipping m) t (Done u vs)
        → DoesLoosely (Run m b) u (Done v ws)
        → DoesLoosely (Run m (Seq a b)) s (Done v (joined us (joined vs ws)))
    loose_seq_first : {m : Mode} {a b : Expression} {s : State} {ts : List Text}
        → DoesLoosely (Run m a) s (Lost ts) → DoesLoosely (Run m (Seq a b)) s (Lost s.stack)
    loose_seq_second : {m : Mode} {a b : Expression} {s t u : State} {us vs : Trees} {ts : List Text}
        → DoesLoosely (Run m a) s (Done t us) → DoesLoosely (Skipping m) t (Done u vs)
        → DoesLoosely (Run m b) u (Lost ts) → DoesLoosely (Run m (Seq a b)) s (Lost s.stack)
    loose_left : {m : Mode} {a b : Expression} {s t : State} {us : Trees}
        → DoesLoosely (Run m a) s (Done t us) → DoesLoosely (Run m (Choice a b)) s (Done t us)
    loose_right : {m : Mode} {a b : Expression} {s : State} {ts : List Text} {o : Ending}
        → DoesLoosely (Run m a) s (Lost ts) → DoesLoosely (Run m b) (with_left ts s) o
        → DoesLoosely (Run m (Choice a b)) s o
    loose_opt : {m : Mode} {e : Expression} {s t : State} {us : Trees}
        → DoesLoosely (Run m e) s (Done t us) → DoesLoosely (Run m (Opt e)) s (Done t us)
    loose_opt_none : {m : Mode} {e : Expression} {s : State} {ts : List Text}
        → DoesLoosely (Run m e) s (Lost ts) → DoesLoosely (Run m (Opt e)) s (Done (with_left ts s) None')
    loose_rep : {m : Mode} {e : Expression} {s t u : State} {us vs : Trees}
        → DoesLoosely (Run m e) s (Done t us) → DoesLoosely (Turns m e) t (Done u vs)
        → DoesLoosely (Run m (Rep e)) s (Done u (joined us vs))
    loose_rep_none : {m : Mode} {e : Expression} {s : State} {ts : List Text}
        → DoesLoosely (Run m e) s (Lost ts) → DoesLoosely (Run m (Rep e)) s (Done (with_left ts s) None')
    loose_turn : {m : Mode} {e : Expression} {s t u v : State} {us vs ws : Trees}
        → DoesLoosely (Skipping m) s (Done t us) → DoesLoosely (Run m e) t (Done u vs)
        → DoesLoosely (Turns m e) u (Done v ws)
        → DoesLoosely (Turns m e) s (Done v (joined us (joined vs ws)))
    loose_turn_none : {m : Mode} {e : Expression} {s t : State} {us : Trees} {ts : List Text}
        → DoesLoosely (Skipping m) s (Done t us) → DoesLoosely (Run m e) t (Lost ts)
        → DoesLoosely (Turns m e) s (Done (with_left (behind_turn m s ts) s) None')
    loose_rep_once : {m : Mode} {e : Expression} {s : State} {o : Ending}
        → DoesLoosely (Run m (once_or_more e)) s o → DoesLoosely (Run m (RepOnce e)) s o
    loose_rep_exact : {m : Mode} {e : Expression} {i : ℕ} {s : State} {o : Ending}
        → DoesLoosely (Run m (exactly e i)) s o → DoesLoosely (Run m (RepExact e i)) s o
    loose_rep_min : {m : Mode} {e : Expression} {i : ℕ} {s : State} {o : Ending}
        → DoesLoosely (Run m (at_least e i)) s o → DoesLoosely (Run m (RepMin e i)) s o
    loose_rep_max : {m : Mode} {e : Expression} {i : ℕ} {s : State} {o : Ending}
        → DoesLoosely (Run m (at_most e i)) s o → DoesLoosely (Run m (RepMax e i)) s o
    loose_rep_min_max : {m : Mode} {e : Expression} {i j : ℕ} {s : State} {o : Ending}
        → DoesLoosely (Run m (from_to e i j)) s o → DoesLoosely (Run m (RepMinMax e i j)) s o
    loose_skips : {s : State} {o : Ending} → DoesLoosely (Run Between skipped) s o
        → DoesLoosely (Skipping NonAtomicMode) s o
    loose_atomic : {s : State} → DoesLoosely (Skipping AtomicMode) s (Done s None')
    loose_compound_atomic : {s : State} → DoesLoosely (Skipping CompoundAtomicMode) s (Done s None')
    loose_between : {s : State} → DoesLoosely (Skipping Between) s (Done s None')

abbrev pub MatchesLoosely : Grammar → Classes → Expression → Mode → State → Ending → Type 0
MatchesLoosely g classes e m s o = DoesLoosely g classes (Run m e) s o

-- a failure may have lost an entry; of the repetitions only a single required copy may fail so
pub data Pops (g : Grammar) : Expression → Type 0 where
  pops : {n : Text} → builtin_of n ≡ Some Pop → Pops g (Ident n)
  pops_all : {n : Text} → builtin_of n ≡ Some PopAll → Pops g (Ident n)
  pops_rule : {n : Text} {r : Rule} → rule_of g n ≡ Some r → Pops g r.body → Pops g (Ident n)
  pops_left : {a b : Expression} → Pops g a → Pops g (Choice a b)
  pops_right : {a b : Expression} → Pops g b → Pops g (Choice a b)
  pops_push : {e : Expression} → Pops g e → Pops g (Push e)
  pops_tag : {e : Expression} {t : Text} → Pops g e → Pops g (NodeTag e t)
  pops_rep_exact : {e : Expression} {i : ℕ} → Pops g (exactly e i) → Pops g (RepExact e i)
  pops_rep_min_max : {e : Expression} {i j : ℕ} → Pops g (from_to e i j) → Pops g (RepMinMax e i j)

pub data Safe (g : Grammar) (e : Expression) : Type 0 where
  wrapped : (x : Expression) → e ≡ RestoreOnErr x → Safe g e
  keeps : (Pops g e → ⊥) → Safe g e

-- where another attempt starts from the stack of a failure, that failure loses nothing
abbrev pub SafeHere : Grammar → Expression → Type 0
SafeHere g (Choice a b) = Safe g a × Safe g b
SafeHere g (Opt e) = Safe g e
SafeHere g (Rep e) = Safe g e
SafeHere g (RepOnce e) = Safe g e
SafeHere g (RepMin e i) = Safe g e
SafeHere g (RepMax e i) = Safe g e
SafeHere g (RepMinMax e i j) = Safe g e
SafeHere g _ = ⊤

abbrev pub IsSafe : Grammar → Expression → Type 0
IsSafe g e = (p : Expression) → Part e p → SafeHere g p

pub record Restored (g : Grammar) : Type 0 where
  pub bodies : (n : Text) (r : Rule) → rule_of g n ≡ Some r → IsSafe g r.body
  pub skipping : (n : Text) → IsSkipped n → Pops g (Ident n) → ⊥

abbrev pub SameEndings : Grammar → Classes → Expression → Mode → State → Type 0
SameEndings g classes e m s =
    ((t : State) (us : Trees)
    → Matches g classes e m s (Success t us) ↔ MatchesLoosely g classes e m s (Done t us))
    × (Matches g classes e m s Failure ↔ ((ts : List Text) × MatchesLoosely g classes e m s (Lost ts)))
