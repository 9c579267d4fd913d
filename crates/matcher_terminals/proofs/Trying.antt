-- A derivation has its like by exposed rules, where the terminals that it tries are expected.
use native.Mathlib.Numerals.{unary_clauses}
use Rattle.std.proofs.Common.{◌≡◌, refl, sym, ◌∙◌, ap, ap₂, subst, ℕ, ◌-◌, min, replicate, zero, suc, max, List, [], ◌∷◌, ◌++◌, Bool, true, false, ◌||◌, ◌&&◌, Some, None, if◌then◌else◌, bytes_eq, nat_eq, map}
use Rattle.std.proofs.Math.Nat.{max-zero, zero-max}
use Rattle.std.proofs.lemmas.List.{map-append}
use Rattle.base_language.specs.Language.Text.{Text}
use Rattle.base_language.specs.Language.Expected.{expected_at, told}
use Rattle.base_language.specs.Language.Expression.{Grammar, Rule, RuleType, Normal, Silent, Atomic, CompoundAtomic, NonAtomic, Expression, Str, Ident, PosPred, NegPred, Seq, Opt, Rep, Push, NodeTag, rule_of, whitespace, comment}
use Rattle.base_language.specs.Language.FurthestFailure.{furthest, is_eoi, place_of}
use Rattle.base_language.specs.Language.State.{Classes, State, Mode, NonAtomicMode, AtomicMode, CompoundAtomicMode, Between, IsRuleMode, Trees, None', Tree, joined, Outcome, Success, Failure}
use Rattle.base_language.specs.Language.Matching.{other_outcome}
use Rattle.base_language.proofs.RuleModes.{runs_in_rule_mode}
use Rattle.base_language.specs.Language.Meaning.{in_sequence, Does, Task, Run, Turns, Skipping, str, insens, range, slice, skip, call, other, pos_pred, neg_pred, push, restore, seq, seq_first, seq_second, left, right, opt, opt_none, rep_none, turn, turn_none, rep_exact, rep_max, rep_min_max, skips, atomic, compound_atomic, between, rep, rep_once, rep_min, push_literal, tag, mode_in, body_mode, gives_token, seen_from, skipped, with_token, ahead, not_ahead, pushed}
use Rattle.front_names.specs.Names.{is_builtin}
use Rattle.matcher_support.specs.Names.{tag_in}
use Rattle.matcher_support.specs.Spliced.{with_trees}
use Rattle.matcher_support.specs.Wrapped.{wrapper}
use Rattle.matcher_support.proofs.Wraps.{Wraps, once, exact, least, most, within}
use Rattle.matcher_support.proofs.Wraps as w
use Rattle.matcher_support.proofs.Showing.{wrapper_mode}
use Rattle.matcher_terminals.specs.Exposed.{is_trivia, labelled, labelled_rule, token_type}
use Rattle.matcher_terminals.specs.Tried.{Tells, furthest_try, gives_tokens, is_token, label_of, tag_or, tried_at}

-- the mode of a task by exposed rules, where atomic rules are compound atomic
abbrev pub seen_mode : Mode → Mode
seen_mode NonAtomicMode = NonAtomicMode
seen_mode AtomicMode = CompoundAtomicMode
seen_mode CompoundAtomicMode = CompoundAtomicMode
seen_mode Between = Between

is_seen : (m : Mode) → seen_from (seen_mode m) ≡ true
is_seen NonAtomicMode = refl
is_seen AtomicMode = refl
is_seen CompoundAtomicMode = refl
is_seen Between = refl

pub rule_mode : (m : Mode) → IsRuleMode m → IsRuleMode (seen_mode m)
rule_mode NonAtomicMode p = tt
rule_mode AtomicMode p = tt
rule_mode CompoundAtomicMode p = tt
rule_mode Between p = p

mode_of : (m : Mode) → IsRuleMode (seen_mode m) → IsRuleMode m
mode_of NonAtomicMode p = tt
mode_of AtomicMode p = tt
mode_of CompoundAtomicMode p = tt
mode_of Between p = p

-- the modes of bodies
inside : (b : Bool) (y : RuleType) (m : Mode) → seen_mode (mode_in y b m) ≡ mode_in (token_type b y) b (seen_mode m)
inside true Normal m = refl
inside true Silent m = refl
inside true Atomic m = refl
inside true CompoundAtomic m = refl
inside true NonAtomic m = refl
inside false Normal NonAtomicMode = refl
inside false Normal AtomicMode = refl
inside false Normal CompoundAtomicMode = refl
inside false Normal Between = refl
inside false Silent NonAtomicMode = refl
inside false Silent AtomicMode = refl
inside false Silent CompoundAtomicMode = refl
inside false Silent Between = refl
inside false Atomic m = refl
inside false CompoundAtomic m = refl
inside false NonAtomic m = refl

-- which rules give tokens
counts : (b : Bool) (y : RuleType) (m : Mode) → seen_from m ≡ true → (seen_from m && gives_token (token_type b y) m) ≡ gives_tokens (token_type b y)
counts true y m e = rw e refl
counts false Normal m e = rw e refl
counts false Silent m e = rw e refl
counts false Atomic m e = rw e refl
counts false CompoundAtomic m e = rw e refl
counts false NonAtomic m e = rw e refl

wrapper_counts : (m : Mode) → seen_from m ≡ true → (seen_from m && gives_token Normal m) ≡ true
wrapper_counts m e = rw e refl

-- labels of what is told
labels_if : (c : Bool) (n : Text) (ns : List Text) → map label_of (if c then n ∷ [] else ns) ≡ (if c then label_of n ∷ [] else map label_of ns)
labels_if true n ns = refl
labels_if false n ns = refl

labels_told : (b : Bool) (n : Text) (at : ℕ) (s : State) (us : Trees) (o : Outcome) (ns : List Text)
    → map label_of (told b n at s (with_trees us o) ns) ≡ told b (label_of n) at s o (map label_of ns)
labels_told b n at s us (Success t vs) ns = refl
labels_told b n at s us Failure ns = labels_if (b && nat_eq s.position at) n ns

-- what is told of a name stands for what is told of it within
twice_if : (b c : Bool) (n : Text) (ns : List Text) → (if c then n ∷ [] else (if b && c then n ∷ [] else ns)) ≡ (if c then n ∷ [] else ns)
twice_if b true n ns = refl
twice_if true false n ns = refl
twice_if false false n ns = refl

twice : (b : Bool) (n : Text) (at : ℕ) (s : State) (o : Outcome) (ns : List Text) → told true n at s o (told b n at s o ns) ≡ told true n at s o ns
twice b n at s (Success t us) ns = refl
twice b n at s Failure ns = twice_if b (nat_eq s.position at) n ns

place_same : (b : Bool) (s : State) (us : Trees) (o : Outcome) → place_of b s (with_trees us o) ≡ place_of b s o
place_same b s us (Success t vs) = refl
place_same b s us Failure = refl

max_same : (a : ℕ) → max a a ≡ a
max_same zero = refl
max_same (suc a) = simp unary_clauses (ap suc (max_same a))

max_twice : (a b : ℕ) → max a (max a b) ≡ max a b
max_twice zero b = zero-max _
max_twice (suc a) zero = simp unary_clauses (ap suc (max_same a))
max_twice (suc a) (suc b) = simp unary_clauses (ap suc (max_twice a b))

place_twice : (b : Bool) (s : State) (o : Outcome) (a : ℕ) → max (place_of true s o) (max (place_of b s o) a) ≡ max (place_of true s o) a
place_twice b s (Success t us) a = zero-max _
place_twice true s Failure a = max_twice s.position a
place_twice false s Failure a = ap (max s.position) (zero-max a)

place_alone : (b : Bool) (s : State) (o : Outcome) → max (place_of true s o) (place_of b s o) ≡ place_of true s o
place_alone b s (Success t us) = zero-max _
place_alone true s Failure = max_same s.position
place_alone false s Failure = max-zero s.position

nothing_told : (b : Bool) (n : Text) (at : ℕ) (s : State) (us : Trees) (o : Outcome) → b ≡ false → told b n at s (with_trees us o) [] ≡ []
nothing_told b n at s us (Success t vs) e = refl
nothing_told b n at s us Failure e = rw e refl

-- outcomes of a builtin in two modes
pub record Alike (classes : Classes) (m : Mode) (n : Text) (s : State) (o : Outcome) : Type 0 where
  pub trees : Trees
  pub is : other_outcome classes m n s ≡ Some (with_trees trees o)

-- tasks, and what becomes of them by exposed rules
pub data Exposes (h : Grammar) : Task → Task → Type 0 where
  run : {m : Mode} {e x : Expression} → Wraps h (seen_mode m) (labelled e) x → Exposes h (Run m e) (Run (seen_mode m) x)
  turns : {m : Mode} {e x : Expression} → Wraps h (seen_mode m) (labelled e) x → Exposes h (Turns m e) (Turns (seen_mode m) x)
  nothing : {m : Mode} → Exposes h (Run m (Str [])) (Run (seen_mode m) (Str []))
  skipping : {m : Mode} → Exposes h (Skipping m) (Skipping (seen_mode m))

labelled_some : (e : Expression) (es : List Expression) → labelled (in_sequence (e ∷ es)) ≡ in_sequence (labelled e ∷ map labelled es)
labelled_some e [] = refl
labelled_some e (f ∷ es) = ap (Seq (labelled e)) (labelled_some f es)

copies : (n : ℕ) (e : Expression) → map labelled (replicate n e) ≡ replicate n (labelled e)
copies zero e = refl
copies (suc n) e = ap (λ es. labelled e ∷ es) (copies n e)

both : (n m : ℕ) (e f : Expression) → map labelled (replicate n e ++ replicate m f) ≡ replicate n (labelled e) ++ replicate m (labelled f)
both n m e f = map-append labelled (replicate n e) (replicate m f) ∙ ap₂ (λ x y. x ++ y) (copies n e) (copies m f)

module _ (h : Grammar) (m : Mode) where
  counted : (es : List Expression) {x : Expression} → Wraps h (seen_mode m) (in_sequence (map labelled es)) x
      → Exposes h (Run m (in_sequence es)) (Run (seen_mode m) x)
  counted [] w.str = nothing
  counted (e ∷ es) {x = x} v = run (subst (λ z. Wraps h (seen_mode m) z x) (sym (labelled_some e es)) v)

  counted_as : (es fs : List Expression) {x : Expression} → map labelled es ≡ fs → Wraps h (seen_mode m) (in_sequence fs) x
      → Exposes h (Run m (in_sequence es)) (Run (seen_mode m) x)
  counted_as es fs {x = x} q v = counted es (subst (λ z. Wraps h (seen_mode m) (in_sequence z) x) (sym q) v)

-- a rule that g calls n, and its like in the exposed rules h
pub record IsExposedAs (h : Grammar) (n : Text) (r : Rule) : Type 0 where
  pub body : Expression
  pub found : rule_of h n ≡ Some (record (labelled_rule r) { body = body })
  pub name : tag_in n ≡ None
  pub wraps : (m : Mode) → IsRuleMode m → Wraps h m (labelled r.body) body

-- the exposed rules h of g
pub record AreExposed (g h : Grammar) (classes : Classes) : Type 0 where
  pub rules : (n : Text) (r : Rule) → rule_of g n ≡ Some r → IsExposedAs h n r
  pub others : (n : Text) → rule_of g n ≡ None → tag_in n ≡ None → rule_of h n ≡ None
  pub builtins : (m : Mode) (n : Text) (s : State) (o : Outcome) → IsRuleMode m → other_outcome classes m n s ≡ Some o → tag_in n ≡ None
  pub skips : Wraps h Between (labelled skipped) skipped
  pub alike : (m : Mode) (n : Text) (s : State) (o : Outcome) → other_outcome classes m n s ≡ Some o → Alike classes (seen_mode m) n s o
  pub ends : (n : Text) → is_builtin n ≡ false → is_eoi n ≡ false

module _ (h : Grammar) (classes : Classes) where
  as_is : {k : Task} {s : State} (o : Outcome) {f : ℕ → List Text} {a : ℕ} (d : Does h classes k s o)
      → ((at : ℕ) → map label_of (expected_at at d) ≡ f at) → furthest d ≡ a → Tells h classes k s o f a
  as_is Failure d n p = record { trees = None'; found = d; names = n; same_place = p }
  as_is (Success t vs) d n p = record { trees = vs; found = d; names = n; same_place = p }

  -- a wrapper of what is run by it
  within_wrapper : {m : Mode} {n l : Text} {b : Expression} {s : State} (o : Outcome) {f : ℕ → List Text} {a : ℕ} → seen_from m ≡ true
      → rule_of h n ≡ Some (wrapper n b) → tag_in n ≡ Some l → Tells h classes (Run (body_mode (wrapper n b) m) b) s o f a
      → Tells h classes (Run m (Ident n)) s o (λ at. told true l at s o (f at)) (max (place_of true s o) a)
  within_wrapper {m = m} {n = n} {l = l} {s = s} Failure {f = f} {a = a} v e q x = record {
    trees = None';
    found = call e x.found;
    names = λ at. rw (wrapper_counts m v) (labels_told true n at s x.trees Failure (expected_at at x.found) ∙ rw (q, x.names at) refl);
    same_place = rw (wrapper_counts m v) (ap (max s.position) x.same_place);
  }
  within_wrapper {m = m} {n = n} {l = l} {s = s} (Success t vs) {f = f} {a = a} v e q x = record {
    trees = if gives_token Normal m then Tree n s.position t.position x.trees None' else x.trees;
    found = call e x.found;
    names = λ at. x.names at;
    same_place = rw (zero-max (furthest x.found)) (x.same_place ∙ sym (zero-max a));
  }

  -- a rule of what is run by it
  within_rule : {m : Mode} (l : Mode) {n : Text} {s : State} (r : Rule) (b : Expression) (o : Outcome) {f : ℕ → List Text} {a : ℕ} → seen_from m ≡ true
      → rule_of h n ≡ Some (record (labelled_rule r) { body = b }) → tag_in n ≡ None
      → Tells h classes (Run (body_mode (record (labelled_rule r) { body = b }) m) b) s o f a
      → Tells h classes (Run m (Ident n)) s (with_token r l s o) (λ at. told (is_token r) n at s o (f at)) (max (place_of (is_token r) s o) a)
  within_rule {m = m} l {n = n} {s = s} r b Failure {f = f} {a = a} v e q x = record {
    trees = None';
    found = call e x.found;
    names = λ at. rw (counts (is_trivia r.name) r.type_of m v) (labels_told (is_token r) n at s x.trees Failure (expected_at at x.found) ∙ rw (q, x.names at) refl);
    same_place = rw (counts (is_trivia r.name) r.type_of m v) (ap (max (if is_token r then s.position else 0)) x.same_place);
  }
  within_rule {m = m} l {n = n} {s = s} r b (Success t vs) {f = f} {a = a} v e q x = record {
    trees = if gives_token (token_type (is_trivia r.name) r.type_of) m then Tree r.name s.position t.position x.trees None' else x.trees;
    found = call e x.found;
    names = λ at. x.names at;
    same_place = ap (max 0) x.same_place;
  }

  within_ahead : {m : Mode} {s : State} {b : Expression} (o : Outcome) {f : ℕ → List Text} {a : ℕ}
      → Tells h classes (Run m b) s o f a → Tells h classes (Run m (PosPred b)) s (ahead s o) f a
  within_ahead Failure x = record { trees = None'; found = pos_pred x.found; names = x.names; same_place = x.same_place }
  within_ahead (Success t vs) x = record { trees = None'; found = pos_pred x.found; names = x.names; same_place = x.same_place }

  within_not_ahead : {m : Mode} {s : State} {b : Expression} (o : Outcome) {f : ℕ → List Text} {a : ℕ}
      → Tells h classes (Run m b) s o f a → Tells h classes (Run m (NegPred b)) s (not_ahead s o) (λ at. []) a
  within_not_ahead Failure x = record { trees = None'; found = neg_pred x.found; names = λ at. refl; same_place = x.same_place }
  within_not_ahead (Success t vs) x = record { trees = None'; found = neg_pred x.found; names = λ at. refl; same_place = x.same_place }

  within_push : {m : Mode} {s : State} {b : Expression} (o : Outcome) {f : ℕ → List Text} {a : ℕ}
      → Tells h classes (Run m b) s o f a → Tells h classes (Run m (Push b)) s (pushed s o) f a
  within_push Failure x = record { trees = x.trees; found = push x.found; names = x.names; same_place = x.same_place }
  within_push (Success t vs) x = record { trees = x.trees; found = push x.found; names = x.names; same_place = x.same_place }

  two_names : (as' bs cs ds : List Text) → map label_of as' ≡ cs → map label_of bs ≡ ds → map label_of (as' ++ bs) ≡ cs ++ ds
  two_names as' bs cs ds p q = map-append label_of as' bs ∙ ap₂ (λ x y. x ++ y) p q

  three_names : (as' bs cs xs ys zs : List Text) → map label_of as' ≡ xs → map label_of bs ≡ ys → map label_of cs ≡ zs
      → map label_of (as' ++ (bs ++ cs)) ≡ xs ++ (ys ++ zs)
  three_names as' bs cs xs ys zs p q r = two_names as' (bs ++ cs) xs (ys ++ zs) p (two_names bs cs ys zs q r)

  two_places : {a b c d : ℕ} → a ≡ c → b ≡ d → max a b ≡ max c d
  two_places p q = ap₂ (λ x y. max x y) p q

module _ (g h : Grammar) (classes : Classes) (a : AreExposed g h classes) where
  -- a call of a rule
  calls : (m : Mode) {n : Text} {s : State} {o : Outcome} {r : Rule} {f : ℕ → List Text} {i : ℕ} (e : rule_of g n ≡ Some r)
      → Tells h classes (Run (seen_mode (body_mode r m)) (a.rules n r e).body) s o f i
      → Tells h classes (Run (seen_mode m) (Ident n)) s (with_token r m s o) (λ at. told (is_token r) n at s o (f at)) (max (place_of (is_token r) s o) i)
  calls m {n = n} {s = s} {o = o} {r = r} {f = f} {i = i} e x =
      let q = a.rules n r e in
      within_rule h classes m r q.body o (is_seen m) q.found q.name
      (subst (λ z. Tells h classes (Run z q.body) s o f i) (inside (is_trivia r.name) r.type_of m) x)

  -- a wrapper of a task
  wraps : (m : Mode) {n l : Text} {b : Expression} {s : State} {o : Outcome} {f : ℕ → List Text} {i : ℕ} → IsRuleMode (seen_mode m)
      → rule_of h n ≡ Some (wrapper n b) → tag_in n ≡ Some l → (bytes_eq n whitespace || bytes_eq n comment) ≡ false
      → Tells h classes (Run (seen_mode m) b) s o f i
      → Tells h classes (Run (seen_mode m) (Ident n)) s o (λ at. told true l at s o (f at)) (max (place_of true s o) i)
  wraps m {n = n} {b = b} {s = s} {o = o} {f = f} {i = i} p e q c x =
      within_wrapper h classes o (is_seen m) e q
      (subst (λ z. Tells h classes (Run z b) s o f i) (wrapper_mode h classes (seen_mode m) n b p c) x)

  -- a terminal that is no name
  alone : (m : Mode) {n l : Text} {b : Expression} {s : State} (o : Outcome) → IsRuleMode (seen_mode m)
      → rule_of h n ≡ Some (wrapper n b) → tag_in n ≡ Some l → (bytes_eq n whitespace || bytes_eq n comment) ≡ false
      → (d : Does h classes (Run (seen_mode m) b) s o) → ((at : ℕ) → expected_at at d ≡ []) → furthest d ≡ 0
      → Tells h classes (Run (seen_mode m) (Ident n)) s o (λ at. told true l at s o []) (place_of true s o)
  alone m {n = n} {l = l} {b = b} {s = s} o p e q c d k i =
      let x : Tells h classes (Run (seen_mode m) b) s o (λ at. []) 0 = as_is h classes o d (λ at. ap (map label_of) (k at)) i in
      subst (λ z. Tells h classes (Run (seen_mode m) (Ident n)) s o (λ at. told true l at s o []) z) (max-zero (place_of true s o)) (wraps m p e q c x)

  -- told of an outcome with a token as of the one without
  token_told : (b : Bool) (n : Text) (r : Rule) (m : Mode) (at : ℕ) (s : State) (o : Outcome) (ns : List Text) → told b n at s (with_token r m s o) ns ≡ told b n at s o ns
  token_told b n r m at s Failure ns = refl
  token_told b n r m at s (Success t us) ns = refl

  token_place : (b : Bool) (r : Rule) (m : Mode) (s : State) (o : Outcome) → place_of b s (with_token r m s o) ≡ place_of b s o
  token_place b r m s Failure = refl
  token_place b r m s (Success t us) = refl

  again : {k : Task} {s : State} {o : Outcome} {f e : ℕ → List Text} {i j : ℕ} → Tells h classes k s o f i → ((at : ℕ) → f at ≡ e at) → i ≡ j
      → Tells h classes k s o e j
  again x p q = record { trees = x.trees; found = x.found; names = λ at. x.names at ∙ p at; same_place = x.same_place ∙ q }

  name_told : (n : Text) → tag_in n ≡ None → label_of n ≡ n
  name_told n e = ap (λ t. tag_or t n) e

  call_case : (m : Mode) {n : Text} {x : Expression} {s : State} {o : Outcome} {r : Rule} {f : ℕ → List Text} {i : ℕ} (e : rule_of g n ≡ Some r)
      (c : Bool) → Wraps h (seen_mode m) (if c then NodeTag (Ident n) n else Ident n) x
      → Tells h classes (Run (seen_mode (body_mode r m)) (a.rules n r e).body) s o f i
      → Tells h classes (Run (seen_mode m) x) s (with_token r m s o) (λ at. told (c || is_token r) n at s o (f at)) (max (place_of (c || is_token r) s o) i)
  call_case m {n = n} {s = s} {o = o} {r = r} {f = f} {i = i} e true (w.tag p k q z (w.ident u)) y =
      again (wraps m p k q z (calls m e y))
      (λ at. token_told true n r m at s o _ ∙ twice (is_token r) n at s o (f at))
      (ap (λ j. max j (max (place_of (is_token r) s o) i)) (token_place true r m s o) ∙ place_twice (is_token r) s o i)
  call_case m {n = n} {s = s} {o = o} {r = r} {f = f} {i = i} e true (w.tag p k q z (w.skipped_name u)) y =
      again (wraps m p k q z (calls m e y))
      (λ at. token_told true n r m at s o _ ∙ twice (is_token r) n at s o (f at))
      (ap (λ j. max j (max (place_of (is_token r) s o) i)) (token_place true r m s o) ∙ place_twice (is_token r) s o i)
  call_case m e false (w.ident u) y = calls m e y
  call_case m e false (w.skipped_name u) y = calls m e y

  -- a name that is no rule's, as it is
  others : (m : Mode) {n : Text} {s : State} {o : Outcome} → rule_of g n ≡ None → other_outcome classes m n s ≡ Some o → tag_in n ≡ None
      → Tells h classes (Run (seen_mode m) (Ident n)) s o (λ at. told (is_eoi n) n at s o []) (place_of (is_eoi n) s o)
  others m {n = n} {s = s} {o = o} e b q =
      let y = a.alike m n s o b in
      record {
        trees = y.trees;
        found = other (a.others n e q) y.is;
        names = λ at. rw (is_seen m) (labels_told (is_eoi n) n at s y.trees o [] ∙ rw (name_told n q) refl);
        same_place = rw (is_seen m) (place_same (is_eoi n) s y.trees o);
      }

  none_told : (n : Text) (at : ℕ) (s : State) (o : Outcome) → told false n at s o [] ≡ []
  none_told n at s Failure = refl
  none_told n at s (Success t us) = refl

  other_case : (m : Mode) (n : Text) {x : Expression} {s : State} {o : Outcome} → rule_of g n ≡ None → other_outcome classes m n s ≡ Some o
      → (c : Bool) → is_builtin n ≡ c → Wraps h (seen_mode m) (if c then NodeTag (Ident n) n else Ident n) x
      → Tells h classes (Run (seen_mode m) x) s o (λ at. told c n at s o []) (place_of c s o)
  other_case m n {s = s} {o = o} e b true i (w.tag p k q z (w.ident u)) =
      again (wraps m p k q z (others m e b (a.builtins m n s o (mode_of m p) b)))
      (λ at. twice (is_eoi n) n at s o []) (place_alone (is_eoi n) s o)
  other_case m n {s = s} {o = o} e b true i (w.tag p k q z (w.skipped_name u)) =
      again (wraps m p k q z (others m e b u))
      (λ at. twice (is_eoi n) n at s o []) (place_alone (is_eoi n) s o)
  other_case m n {s = s} {o = o} e b false i (w.ident u) =
      again (others m e b (a.builtins m n s o (mode_of m u) b)) (λ at. rw (a.ends n i) refl) (rw (a.ends n i) refl)
  other_case m n {s = s} {o = o} e b false i (w.skipped_name u) =
      again (others m e b u) (λ at. rw (a.ends n i) refl) (rw (a.ends n i) refl)

  pub tells : {k l : Task} {s : State} {o : Outcome} (d : Does g classes k s o) → Exposes h k l → Tells h classes l s o (λ at. tried_at at d) (furthest_try d)
  tells (str {m = m}) (run (w.tag p k q z w.str)) = alone m _ p k q z str (λ at. refl) refl
  tells (insens {m = m}) (run (w.tag p k q z w.insens)) = alone m _ p k q z insens (λ at. refl) refl
  tells (range {m = m}) (run (w.tag p k q z w.range)) = alone m _ p k q z range (λ at. refl) refl
  tells (slice {m = m}) (run (w.tag p k q z w.slice)) = alone m _ p k q z slice (λ at. refl) refl
  tells str nothing = as_is h classes _ str (λ at. refl) refl
  tells skip (run w.skip) = as_is h classes _ skip (λ at. refl) refl
  tells (call {m = m} {n = n} {o = o} {r = r} e d) (run v) =
      let q = a.rules n r e in
      call_case m e (is_builtin n) v
      (tells d (run {m = body_mode r m} (q.wraps (seen_mode (body_mode r m)) (rule_mode (body_mode r m) (runs_in_rule_mode r m)))))
  tells (other {m = m} {n = n} {s = s} {o = o} e b) (run v) = other_case m n e b (is_builtin n) refl v
  tells (pos_pred {o = o} d) (run {m = m} (w.pos_pred x)) = within_ahead h classes o (tells d (run {m = m} x))
  tells (neg_pred {o = o} d) (run {m = m} (w.neg_pred x)) = within_not_ahead h classes o (tells d (run {m = m} x))
  tells (push {o = o} d) (run {m = m} (w.push x)) = within_push h classes o (tells d (run {m = m} x))
  tells push_literal (run w.push_literal) = as_is h classes _ push_literal (λ at. refl) refl
  tells (tag d) (run {m = m} x) = tells d (run {m = m} x)
  tells (restore d) (run {m = m} (w.restore x)) =
      let y = tells d (run {m = m} x) in
      record { trees = y.trees; found = restore y.found; names = y.names; same_place = y.same_place }
  tells (seq c k d) (run {m = m} (w.seq x y)) =
      let p = tells c (run {m = m} x) in
      let q = tells k (skipping {m = m}) in
      let r = tells d (run {m = m} y) in
      record {
        trees = joined p.trees (joined q.trees r.trees);
        found = seq p.found q.found r.found;
        names = λ at. three_names h classes _ _ _ _ _ _ (p.names at) (q.names at) (r.names at);
        same_place = two_places h classes p.same_place (two_places h classes q.same_place r.same_place);
      }
  tells (seq_first c) (run {m = m} (w.seq x y)) =
      let p = tells c (run {m = m} x) in record { trees = None'; found = seq_first p.found; names = p.names; same_place = p.same_place }
  tells (seq_second c k d) (run {m = m} (w.seq x y)) =
      let p = tells c (run {m = m} x) in
      let q = tells k (skipping {m = m}) in
      let r = tells d (run {m = m} y) in
      record {
        trees = None';
        found = seq_second p.found q.found r.found;
        names = λ at. three_names h classes _ _ _ _ _ _ (p.names at) (q.names at) (r.names at);
        same_place = two_places h classes p.same_place (two_places h classes q.same_place r.same_place);
      }
  tells (left c) (run {m = m} (w.choice x y)) =
      let p = tells c (run {m = m} x) in record { trees = p.trees; found = left p.found; names = p.names; same_place = p.same_place }
  tells (right c d) (run {m = m} (w.choice x y)) =
      let p = tells c (run {m = m} x) in
      let q = tells d (run {m = m} y) in
      record {
        trees = q.trees;
        found = right p.found q.found;
        names = λ at. two_names h classes _ _ _ _ (p.names at) (q.names at);
        same_place = two_places h classes p.same_place q.same_place;
      }
  tells (opt c) (run {m = m} (w.opt x)) =
      let p = tells c (run {m = m} x) in record { trees = p.trees; found = opt p.found; names = p.names; same_place = p.same_place }
  tells (opt_none c) (run {m = m} (w.opt x)) =
      let p = tells c (run {m = m} x) in record { trees = None'; found = opt_none p.found; names = p.names; same_place = p.same_place }
  tells (rep c d) (run {m = m} (w.rep x)) =
      let p = tells c (run {m = m} x) in
      let q = tells d (turns {m = m} x) in
      record {
        trees = joined p.trees q.trees;
        found = rep p.found q.found;
        names = λ at. two_names h classes _ _ _ _ (p.names at) (q.names at);
        same_place = two_places h classes p.same_place q.same_place;
      }
  tells (rep_none c) (run {m = m} (w.rep x)) =
      let p = tells c (run {m = m} x) in record { trees = None'; found = rep_none p.found; names = p.names; same_place = p.same_place }
  tells (turn k c d) (turns {m = m} x) =
      let p = tells k (skipping {m = m}) in
      let q = tells c (run {m = m} x) in
      let r = tells d (turns {m = m} x) in
      record {
        trees = joined p.trees (joined q.trees r.trees);
        found = turn p.found q.found r.found;
        names = λ at. three_names h classes _ _ _ _ _ _ (p.names at) (q.names at) (r.names at);
        same_place = two_places h classes p.same_place (two_places h classes q.same_place r.same_place);
      }
  tells (turn_none k c) (turns {m = m} x) =
      let p = tells k (skipping {m = m}) in
      let q = tells c (run {m = m} x) in
      record {
        trees = None';
        found = turn_none p.found q.found;
        names = λ at. two_names h classes _ _ _ _ (p.names at) (q.names at);
        same_place = two_places h classes p.same_place q.same_place;
      }
  tells (rep_once {m = m} {e = e} d) (run (w.rep_once x)) =
      let y = tells d (run {m = m} (once h (seen_mode m) x)) in record { trees = y.trees; found = rep_once y.found; names = y.names; same_place = y.same_place }
  tells (rep_exact {e = e} {i = i} d) (run {m = m} (w.rep_exact x)) =
      let y = tells d (counted_as h m _ _ (copies i e) (exact h (seen_mode m) i x)) in
      record { trees = y.trees; found = rep_exact y.found; names = y.names; same_place = y.same_place }
  tells (rep_min {e = e} {i = i} d) (run {m = m} (w.rep_min x)) =
      let y = tells d (counted_as h m _ _ (both i 1 e (Rep e)) (least h (seen_mode m) i x)) in
      record { trees = y.trees; found = rep_min y.found; names = y.names; same_place = y.same_place }
  tells (rep_max {e = e} {i = i} d) (run {m = m} (w.rep_max x)) =
      let y = tells d (counted_as h m _ _ (copies i (Opt e)) (most h (seen_mode m) i x)) in
      record { trees = y.trees; found = rep_max y.found; names = y.names; same_place = y.same_place }
  tells (rep_min_max {e = e} {i = i} {j = j} d) (run {m = m} (w.rep_min_max x)) =
      let y = tells d (counted_as h m _ _ (both (min i j) (j - i) e (Opt e)) (within h (seen_mode m) i j x)) in
      record { trees = y.trees; found = rep_min_max y.found; names = y.names; same_place = y.same_place }
  tells (skips d) skipping =
      let y = tells d (run {m = Between} a.skips) in
      record { trees = y.trees; found = skips y.found; names = y.names; same_place = y.same_place }
  tells atomic skipping = record { trees = None'; found = compound_atomic; names = λ at. refl; same_place = refl }
  tells compound_atomic skipping = record { trees = None'; found = compound_atomic; names = λ at. refl; same_place = refl }
  tells between skipping = record { trees = None'; found = between; names = λ at. refl; same_place = refl }
