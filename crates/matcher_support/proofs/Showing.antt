-- A match has its like by wrapped rules, whose trees show its tagged trees.
use Rattle.std.proofs.Common.{◌≡◌, refl, sym, ◌∙◌, ap, subst, ℕ, Bool, true, false, ◌||◌, Option, Some, None, if◌then◌else◌, bytes_eq, length}
use Rattle.base_language.specs.Language.Text.{Text}
use Rattle.base_language.specs.Language.Expression.{Grammar, Rule, Expression, Ident, PosPred, NegPred, Push, rule_of, whitespace, comment}
use Rattle.base_language.specs.Language.State.{Classes, State, Mode, NonAtomicMode, AtomicMode, CompoundAtomicMode, Between, IsRuleMode, Trees, None', Tree, joined, Outcome, Success, Failure}
use Rattle.base_language.specs.Language.Matching.{slice_at, place, end_place, other_outcome}
use Rattle.base_language.specs.Language.Meaning.{Does, Task, Run, str, insens, range, slice, skip, call, other, pos_pred, neg_pred, push, restore, seq, seq_first, seq_second, left, right, opt, opt_none, rep_none, turn, turn_none, rep_exact, rep_max, rep_min_max, skips, atomic, compound_atomic, between, rep, rep_once, rep_min, push_literal, tag, inherited, body_mode, gives_token, seen_from, with_token, ahead, not_ahead, pushed}
use Rattle.base_language.specs.Pieces.TokenTrees.{NoTokens, Token, followed_by}
use Rattle.base_language.proofs.RuleModes.{runs_in_rule_mode}
use Rattle.matcher_support.specs.Names.{tag_in}
use Rattle.matcher_support.specs.Wrapped.{wrapper}
use Rattle.matcher_support.specs.Tags.{TaggedTrees, with_tag, with_tree, without_tags, trees_in, called, tagged}
use Rattle.matcher_support.specs.Spliced.{spliced, Shows}
use Rattle.matcher_support.proofs.Naming.{unmarked_whitespace, unmarked_comment}
use Rattle.matcher_support.proofs.Splicing.{spliced_joined, spliced_three}
use Rattle.matcher_support.proofs.Wraps.{Wraps, WrapsTask, run, turns, skipping, ident, skipped_name, once, exact, least, most, within, skipping_wraps}
use Rattle.matcher_support.proofs.Wraps as w

-- outcomes without trees
pub no_trees_if : (b : Bool) (t : State) → trees_in (if b then Success t None' else Failure) ≡ None'
no_trees_if true t = refl
no_trees_if false t = refl

pub no_trees_at : (i j : Option ℕ) (s : State) → trees_in (slice_at i j s) ≡ None'
no_trees_at (Some i) (Some j) s = no_trees_if _ _
no_trees_at (Some i) None s = refl
no_trees_at None j s = refl

-- whether to tag, on both sides
tag_both : (b : Bool) (t n : Text) (i j : ℕ) (f : TaggedTrees → TaggedTrees) (vs : Trees) (us : TaggedTrees) → tag_in n ≡ Some t
    → f us ≡ spliced vs us → (if b then with_tag t (f us) else f us) ≡ spliced (if b then Tree n i j vs None' else vs) us
tag_both true t n i j f vs us h e = rw h (ap (with_tag t) e)
tag_both false t n i j f vs us h e = e

-- whether to give a token, on both sides
token_both : (b : Bool) (n : Text) (i j : ℕ) (f : TaggedTrees → TaggedTrees) (vs : Trees) (us : TaggedTrees) → tag_in n ≡ None
    → ((us : TaggedTrees) → f us ≡ spliced vs us)
    → (if b then with_tree n i j f us else f us) ≡ spliced (if b then Tree n i j vs None' else vs) us
token_both true n i j f vs us h e = rw h (ap (λ ts. followed_by us (Token (n, None) i j ts NoTokens)) (e NoTokens))
token_both false n i j f vs us h e = e us

-- a rule that g calls n, and its like in the wrapped rules h
pub record IsWrappedAs (h : Grammar) (n : Text) (r : Rule) : Type 0 where
  pub body : Expression
  pub found : rule_of h n ≡ Some (record r { body = body })
  pub name : tag_in r.name ≡ None
  pub wraps : (m : Mode) → IsRuleMode m → Wraps h m r.body body

-- the wrapped rules h of g
pub record AreWrapped (g h : Grammar) (classes : Classes) : Type 0 where
  pub rules : (n : Text) (r : Rule) → rule_of g n ≡ Some r → IsWrappedAs h n r
  pub others : (n : Text) → rule_of g n ≡ None → tag_in n ≡ None → rule_of h n ≡ None
  pub builtins : (m : Mode) (n : Text) (s : State) (o : Outcome) → IsRuleMode m → other_outcome classes m n s ≡ Some o → tag_in n ≡ None
  pub tokens : (m : Mode) (n : Text) (s : State) (o : Outcome) (us : TaggedTrees) → other_outcome classes m n s ≡ Some o
      → followed_by us (without_tags (trees_in o)) ≡ spliced (trees_in o) us

module _ (h : Grammar) (classes : Classes) where
  as_is : {k : Task} {s : State} (o : Outcome) {f : TaggedTrees → TaggedTrees} → ((us : TaggedTrees) → f us ≡ spliced (trees_in o) us)
      → Does h classes k s o → Shows h classes k s o f
  as_is Failure e d = record { trees = None'; found = d; same = e }
  as_is (Success t vs) e d = record { trees = vs; found = d; same = e }

  bare : {k : Task} {s : State} (o : Outcome) → trees_in o ≡ None' → Does h classes k s o → Shows h classes k s o (λ us. us)
  bare o e d = as_is o (λ us. rw e refl) d

  after_call : {m : Mode} {n : Text} {s : State} (r : Rule) (b : Expression) (o : Outcome) {f : TaggedTrees → TaggedTrees}
      → rule_of h n ≡ Some (record r { body = b }) → tag_in r.name ≡ None
      → Shows h classes (Run (body_mode r m) b) s o f
      → Shows h classes (Run m (Ident n)) s (with_token r m s o) (called r m s o f)
  after_call r b Failure e q x = record { trees = None'; found = call e x.found; same = λ us. refl }
  after_call {m = m} {s = s} r b (Success t vs) {f = f} e q x = record {
    trees = if gives_token r.type_of m then Tree r.name s.position t.position x.trees None' else x.trees;
    found = call e x.found;
    same = λ us. token_both (gives_token r.type_of m) r.name s.position t.position f x.trees us q x.same;
  }

  inherits : (m : Mode) → IsRuleMode m → inherited false m ≡ m
  inherits NonAtomicMode p = refl
  inherits AtomicMode p = refl
  inherits CompoundAtomicMode p = refl
  inherits Between p = absurd p

  pub wrapper_mode : (m : Mode) (n : Text) (b : Expression) → IsRuleMode m → (bytes_eq n whitespace || bytes_eq n comment) ≡ false → m ≡ body_mode (wrapper n b) m
  wrapper_mode m n b p e = rw e (sym (inherits m p))

  after_tag : {m : Mode} {n t : Text} {s : State} {b : Expression} (o : Outcome) {f : TaggedTrees → TaggedTrees}
      → rule_of h n ≡ Some (wrapper n b) → tag_in n ≡ Some t
      → Shows h classes (Run (body_mode (wrapper n b) m) b) s o f
      → Shows h classes (Run m (Ident n)) s o (λ us. if seen_from m then with_tag t (f us) else f us)
  after_tag {m = m} {n = n} {t = t} {s = s} Failure {f = f} e q x = record {
    trees = if seen_from m then Tree n 0 0 x.trees None' else x.trees;
    found = call e x.found;
    same = λ us. tag_both (seen_from m) t n 0 0 f x.trees us q (x.same us);
  }
  after_tag {m = m} {n = n} {t = t} {s = s} (Success u vs) {f = f} e q x = record {
    trees = if seen_from m then Tree n s.position u.position x.trees None' else x.trees;
    found = call e x.found;
    same = λ us. tag_both (seen_from m) t n s.position u.position f x.trees us q (x.same us);
  }

  after_ahead : {m : Mode} {s : State} {b : Expression} (o : Outcome) {f : TaggedTrees → TaggedTrees}
      → Shows h classes (Run m b) s o f → Shows h classes (Run m (PosPred b)) s (ahead s o) (λ us. us)
  after_ahead Failure x = record { trees = None'; found = pos_pred x.found; same = λ us. refl }
  after_ahead (Success t vs) x = record { trees = None'; found = pos_pred x.found; same = λ us. refl }

  after_not_ahead : {m : Mode} {s : State} {b : Expression} (o : Outcome) {f : TaggedTrees → TaggedTrees}
      → Shows h classes (Run m b) s o f → Shows h classes (Run m (NegPred b)) s (not_ahead s o) (λ us. us)
  after_not_ahead Failure x = record { trees = None'; found = neg_pred x.found; same = λ us. refl }
  after_not_ahead (Success t vs) x = record { trees = None'; found = neg_pred x.found; same = λ us. refl }

  after_push : {m : Mode} {s : State} {b : Expression} (o : Outcome) {f : TaggedTrees → TaggedTrees}
      → Shows h classes (Run m b) s o f → Shows h classes (Run m (Push b)) s (pushed s o) f
  after_push Failure x = record { trees = x.trees; found = push x.found; same = x.same }
  after_push (Success t vs) x = record { trees = x.trees; found = push x.found; same = x.same }

module _ (g h : Grammar) (classes : Classes) (a : AreWrapped g h classes) where
  pub shows : {k l : Task} {s : State} {o : Outcome} (d : Does g classes k s o) → WrapsTask h k l → Shows h classes l s o (tagged d)
  shows (str {t = t} {s = s}) (run w.str) = bare h classes _ (no_trees_if _ _) str
  shows (insens {t = t} {s = s}) (run w.insens) = bare h classes _ (no_trees_if _ _) insens
  shows range (run w.range) = bare h classes _ (no_trees_if _ _) range
  shows (slice {i = i} {j = j} {s = s}) (run w.slice) = bare h classes _ (no_trees_at (place (length s.stack) i) (end_place (length s.stack) j) s) slice
  shows skip (run w.skip) = bare h classes _ refl skip
  shows (call {m = m} {n = n} {o = o} {r = r} e d) (run (w.ident p)) =
      let x = a.rules n r e in
      after_call h classes r x.body o x.found x.name (shows d (run (x.wraps (body_mode r m) (runs_in_rule_mode r m))))
  shows (call {m = m} {n = n} {o = o} {r = r} e d) (run (w.skipped_name p)) =
      let x = a.rules n r e in
      after_call h classes r x.body o x.found x.name (shows d (run (x.wraps (body_mode r m) (runs_in_rule_mode r m))))
  shows (other {m = m} {n = n} {s = s} {o = o} e b) (run (w.ident p)) =
      as_is h classes o (λ us. a.tokens m n s o us b) (other (a.others n e (a.builtins m n s o p b)) b)
  shows (other {m = m} {n = n} {s = s} {o = o} e b) (run (w.skipped_name p)) =
      as_is h classes o (λ us. a.tokens m n s o us b) (other (a.others n e p) b)
  shows (pos_pred {o = o} d) (run (w.pos_pred x)) = after_ahead h classes o (shows d (run x))
  shows (neg_pred {o = o} d) (run (w.neg_pred x)) = after_not_ahead h classes o (shows d (run x))
  shows (push {o = o} d) (run (w.push x)) = after_push h classes o (shows d (run x))
  shows push_literal (run w.push_literal) = bare h classes _ refl push_literal
  shows (tag {m = m} {s = s} {o = o} d) (run (w.tag {b = b} {n = n} p e q f x)) =
      let y = shows d (run x) in
      after_tag h classes o e q (subst (λ z. Shows h classes (Run z b) s o (tagged d)) (wrapper_mode h classes m n b p f) y)
  shows (restore d) (run (w.restore x)) =
      let y = shows d (run x) in
      record { trees = y.trees; found = restore y.found; same = y.same }
  shows (seq c k d) (run (w.seq x y)) =
      let p = shows c (run x) in
      let q = shows k skipping in
      let r = shows d (run y) in
      record {
        trees = joined p.trees (joined q.trees r.trees);
        found = seq p.found q.found r.found;
        same = λ us. r.same _ ∙ (ap (spliced r.trees) (q.same _ ∙ ap (spliced q.trees) (p.same us)) ∙ sym (spliced_three p.trees q.trees r.trees us));
      }
  shows (seq_first c) (run (w.seq x y)) =
      let p = shows c (run x) in record { trees = None'; found = seq_first p.found; same = λ us. refl }
  shows (seq_second c k d) (run (w.seq x y)) =
      let p = shows c (run x) in
      let q = shows k skipping in
      let r = shows d (run y) in
      record { trees = None'; found = seq_second p.found q.found r.found; same = λ us. refl }
  shows (left c) (run (w.choice x y)) =
      let p = shows c (run x) in record { trees = p.trees; found = left p.found; same = p.same }
  shows (right c d) (run (w.choice x y)) =
      let p = shows c (run x) in
      let q = shows d (run y) in
      record { trees = q.trees; found = right p.found q.found; same = q.same }
  shows (opt c) (run (w.opt x)) =
      let p = shows c (run x) in record { trees = p.trees; found = opt p.found; same = p.same }
  shows (opt_none c) (run (w.opt x)) =
      let p = shows c (run x) in record { trees = None'; found = opt_none p.found; same = λ us. refl }
  shows (rep c d) (run (w.rep x)) =
      let p = shows c (run x) in
      let q = shows d (turns x) in
      record {
        trees = joined p.trees q.trees;
        found = rep p.found q.found;
        same = λ us. q.same _ ∙ (ap (spliced q.trees) (p.same us) ∙ sym (spliced_joined p.trees q.trees us));
      }
  shows (rep_none c) (run (w.rep x)) =
      let p = shows c (run x) in record { trees = None'; found = rep_none p.found; same = λ us. refl }
  shows (turn k c d) (turns x) =
      let p = shows k skipping in
      let q = shows c (run x) in
      let r = shows d (turns x) in
      record {
        trees = joined p.trees (joined q.trees r.trees);
        found = turn p.found q.found r.found;
        same = λ us. r.same _ ∙ (ap (spliced r.trees) (q.same _ ∙ ap (spliced q.trees) (p.same us)) ∙ sym (spliced_three p.trees q.trees r.trees us));
      }
  shows (turn_none k c) (turns x) =
      let p = shows k skipping in
      let q = shows c (run x) in
      record { trees = None'; found = turn_none p.found q.found; same = λ us. refl }
  shows (rep_once {m = m} d) (run (w.rep_once x)) =
      let y = shows d (run (once h m x)) in record { trees = y.trees; found = rep_once y.found; same = y.same }
  shows (rep_exact {m = m} {i = i} d) (run (w.rep_exact x)) =
      let y = shows d (run (exact h m i x)) in record { trees = y.trees; found = rep_exact y.found; same = y.same }
  shows (rep_min {m = m} {i = i} d) (run (w.rep_min x)) =
      let y = shows d (run (least h m i x)) in record { trees = y.trees; found = rep_min y.found; same = y.same }
  shows (rep_max {m = m} {i = i} d) (run (w.rep_max x)) =
      let y = shows d (run (most h m i x)) in record { trees = y.trees; found = rep_max y.found; same = y.same }
  shows (rep_min_max {m = m} {i = i} {j = j} d) (run (w.rep_min_max x)) =
      let y = shows d (run (within h m i j x)) in record { trees = y.trees; found = rep_min_max y.found; same = y.same }
  shows (skips d) skipping =
      let y = shows d (run (skipping_wraps h Between unmarked_whitespace unmarked_comment)) in
      record { trees = y.trees; found = skips y.found; same = y.same }
  shows atomic skipping = record { trees = None'; found = atomic; same = λ us. refl }
  shows compound_atomic skipping = record { trees = None'; found = compound_atomic; same = λ us. refl }
  shows between skipping = record { trees = None'; found = between; same = λ us. refl }
