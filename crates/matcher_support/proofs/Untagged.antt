-- Tags change no tree.
use Rattle.std.proofs.Common.{◌≡◌, refl, sym, ◌∙◌, ap, Bool, true, false, Some, None, if◌then◌else◌, length, nat_eq}
use Rattle.std.specs.Char.{eq_ignore_ascii_case}
use Rattle.base_language.specs.Language.Text.{Text}
use Rattle.base_language.specs.Language.Expression.{Grammar, Rule}
use Rattle.base_language.specs.Language.State.{Classes, Mode, State, Trees, None', Tree, joined, Outcome, Success, Failure, moved}
use Rattle.base_language.specs.Language.Matching.{begins, character_outcome, end_place, place, range_set, slice_outcome, starts_in, text_outcome}
use Rattle.base_language.specs.Language.Meaning.{Does, Task, str, insens, range, slice, skip, call, other, pos_pred, neg_pred, push, restore, seq, seq_first, seq_second, left, right, opt, opt_none, rep_none, turn, turn_none, rep_exact, rep_max, rep_min_max, skips, atomic, compound_atomic, between, rep, rep_once, rep_min, push_literal, tag, gives_token, seen_from, with_token, ahead, not_ahead, pushed}
use Rattle.base_language.specs.Pieces.TokenTrees.{NoTokens, Token, followed_by}
use Rattle.matcher_support.specs.Tags.{TaggedTrees, untagged, without_tags, has_trees, with_tag, with_tree, trees_in, called, tagged}
use Rattle.matcher_support.proofs.Showing.{no_trees_if, no_trees_at}

joined_none : (us : Trees) → joined us None' ≡ us
joined_none None' = refl
joined_none (Tree n i j inner others) = ap (Tree n i j inner) (joined_none others)

joined_assoc : (us vs ws : Trees) → joined (joined us vs) ws ≡ joined us (joined vs ws)
joined_assoc None' vs ws = refl
joined_assoc (Tree n i j inner others) vs ws = ap (Tree n i j inner) (joined_assoc others vs ws)

untagged_followed : (us vs : TaggedTrees) → untagged (followed_by us vs) ≡ joined (untagged us) (untagged vs)
untagged_followed NoTokens vs = refl
untagged_followed (Token r i j inner others) vs = ap (Tree r.0 i j (untagged inner)) (untagged_followed others vs)

untagged_without : (us : Trees) → untagged (without_tags us) ≡ us
untagged_without None' = refl
untagged_without (Tree n i j inner others) =
    ap (λ x. Tree n i j x (untagged (without_tags others))) (untagged_without inner) ∙ ap (Tree n i j inner) (untagged_without others)

untagged_tag : (t : Text) (us : TaggedTrees) → untagged (with_tag t us) ≡ untagged us
untagged_tag t NoTokens = refl
untagged_tag t (Token r i j inner others) = go (has_trees others) (untagged_tag t others)
  where
    go : (b : Bool) → untagged (with_tag t others) ≡ untagged others
        → untagged (if b then Token r i j inner (with_tag t others) else Token (r.0, Some t) i j inner others) ≡ Tree r.0 i j (untagged inner) (untagged others)
    go true e = ap (Tree r.0 i j (untagged inner)) e
    go false e = refl

-- after a task, the trees of an outcome follow those before it
abbrev Adds : Outcome → (TaggedTrees → TaggedTrees) → Type 0
Adds o f = (us : TaggedTrees) → untagged (f us) ≡ joined (untagged us) (trees_in o)

none : (o : Outcome) → trees_in o ≡ None' → Adds o (λ us. us)
none o e us = rw e (sym (joined_none (untagged us)))

after_call : (r : Rule) (m : Mode) (s : State) (o : Outcome) (f : TaggedTrees → TaggedTrees) → Adds o f → Adds (with_token r m s o) (called r m s o f)
after_call r m s Failure f h us = sym (joined_none (untagged us))
after_call r m s (Success t vs) f h us = go (gives_token r.type_of m)
  where
    go : (b : Bool) → untagged (if b then with_tree r.name s.position t.position f us else f us)
        ≡ joined (untagged us) (if b then Tree r.name s.position t.position vs None' else vs)
    go true =
        untagged_followed us (Token (r.name, None) s.position t.position (f NoTokens) NoTokens)
        ∙ ap (λ x. joined (untagged us) (Tree r.name s.position t.position x None')) (h NoTokens)
    go false = h us

after_tag : (b : Bool) (t : Text) (o : Outcome) (f : TaggedTrees → TaggedTrees) → Adds o f → Adds o (λ us. if b then with_tag t (f us) else f us)
after_tag true t o f h us = untagged_tag t (f us) ∙ h us
after_tag false t o f h us = h us

no_trees_ahead : (s : State) (o : Outcome) → trees_in (ahead s o) ≡ None'
no_trees_ahead s Failure = refl
no_trees_ahead s (Success t us) = refl

no_trees_not_ahead : (s : State) (o : Outcome) → trees_in (not_ahead s o) ≡ None'
no_trees_not_ahead s Failure = refl
no_trees_not_ahead s (Success t us) = refl

trees_pushed : (s : State) (o : Outcome) → trees_in (pushed s o) ≡ trees_in o
trees_pushed s Failure = refl
trees_pushed s (Success t us) = refl

both : (us vs : Trees) (t u : State) (f h : TaggedTrees → TaggedTrees) → Adds (Success t us) f → Adds (Success u vs) h
    → Adds (Success u (joined us vs)) (λ ts. h (f ts))
both us vs t u f h p q ts = q (f ts) ∙ (ap (λ x. joined x vs) (p ts) ∙ joined_assoc (untagged ts) us vs)

module _ (g : Grammar) (classes : Classes) where
  pub adds : {k : Task} {s : State} {o : Outcome} (d : Does g classes k s o) (us : TaggedTrees) → untagged (tagged d us) ≡ joined (untagged us) (trees_in o)
  adds (str {t = t} {s = s}) us = none (text_outcome nat_eq t s) (no_trees_if (begins nat_eq t s.rest) (moved (length t) s)) us
  adds (insens {t = t} {s = s}) us = none (text_outcome eq_ignore_ascii_case t s) (no_trees_if (begins eq_ignore_ascii_case t s.rest) (moved (length t) s)) us
  adds (range {a = a} {b = b} {s = s}) us = none (character_outcome (range_set a b) s) (no_trees_if (starts_in (range_set a b) s.rest) (moved 1 s)) us
  adds (slice {i = i} {j = j} {s = s}) us = none (slice_outcome i j s) (no_trees_at (place (length s.stack) i) (end_place (length s.stack) j) s) us
  adds skip us = sym (joined_none (untagged us))
  adds (call {m = m} {s = s} {o = o} {r = r} e d) us = after_call r m s o (tagged d) (adds d) us
  adds (other {o = o} e b) us = untagged_followed us (without_tags (trees_in o)) ∙ ap (joined (untagged us)) (untagged_without (trees_in o))
  adds (pos_pred {s = s} {o = o} d) us = none (ahead s o) (no_trees_ahead s o) us
  adds (neg_pred {s = s} {o = o} d) us = none (not_ahead s o) (no_trees_not_ahead s o) us
  adds (push {s = s} {o = o} d) us = adds d us ∙ ap (joined (untagged us)) (sym (trees_pushed s o))
  adds push_literal us = sym (joined_none (untagged us))
  adds (tag {m = m} {t = t} {o = o} d) us = after_tag (seen_from m) t o (tagged d) (adds d) us
  adds (restore d) us = adds d us
  adds (seq {t = t} {u = u} {v = v} {us = us} {vs = vs} {ws = ws} a k b) ts =
      both us (joined vs ws) t v (tagged a) (λ x. tagged b (tagged k x)) (adds a)
      (both vs ws u v (tagged k) (tagged b) (adds k) (adds b)) ts
  adds (seq_first a) us = sym (joined_none (untagged us))
  adds (seq_second a k b) us = sym (joined_none (untagged us))
  adds (left a) us = adds a us
  adds (right a b) us = adds b us
  adds (opt a) us = adds a us
  adds (opt_none a) us = sym (joined_none (untagged us))
  adds (rep {t = t} {u = u} {us = us} {vs = vs} a b) ts = both us vs t u (tagged a) (tagged b) (adds a) (adds b) ts
  adds (rep_none a) us = sym (joined_none (untagged us))
  adds (turn {t = t} {u = u} {v = v} {us = us} {vs = vs} {ws = ws} k a b) ts =
      both us (joined vs ws) t v (tagged k) (λ x. tagged b (tagged a x)) (adds k)
      (both vs ws u v (tagged a) (tagged b) (adds a) (adds b)) ts
  adds (turn_none k a) us = sym (joined_none (untagged us))
  adds (rep_once d) us = adds d us
  adds (rep_exact d) us = adds d us
  adds (rep_min d) us = adds d us
  adds (rep_max d) us = adds d us
  adds (rep_min_max d) us = adds d us
  adds (skips d) us = adds d us
  adds atomic us = sym (joined_none (untagged us))
  adds compound_atomic us = sym (joined_none (untagged us))
  adds between us = sym (joined_none (untagged us))
