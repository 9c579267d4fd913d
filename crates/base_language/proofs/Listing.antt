-- Where nothing is skipped, what `(x ~ y)* ~ x` matches `x ~ (y ~ x)*` matches.
use Rattle.std.proofs.Common.{◌≡◌, ◌⊎◌, inl, inr, sym, ◌∙◌, ap, ap₂, subst}
use Rattle.base_language.specs.Language.Expression.{Grammar, Expression, Seq, Rep}
use Rattle.base_language.specs.Language.State.{Classes, Mode, AtomicMode, CompoundAtomicMode, State, Trees, None', joined, Outcome, Success, Failure}
use Rattle.base_language.specs.Language.Meaning.{Does, Task, Run, Turns, Skipping, seq, seq_first, seq_second, rep_none, turn, turn_none, atomic, compound_atomic, rep}
use Rattle.base_language.proofs.OneOutcome.{same, same_state, same_trees, from}
use Rattle.base_language.specs.Rewritings.Listing.{ListingKeeps}
use Rattle.base_language.proofs.Listed.{listed-turns}
use Rattle.base_language.proofs.Steps.{joined_assoc, joined_nil}

same_joined : (us is vs ws js ks f l : Trees) → us ≡ None' → vs ≡ None' → joined js ks ≡ joined f l → joined (joined us (joined (joined is (joined vs ws)) js)) ks ≡ joined is (joined (joined ws f) l)
same_joined us is vs ws js ks f l p q r =
    ap₂ (λ a b. joined (joined a (joined (joined is (joined b ws)) js)) ks) p q
    ∙ (joined_assoc (joined is ws) js ks ∙ (joined_assoc is ws (joined js ks) ∙ (ap (λ a. joined is (joined ws a)) r ∙ ap (λ a. joined is a) (sym (joined_assoc ws f l)))))

module _ (g : Grammar) (classes : Classes) (m : Mode) (nothing : (s : State) → Does g classes (Skipping m) s (Success s None')) where
  abbrev Goes : Expression → State → State → Trees → Type 0
  Goes e s t us = Does g classes (Run m e) s (Success t us)

  -- x, y and back
  stays_put : {s t : State} {us : Trees} → Does g classes (Skipping m) s (Success t us) → (t ≡ s) × (us ≡ None')
  stays_put {s} k = let h = same g classes (nothing s) k in (sym (same_state h), sym (same_trees h))

  with_trees : {k : Task} {s t : State} {us vs : Trees} → us ≡ vs → Does g classes k s (Success t us) → Does g classes k s (Success t vs)
  with_trees {k} {s} {t} e d = subst (λ x. Does g classes k s (Success t x)) e d

  module _ (x y : Expression) where
    -- x, then turns of y ~ x
    pub record Listed (s w : State) (us : Trees) : Type 0 where
      pub middle : State
      pub first : Trees
      pub later : Trees
      pub goes : Goes x s middle first
      pub turns : Does g classes (Turns m (Seq y x)) middle (Success w later)
      pub trees : us ≡ joined first later

    fails_behind : {s w : State} {us : Trees} → Goes x s w us → Does g classes (Run m (Seq x y)) s Failure → Does g classes (Run m (Seq y x)) w Failure
    fails_behind d (seq_first e) = let h = same g classes d e in cc
    fails_behind d (seq_second e k f) =
        let i = stays_put k in
        let h = same_state (same g classes d e) in
        seq_first (from g classes (h ∙ sym i.0) f)

    listed : {s v w : State} {us ws : Trees} → Does g classes (Turns m (Seq x y)) s (Success v us) → Goes x v w ws → Listed s w (joined us ws)
    listed {w = w} {ws = ws} (turn_none {s = s} k d) e = record {
      middle = w;
      first = ws;
      later = None';
      goes = e;
      turns = turn_none (nothing w) (fails_behind e (from g classes (sym (stays_put k).0) d));
      trees = sym (joined_nil ws);
    }
    listed {ws = ks} (turn {us = us} {ws = js} k (seq {t = t} {u = u} {v = z} {us = is} {vs = vs} {ws = ws} a l b) c) e =
        let r = listed c e in
        let i = stays_put k in
        let j = stays_put l in
        record {
          middle = t;
          first = is;
          later = joined (joined ws r.first) r.later;
          goes = from g classes (sym i.0) a;
          turns = turn (nothing t) (seq (from g classes (sym j.0) b) (nothing z) r.goes) r.turns;
          trees = same_joined us is vs ws js ks r.first r.later i.1 j.1 r.trees;
        }

    turns_of_rep : {s : State} {o : Outcome} {e : Expression} → Does g classes (Run m (Rep e)) s o → Does g classes (Turns m e) s o
    turns_of_rep {s = s} (rep a b) = turn (nothing s) a b
    turns_of_rep {s = s} (rep_none a) = turn_none (nothing s) a

    rep_of_turns : {s v : State} {us : Trees} {e : Expression} → Does g classes (Turns m e) s (Success v us) → Does g classes (Run m (Rep e)) s (Success v us)
    rep_of_turns (turn {vs = vs} {ws = ws} k a b) =
        let i = stays_put k in
        with_trees (ap (λ q. joined q (joined vs ws)) (sym i.1)) (rep (from g classes (sym i.0) a) b)
    rep_of_turns (turn_none k a) = rep_none (from g classes (sym (stays_put k).0) a)

    pub keeps_success : {s w : State} {us : Trees} → Goes (Seq (Rep (Seq x y)) x) s w us → Goes (Seq x (Rep (Seq y x))) s w us
    keeps_success (seq {us = us} {vs = vs} {ws = ws} a k b) =
        let i = stays_put k in
        let r = listed (turns_of_rep a) (from g classes (sym i.0) b) in
        with_trees (sym r.trees ∙ ap (λ q. joined us (joined q ws)) (sym i.1)) (seq r.goes (nothing r.middle) (rep_of_turns r.turns))

nothing_in : (g : Grammar) (classes : Classes) (m : Mode) → (m ≡ AtomicMode) ⊎ (m ≡ CompoundAtomicMode) → (s : State) → Does g classes (Skipping m) s (Success s None')
nothing_in g classes m (inl e) s = subst (λ m. Does g classes (Skipping m) s (Success s None')) (sym e) atomic
nothing_in g classes m (inr e) s = subst (λ m. Does g classes (Skipping m) s (Success s None')) (sym e) compound_atomic

pub listing_keeps : ListingKeeps
listing_keeps g classes x y m s t us h stays d =
    subst (λ e. Does g classes (Run m e) s (Success t us)) (sym (listed-turns x y stays)) (keeps_success g classes m (nothing_in g classes m h) x y d)
