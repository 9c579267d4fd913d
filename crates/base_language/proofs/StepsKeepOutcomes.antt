-- A step keeps what every expression does, also in recursive grammars.
use Rattle.std.proofs.Common.{◌≡◌, ◌⊎◌, inl, inr, List, [], ◌∷◌, Bool, true, false, if◌then◌else◌, Option, Some, None, refl, sym, ◌∙◌, ap, subst, bytes_eq, codes}
use Rattle.base_language.specs.Language.Expression.{Grammar, Expression, Ident, RuleType, Rule, rule_of, or_else}
use Rattle.base_language.specs.Language.State.{Classes, Mode, State, Outcome, Success, Failure}
use Rattle.base_language.specs.Language.Text.{Text}
use Rattle.base_language.specs.Language.Meaning.{Does, Task, Run, str, insens, range, slice, skip, call, other, pos_pred, neg_pred, push, restore, seq, seq_first, seq_second, left, right, opt, opt_none, rep_none, turn, turn_none, rep_exact, rep_max, rep_min_max, skips, atomic, compound_atomic, between, body_mode, with_token, rep, rep_once, rep_min, push_literal, tag}
use Rattle.base_language.specs.Rewritings.Rewriting.{by_joining, by_skipping, by_unrolling, by_rotating, by_factoring, Strings, one, named, more, rotate_choice, factor_prefix, factor_optional, factor_optional_compound, factor_absorbed, Within, here, in_choice_left, in_choice_right, Changed, this, later, Step, Chain, done, step, KeepsAny, SameOutcomes, Rewrites, EachBody, no_rules, also_rule, Many, Rotates, Unrolls, Joins, Factors}
use Rattle.base_language.proofs.Congruence as same
use Rattle.base_language.proofs.Congruence.{Implies}
use Rattle.base_language.proofs.Anywhere as anywhere
use Rattle.base_language.proofs.Anywhere.{Alike}
use Rattle.base_language.proofs.RewritingsKeepOutcomes.{RunsIn, runs_in, forth, back, rotates_forth, rotates_back, unrolls_forth, unrolls_back, joins_forth, joins_back, factors_forth, factors_back}
use Rattle.base_language.proofs.Basics.{same_some}

-- 1. any place of a body, over any grammar f in which names stand for the same strings
module _ (g f : Grammar) (classes : Classes) (free : KeepsAny f) (known : (c : Expression) (ts : List Text) → Strings g c ts → Strings f c ts) where
  within : {y : RuleType} {m : Mode} {a b : Expression} → RunsIn y m → Within (Rewrites g y) a b → Alike f classes m a b
  within {y} {m} r w = anywhere.within f classes m (Rewrites g y) (λ a b w. (forth g f classes free known w r, back g f classes free known w r)) w

-- 2. the rules of one name: none, or two that differ in their bodies alone
pub data Matched (R : RuleType → Expression → Expression → Type 0) : Option Rule → Option Rule → Type 0 where
  neither : Matched R None None
  two : {r : Rule} {b : Expression} → R r.type_of r.body b → Matched R (Some r) (Some (record r { body = b }))

module _ (R : RuleType → Expression → Expression → Type 0) where
  abbrev Turned : RuleType → Expression → Expression → Type 0
  Turned y a b = R y b a

  turned : {p q : Option Rule} → Matched R p q → Matched Turned q p
  turned neither = neither
  turned (two {r = r} {b = b} x) = two {r = record r { body = b }} {b = r.body} x

  pub no_rule : {p q : Option Rule} → Matched R p q → p ≡ None → q ≡ None
  no_rule neither e = refl
  no_rule (two x) e = cc

  pair_here : (c : Bool) (r : Rule) {b : Expression} → R r.type_of r.body b → Matched R (if c then Some r else None) (if c then Some (record r { body = b }) else None)
  pair_here true r x = two x
  pair_here false r x = neither

  pair_if : (c : Bool) (r : Rule) {b : Expression} {p q : Option Rule} → R r.type_of r.body b → Matched R p q → Matched R (or_else p (if c then Some r else None)) (or_else q (if c then Some (record r { body = b }) else None))
  pair_if c r x neither = pair_here c r x
  pair_if c r x (two y) = two y

  module _ (unchanged : (y : RuleType) (a : Expression) → R y a a) where
    all_same : (rs : Grammar) (n : Text) → Matched R (rule_of rs n) (rule_of rs n)
    all_same [] n = neither
    all_same (r ∷ rs) n = pair_if (bytes_eq r.name n) r (unchanged r.type_of r.body) (all_same rs n)

    pub pairs : {g rs qs : Grammar} → ((y : RuleType) (a b : Expression) → Within (Rewrites g y) a b → R y a b) → Changed g rs qs → (n : Text) → Matched R (rule_of rs n) (rule_of qs n)
    pairs p (this {r = r} {rs = rs} w) n = pair_if (bytes_eq r.name n) r (p _ _ _ w) (all_same rs n)
    pairs p (later {r = r} c) n = pair_if (bytes_eq r.name n) r (unchanged r.type_of r.body) (pairs p c n)

token_of : (r : Rule) (b : Expression) (m : Mode) (s : State) (o : Outcome) → with_token (record r { body = b }) m s o ≡ with_token r m s o
token_of r b m s Failure = refl
token_of r b m s (Success t us) = refl

-- 3. a derivation over one grammar becomes one over another
module _ (g h : Grammar) (classes : Classes) where
  abbrev Over : RuleType → Expression → Expression → Type 0
  Over y a b = (m : Mode) → RunsIn y m → Implies h classes m a b

  module _ (rules : (n : Text) → Matched Over (rule_of g n) (rule_of h n)) where
    called : {n : Text} {m : Mode} {s : State} {o : Outcome} {r : Rule} {p q : Option Rule} → Matched Over p q → p ≡ Some r → rule_of h n ≡ q → Does h classes (Run (body_mode r m) r.body) s o → Does h classes (Run m (Ident n)) s (with_token r m s o)
    called neither e k d = cc
    called {n = n} {m = m} {s = s} {o = o} (two {r = q} {b = b} x) e k d =
        let i = subst (λ r. Does h classes (Run (body_mode r m) r.body) s o) (sym (same_some e)) d in
        let j = call k (x _ (runs_in q.type_of _ m) s o i) in
        subst (λ p. Does h classes (Run m (Ident n)) s p) (token_of q b m s o ∙ ap (λ r. with_token r m s o) (same_some e)) j

    carried : {k : Task} {s : State} {o : Outcome} → Does g classes k s o → Does h classes k s o
    carried str = str
    carried insens = insens
    carried range = range
    carried slice = slice
    carried skip = skip
    carried (call {n = n} e d) = called (rules n) e refl (carried d)
    carried (other {n = n} e b) = other (no_rule Over (rules n) e) b
    carried (pos_pred d) = pos_pred (carried d)
    carried (neg_pred d) = neg_pred (carried d)
    carried (push d) = push (carried d)
    carried push_literal = push_literal
    carried (tag d) = tag (carried d)
    carried (restore d) = restore (carried d)
    carried (seq a k b) = seq (carried a) (carried k) (carried b)
    carried (seq_first a) = seq_first (carried a)
    carried (seq_second a k b) = seq_second (carried a) (carried k) (carried b)
    carried (left a) = left (carried a)
    carried (right a b) = right (carried a) (carried b)
    carried (opt a) = opt (carried a)
    carried (opt_none a) = opt_none (carried a)
    carried (rep a b) = rep (carried a) (carried b)
    carried (rep_none a) = rep_none (carried a)
    carried (turn k a b) = turn (carried k) (carried a) (carried b)
    carried (turn_none k a) = turn_none (carried k) (carried a)
    carried (rep_once d) = rep_once (carried d)
    carried (rep_exact d) = rep_exact (carried d)
    carried (rep_min d) = rep_min (carried d)
    carried (rep_max d) = rep_max (carried d)
    carried (rep_min_max d) = rep_min_max (carried d)
    carried (skips d) = skips (carried d)
    carried atomic = atomic
    carried compound_atomic = compound_atomic
    carried between = between

-- 4. names stand for the same strings behind a step, since there is no step within what stands for strings
not_within : {g : Grammar} {y : RuleType} {e b : Expression} {ts : List Text} → Strings g e ts → Within (Rewrites g y) e b → ⊥
not_within one (here (by_rotating w)) = elim w [ ]
not_within one (here (by_unrolling w)) = elim w [ ]
not_within one (here (by_skipping w)) = elim w [ ]
not_within one (here (by_joining w)) = elim w [ ]
not_within one (here (by_factoring w)) = elim w [ ]
not_within (named e d) (here (by_rotating w)) = elim w [ ]
not_within (named e d) (here (by_unrolling w)) = elim w [ ]
not_within (named e d) (here (by_skipping w)) = elim w [ ]
not_within (named e d) (here (by_joining w)) = elim w [ ]
not_within (named e d) (here (by_factoring w)) = elim w [ ]
not_within (more l d f) (here (by_unrolling w)) = elim w [ ]
not_within (more l d f) (here (by_skipping w)) = elim w [ ]
not_within (more l d f) (here (by_joining w)) = elim w [ ]
not_within (more l d f) (here (by_rotating rotate_choice)) = elim l [ ]
not_within (more l d f) (here (by_factoring factor_prefix)) = elim l [ ]
not_within (more l d f) (here (by_factoring factor_optional)) = elim l [ ]
not_within (more l d f) (here (by_factoring factor_optional_compound)) = elim l [ ]
not_within (more l d f) (here (by_factoring factor_absorbed)) = elim f [ ]
not_within (more l d f) (in_choice_left w) = not_within d w
not_within (more l d f) (in_choice_right w) = not_within f w

abbrev pub Differs : Grammar → RuleType → Expression → Expression → Type 0
Differs g y a b = (a ≡ b) ⊎ Within (Rewrites g y) a b

module _ (g h : Grammar) where
  named_by : {n : Text} {r : Rule} {p q : Option Rule} {ts : List Text} → Matched (Differs g) p q → p ≡ Some r → rule_of h n ≡ q → Strings g r.body ts → Strings h r.body ts → Strings h (Ident n) ts
  named_by neither e k d i = cc
  named_by {ts = ts} (two (inl j)) e k d i = named k (subst (λ x. Strings h x ts) (sym (ap (λ r. r.body) (same_some e)) ∙ j) i)
  named_by {ts = ts} (two (inr w)) e k d i = absurd (not_within (subst (λ r. Strings g r.body ts) (sym (same_some e)) d) w)

  pub still_known : {c : Expression} {ts : List Text} → ((n : Text) → Matched (Differs g) (rule_of g n) (rule_of h n)) → Strings g c ts → Strings h c ts
  still_known p one = one
  still_known p (named {n = n} e d) = named_by (p n) e refl d (still_known p d)
  still_known p (more l d f) = more l (still_known p d) (still_known p f)

pub differs : {g h : Grammar} → Step g h → (n : Text) → Matched (Differs g) (rule_of g n) (rule_of h n)
differs {g} c = pairs (Differs g) (λ y a. inl refl) (λ y a b w. inr w) c

abbrev Back : Grammar → Classes → RuleType → Expression → Expression → Type 0
Back g classes y a b = (m : Mode) → RunsIn y m → Implies g classes m b a

step_keeps : (g h : Grammar) → KeepsAny g → Step g h → SameOutcomes g h × KeepsAny h
step_keeps g h free c =
    let p = pairs (Differs g) (λ y a. inl refl) (λ y a b w. inr w) c in
    let free' = no_rule (Differs g) (p (codes "ANY")) free in (
      (λ classes e m s o. (
        carried g h classes (pairs (Over g h classes) (λ y a m r. same.itself h classes m a) (λ y a b w m r. (within g h classes free' (λ c ts. still_known g h p) r w).0) c),
        carried h g classes (λ n. turned (Back g classes) (pairs (Back g classes) (λ y a m r. same.itself g classes m a) (λ y a b w m r. (within g g classes free (λ c ts d. d) r w).1) c n)),
      )),
      free',
    )

pub keeps : (g h : Grammar) → KeepsAny g → Chain g h → SameOutcomes g h
keeps g h a done = λ classes e m s o. ((λ d. d), (λ d. d))
keeps g h a (step {h = i} c d) =
    let (p, b) = step_keeps g i a c in
    let q = keeps i h b d in
    λ classes e m s o. ((λ x. (q classes e m s o).0 ((p classes e m s o).0 x)), (λ x. (p classes e m s o).1 ((q classes e m s o).1 x)))

-- a pass whose rewritings keep what an expression does over every grammar keeps what every expression does
module _ (P : RuleType → Expression → Expression → Type 0) where
  pub each_pair : {g h : Grammar} → EachBody P g h → (n : Text) → Matched P (rule_of g n) (rule_of h n)
  each_pair no_rules n = neither
  each_pair (also_rule {r = r} x e) n = pair_if P (bytes_eq r.name n) r x (each_pair e n)

  module _ (Q : RuleType → Expression → Expression → Type 0) (f : (y : RuleType) (a b : Expression) → P y a b → Q y a b) where
    pub each_body : {g h : Grammar} → EachBody P g h → EachBody Q g h
    each_body no_rules = no_rules
    each_body (also_rule x e) = also_rule (f _ _ _ x) (each_body e)

pub each_keeps : (P : RuleType → Expression → Expression → Type 0)
    → ((f : Grammar) (classes : Classes) (y : RuleType) (m : Mode) (a b : Expression) → RunsIn y m → P y a b → Alike f classes m a b)
    → (g h : Grammar) → EachBody P g h → SameOutcomes g h
each_keeps P alike g h e = λ classes e' m s o. (
  carried g h classes (each_pair (Over g h classes) (each_body P (Over g h classes) (λ y a b x m r. (alike h classes y m a b r x).0) e)),
  carried h g classes (λ n. turned (Back g classes) (each_pair (Back g classes) (each_body P (Back g classes) (λ y a b x m r. (alike g classes y m a b r x).1) e) n)),
)

-- passes that look no name up
module _ (R : RuleType → Expression → Expression → Type 0) (alike : (f : Grammar) (classes : Classes) (y : RuleType) (m : Mode) → RunsIn y m → (a b : Expression) → R y a b → Alike f classes m a b) where
  pub steps_keep : (g h : Grammar) → EachBody (λ y. Many (R y)) g h → SameOutcomes g h
  steps_keep = each_keeps (λ y. Many (R y)) (λ f classes y m a b r x. anywhere.along f classes m (R y) (alike f classes y m r) x)

pub rotations_keep : (g h : Grammar) → EachBody (λ y. Many Rotates) g h → SameOutcomes g h
rotations_keep = steps_keep (λ y. Rotates) (λ f classes y m r a b w. (rotates_forth f classes w, rotates_back f classes w))

pub unrollings_keep : (g h : Grammar) → EachBody (λ y. Many Unrolls) g h → SameOutcomes g h
unrollings_keep = steps_keep (λ y. Unrolls) (λ f classes y m r a b w. (unrolls_forth f classes w, unrolls_back f classes w))

pub joinings_keep : (g h : Grammar) → EachBody (λ y. Many (Joins y)) g h → SameOutcomes g h
joinings_keep = steps_keep Joins (λ f classes y m r a b w. (joins_forth f classes w r, joins_back f classes w r))

pub factorings_keep : (g h : Grammar) → EachBody (λ y. Many (Factors y)) g h → SameOutcomes g h
factorings_keep = steps_keep Factors (λ f classes y m r a b w. (factors_forth f classes w r, factors_back f classes w r))
