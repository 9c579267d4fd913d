-- What expressions take of the text in Atomic.
use Rattle.std.proofs.Common.{◌≡◌, refl, sym, ◌∙◌, ap, ℕ, ◌+◌, [], ◌∷◌, ◌++◌, ◌⊎◌, inl, inr, Bool, true, false, Some, None, if◌then◌else◌, nat_eq, length, take, drop, append_assoc, arith, codes}
use Rattle.std.proofs.lemmas.List.Sums.{sum_by-append}
use Rattle.std.proofs.Math.Bool.{and-true}
use Rattle.std.specs.Char.{len_utf8}
use Rattle.base_language.specs.Language.Expression as spec
use Rattle.base_language.specs.Language.Text.{Text, size_of}
use Rattle.base_language.specs.Language.Expression.{Expression, Str, Range, Ident, Seq, Choice, Opt, Rep, RepOnce, rule_of}
use Rattle.base_language.specs.Language.State.{Classes, State, Mode, AtomicMode, None', Outcome, Success, Failure, moved}
use Rattle.base_language.specs.Language.Matching.{begins, starts_in, range_set}
use Rattle.base_language.specs.Language.Meaning.{Does, Task, Run, Turns, Skipping, str, insens, range, slice, skip, call, other, pos_pred, neg_pred, push, restore, seq, seq_first, seq_second, left, right, opt, opt_none, rep, rep_none, turn, turn_none, rep_once, rep_exact, rep_min, rep_max, rep_min_max, skips, atomic, compound_atomic, between, ahead, not_ahead, pushed, with_token, body_mode, push_literal, tag}
use Rattle.base_language.specs.declared.grammar.Rule.TheVariants as is
use Rattle.base_language.proofs.Basics.{same_some}
use Rattle.front_grammar.specs.MetaGrammar.{meta_grammar, rule_at, body_of}
use Rattle.front_grammar.proofs.Lookup.{defined_rule}

-- these characters stand between two states
pub record Took (s u : State) (word : Text) : Type 0 where
  pub split : s.rest ≡ word ++ u.rest
  pub place : u.position ≡ s.position + size_of word

-- what stands there is of a kind
pub record Stretch (P : Text → Type 0) (s u : State) : Type 0 where
  pub word : Text
  pub kind : P word
  pub took : Took s u word

-- one step after another
pub data Steps (P : State → State → Type 0) : State → State → Type 0 where
  stay : {s : State} → Steps P s s
  step : {s t u : State} → P s t → Steps P t u → Steps P s u

module _ (P : Text → Type 0) where
  -- what an expression takes, where a number takes what is P
  abbrev pub Takes : Expression → State → State → Type 0
  Takes (Str t) s u = (begins nat_eq t s.rest ≡ true) × (u ≡ moved (length t) s)
  Takes (Range a b) s u = (starts_in (range_set a b) s.rest ≡ true) × (u ≡ moved 1 s)
  Takes (Ident n) s u = n ≡ codes "number" → Stretch P s u
  Takes (Seq a b) s u = (t : State) × Takes a s t × Takes b t u
  Takes (Choice a b) s u = Takes a s u ⊎ Takes b s u
  Takes (Opt e) s u = (s ≡ u) ⊎ Takes e s u
  Takes (Rep e) s u = Steps (Takes e) s u
  Takes (RepOnce e) s u = (t : State) × Takes e s t × Steps (Takes e) t u
  Takes _ s u = Unit {0}

  abbrev pub Goes : Task → State → State → Type 0
  Goes (Run m e) s u = Takes e s u
  Goes (Turns m e) s u = Steps (Takes e) s u
  Goes (Skipping m) s u = s ≡ u

abbrev pub IsAtomic : Task → Type 0
IsAtomic (Run m e) = m ≡ AtomicMode
IsAtomic (Turns m e) = m ≡ AtomicMode
IsAtomic (Skipping m) = m ≡ AtomicMode

abbrev pub EndsIn : (State → Type 0) → Outcome → Type 0
EndsIn P Failure = Unit {0}
EndsIn P (Success t us) = P t

ends_along : (P Q : State → Type 0) → ((u : State) → P u → Q u) → (o : Outcome) → EndsIn P o → EndsIn Q o
ends_along P Q f Failure h = tt
ends_along P Q f (Success t us) h = f t h

anywhere : (o : Outcome) → EndsIn (λ _. Unit {0}) o
anywhere Failure = tt
anywhere (Success t us) = tt

ends_call : (P : State → Type 0) (r : spec.Rule) (m : Mode) (s : State) (o : Outcome) → EndsIn P o → EndsIn P (with_token r m s o)
ends_call P r m s Failure h = tt
ends_call P r m s (Success t us) h = h

ends_if : (c b : Bool) (t : State) → c ≡ b → EndsIn (λ u. (c ≡ true) × (u ≡ t)) (if b then Success t None' else Failure)
ends_if c true t e = (e, refl)
ends_if c false t e = tt

module _ (classes : Classes) (P : Text → Type 0) (number_takes : (s u : State) → Takes P (body_of is.number) s u → Stretch P s u) where
  -- a number takes what its body does
  takes_number : (n : Text) (r : spec.Rule) (m : Mode) (s : State) (o : Outcome) → rule_of meta_grammar n ≡ Some r
      → (body_mode r m ≡ AtomicMode → EndsIn (Takes P r.body s) o) → n ≡ codes "number" → EndsIn (Stretch P s) o
  takes_number n r m s o e f h =
      let k : Some r ≡ Some (rule_at is.number) = sym e ∙ ap (rule_of meta_grammar) h ∙ defined_rule is.number refl in
      let i : r ≡ rule_at is.number = same_some k in
      ends_along (Takes P (body_of is.number) s) (Stretch P s) (number_takes s) o
      (let g : EndsIn (Takes P r.body s) o = f (rw i refl) in rw i at g)

  called : (n : Text) (s : State) (o : Outcome) → (n ≡ codes "number" → EndsIn (Stretch P s) o) → EndsIn (λ u. n ≡ codes "number" → Stretch P s u) o
  called n s Failure f = tt
  called n s (Success t us) f = f

  unnamed : (n : Text) → rule_of meta_grammar n ≡ None → n ≡ codes "number" → ⊥
  unnamed n e h = let k = sym (ap (rule_of meta_grammar) h ∙ defined_rule is.number refl) ∙ e in cc

  pub takes : {k : Task} {s : State} {o : Outcome} → Does meta_grammar classes k s o → IsAtomic k → EndsIn (Goes P k s) o
  takes (str {t = t} {s = s}) h = ends_if (begins nat_eq t s.rest) (begins nat_eq t s.rest) _ refl
  takes (insens {t = t} {s = s}) h = anywhere _
  takes (range {a = a} {b = b} {s = s}) h = ends_if (starts_in (range_set a b) s.rest) (starts_in (range_set a b) s.rest) _ refl
  takes slice h = anywhere _
  takes skip h = tt
  takes (call {m = m} {n = n} {s = s} {o = o} {r = r} e d) h =
      ends_call _ r m s o (called n s o (takes_number n r m s o e (λ i. takes d i)))
  takes (other {m = m} {n = n} {s = s} {o = o} e b) h = called n s o (λ i. absurd (unnamed n e i))
  takes (pos_pred {s = s} {o = o} d) h = anywhere (ahead s o)
  takes (neg_pred {s = s} {o = o} d) h = anywhere (not_ahead s o)
  takes (push {s = s} {o = o} d) h = anywhere (pushed s o)
  takes push_literal h = tt
  takes (tag {o = o} d) h = anywhere o
  takes (restore {o = o} d) h = anywhere o
  takes (seq {t = t} a k b) h = (t, takes a h, rw (takes k h) (takes b h))
  takes (seq_first a) h = tt
  takes (seq_second a k b) h = tt
  takes (left a) h = inl (takes a h)
  takes (right {a = a} {b = b} {s = s} {o = o} x y) h = ends_along (Takes P b s) (Takes P (Choice a b) s) (λ u i. inr i) o (takes y h)
  takes (opt a) h = inr (takes a h)
  takes (opt_none a) h = inl refl
  takes (rep a b) h = step (takes a h) (takes b h)
  takes (rep_none a) h = stay
  takes (turn k a b) h = step (rw (takes k h) (takes a h)) (takes b h)
  takes (turn_none k a) h = stay
  takes (rep_once d) h = takes d h
  takes (rep_exact {o = o} d) h = anywhere o
  takes (rep_min {o = o} d) h = anywhere o
  takes (rep_max {o = o} d) h = anywhere o
  takes (rep_min_max {o = o} d) h = anywhere o
  takes (skips d) h = cc
  takes atomic h = refl
  takes compound_atomic h = refl
  takes between h = refl

-- one stretch and then another
pub took_both : {s t u : State} {v w : Text} → Took s t v → Took t u w → Took s u (v ++ w)
took_both {s} {t} {u} {v} {w} a b = record {
  split = a.split ∙ (ap (λ l. v ++ l) b.split ∙ sym (append_assoc v w u.rest));
  place = omega (arith, a.place, b.place, sum_by-append len_utf8 v w);
}

pub took_nothing : (s : State) → Took s s []
took_nothing s = record { split = refl; place = omega arith }

-- one character of a set
record First (set : ℕ → Bool) (r : Text) : Type 0 where
  character : ℕ
  member : set character ≡ true
  split : r ≡ character ∷ drop 1 r
  first : take 1 r ≡ character ∷ []

first_of_text : (set : ℕ → Bool) (r : Text) → starts_in set r ≡ true → First set r
first_of_text set [] h = cc
first_of_text set (c ∷ r) h = record { character = c; member = h; split = refl; first = refl }

abbrev pub IsOne : (ℕ → Bool) → Text → Type 0
IsOne set w = (c : ℕ) × (w ≡ c ∷ []) × (set c ≡ true)

pub one_taken : (set : ℕ → Bool) (s u : State) → starts_in set s.rest ≡ true → u ≡ moved 1 s → Stretch (IsOne set) s u
one_taken set s u h e =
    let f = first_of_text set s.rest h in
    record {
      word = f.character ∷ [];
      kind = (f.character, refl, f.member);
      took = rw e (record { split = f.split; place = ap (λ l. s.position + size_of l) f.first });
    }

pub begins_first : (c : ℕ) (r : Text) → begins nat_eq (c ∷ []) r ≡ starts_in (λ d. nat_eq c d) r
begins_first c [] = refl
begins_first c (d ∷ r) = and-true (nat_eq c d)
