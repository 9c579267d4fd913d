-- What stands between the quotes of a character is read as one character.
use Rattle.std.proofs.Common.{◌≡◌, refl, sym, ap, subst, ◌∙◌, ℕ, zero, suc, ◌+◌, ◌-◌, ◌<◌, min, List, [], ◌∷◌, ◌++◌, ◌⊎◌, inl, inr, Bool, true, false, Option, Some, None, if◌then◌else◌, nat_eq, nat_le, length, take, chars, codes, eqb-true, ne_eqb, arith}
use lib.Utf8.{scalars}
use Rattle.std.proofs.lemmas.Bool.{leb-true}
use Rattle.std.proofs.lemmas.Str.{encodes-append, chars-encodes, scalars-chars}
use Rattle.std.proofs.Math.Utf8.{encodes}
use Rattle.std.specs.Char.{eq_ignore_ascii_case}
use Rattle.std.specs.List.{slice_range}
use Rattle.std.specs.Str.{IsUtf8}
use Rattle.base_language.specs.Language.Expression as spec
use Rattle.base_language.specs.Language.Text.{Text, size_of}
use Rattle.base_language.specs.Language.Builtins.{is_between}
use Rattle.base_language.specs.Language.Expression.{Expression, Str, Insens, Range, Ident, PeekSlice, PosPred, NegPred, Seq, Choice, Opt, RepOnce, RepExact, RepMin, RepMax, RepMinMax, Push, NodeTag, RestoreOnErr, rule_of}
use Rattle.base_language.specs.Language.State.{Classes, State, Mode, NonAtomicMode, AtomicMode, CompoundAtomicMode, Between, Trees, None', Outcome, Success, Failure, moved}
use Rattle.base_language.specs.Language.Matching.{begins, starts_in, range_set, text_outcome, slice_outcome, other_outcome}
use Rattle.base_language.specs.Language.Meaning.{Does, Task, Run, Turns, Skipping, str, insens, range, slice, skip, call, other, pos_pred, neg_pred, push, restore, seq, seq_first, seq_second, left, right, opt, opt_none, rep, rep_none, turn, turn_none, rep_once, rep_exact, rep_min, rep_max, rep_min_max, skips, atomic, compound_atomic, between, ahead, not_ahead, pushed, with_token, mode_in, body_mode, from_to, push_literal, tag}
use Rattle.base_language.specs.Language.Places.{IsStateIn}
use Rattle.base_language.specs.Pieces.MetaRules.{name_of}
use Rattle.base_language.specs.declared.grammar.Rule.{Rule}
use Rattle.base_language.specs.declared.grammar.Rule.TheVariants as is
use Rattle.base_language.proofs.Basics.{clash, second_of_both}
use Rattle.base_language.proofs.Beginnings.{scalars_parts}
use Rattle.base_language.proofs.InBytes.{sizes, split_bytes}
use Rattle.base_language.proofs.Moving.{each_copy, each_of_both, in_all}
use Rattle.front_grammar.specs.MetaGrammar.{meta_grammar, rule, rule_at, type_of_rule, body_of}
use Rattle.front_grammar.specs.Rules.{is_defined}
use Rattle.front_grammar.specs.Rules.{is_blank}
use Rattle.front_grammar.proofs.Lookup.{any_builtin, blank_name, defined_rule, undefined}
use Rattle.front_grammar.proofs.MetaWellFormed.{known}
use Rattle.front_grammar.proofs.Naming.{rule_named, named_rule, name_of_named}
use Rattle.front_grammar.proofs.Numerals.{middle}
use Rattle.front_grammar.proofs.Taken.{Took, Stretch, Steps, stay, step, took_both, took_nothing, one_taken, begins_first}
use Rattle.front_reader.specs.Literal.{unescaped, escape, digits, extended}
use Rattle.front_reader.specs.Reading.{characters_between}

-- 1. what expressions of the meta-grammar take of the text where nothing is skipped
abbrev is_tight : Mode → Bool
is_tight AtomicMode = true
is_tight CompoundAtomicMode = true
is_tight _ = false

-- what is so of the text where an expression fails
abbrev FailsAt : Expression → State → Type 0
FailsAt (Str t) s = begins nat_eq t s.rest ≡ false
FailsAt (Choice a b) s = FailsAt a s × FailsAt b s
FailsAt _ s = Unit {0}

abbrev TakesOne : (ℕ → Bool) → State → State → Type 0
TakesOne set s u = (starts_in set s.rest ≡ true) × (u ≡ moved 1 s)

module _ (called : Text → State → State → Type 0) where
  -- what an expression takes, if a name takes what is called
  abbrev Takes : Expression → State → State → Type 0
  Takes (Str t) s u = (begins nat_eq t s.rest ≡ true) × (u ≡ moved (length t) s)
  Takes (Range a b) s u = TakesOne (range_set a b) s u
  Takes (Ident n) s u = called n s u
  Takes (NegPred e) s u = (s ≡ u) × FailsAt e s
  Takes (Seq a b) s u = (t : State) × Takes a s t × Takes b t u
  Takes (Choice a b) s u = Takes a s u ⊎ Takes b s u
  Takes (Opt e) s u = (s ≡ u) ⊎ Takes e s u
  Takes (RepMinMax e i j) s u = Steps (Takes e) s u
  Takes _ s u = Unit {0}

  -- a rule's name takes what its body does, and that of any character takes one
  abbrev Means : Option Rule → Text → State → State → Type 0
  Means (Some r) n s u = Takes (body_of r) s u
  Means None n s u = n ≡ codes "ANY" → TakesOne (λ c. true) s u

-- a given number of calls deep
abbrev Called : ℕ → Text → State → State → Type 0
Called zero n s u = Unit {0}
Called (suc k) n s u = Means (Called k) (rule_named n) n s u

abbrev Goes : ℕ → Task → State → Outcome → Type 0
Goes k (Run m e) s Failure = FailsAt e s
Goes k (Run m e) s (Success u us) = Takes (Called k) e s u
Goes k (Turns m e) s o = Unit {0}
Goes k (Skipping m) s Failure = Unit {0}
Goes k (Skipping m) s (Success u us) = s ≡ u

abbrev IsTight : Task → Type 0
IsTight (Run m e) = is_tight m ≡ true
IsTight (Turns m e) = is_tight m ≡ true
IsTight (Skipping m) = is_tight m ≡ true

any_outcome : (P : Outcome → Type 0) → P Failure → ((u : State) (us : Trees) → P (Success u us)) → (o : Outcome) → P o
any_outcome P f g Failure = f
any_outcome P f g (Success u us) = g u us

text_goes : (k : ℕ) (m : Mode) (t : Text) (s : State) (b : Bool) → begins nat_eq t s.rest ≡ b → Goes k (Run m (Str t)) s (if b then Success (moved (length t) s) None' else Failure)
text_goes k m t s true e = (e, refl)
text_goes k m t s false e = e

range_goes : (k : ℕ) (m : Mode) (a b : Text) (s : State) (t : Bool) → starts_in (range_set a b) s.rest ≡ t → Goes k (Run m (Range a b)) s (if t then Success (moved 1 s) None' else Failure)
range_goes k m a b s true e = (e, refl)
range_goes k m a b s false e = tt

not_goes : (k : ℕ) (m : Mode) (e : Expression) (s : State) (o : Outcome) → Goes k (Run m e) s o → Goes k (Run m (NegPred e)) s (not_ahead s o)
not_goes k m e s Failure h = (refl, h)
not_goes k m e s (Success u us) h = tt

either_goes : (k : ℕ) (m : Mode) (a b : Expression) (s : State) (o : Outcome) → Goes k (Run m a) s Failure → Goes k (Run m b) s o → Goes k (Run m (Choice a b)) s o
either_goes k m a b s Failure h i = (h, i)
either_goes k m a b s (Success u us) h i = inr i

-- a counted repetition takes what its copies do, step by step
unmoved : (s : State) → moved 0 s ≡ s
unmoved s =
    let e : s.position + size_of (take 0 s.rest) ≡ s.position = omega arith in
    ap (λ (p : ℕ). record s { position = p }) e

steps_both : {P : State → State → Type 0} {s t u : State} → Steps P s t → Steps P t u → Steps P s u
steps_both stay b = b
steps_both (step x a) b = step x (steps_both a b)

module _ (called : Text → State → State → Type 0) (e : Expression) where
  abbrev GoesByItself : Expression → Type 0
  GoesByItself x = (s u : State) → Takes called x s u → Steps (Takes called e) s u

  none_goes : GoesByItself (Str [])
  none_goes s u h = rw (h.1 ∙ unmoved s) stay

  pair_goes : (a b : Expression) → GoesByItself a → GoesByItself b → GoesByItself (Seq a b)
  pair_goes a b f g s u (t, x, y) = steps_both (f s t x) (g t u y)

  once_goes : GoesByItself e
  once_goes s u x = step x stay

  maybe_goes : GoesByItself (Opt e)
  maybe_goes s u (inl i) = rw i stay
  maybe_goes s u (inr x) = step x stay

  copies_go : (i j : ℕ) → GoesByItself (from_to e i j)
  copies_go i j =
      in_all GoesByItself none_goes pair_goes
      (each_of_both GoesByItself (each_copy GoesByItself {e = e} (min i j) once_goes) (each_copy GoesByItself {e = Opt e} (j - i) maybe_goes))

counted_goes : (k : ℕ) (m : Mode) (e : Expression) (i j : ℕ) (s : State) (o : Outcome) → Goes k (Run m (from_to e i j)) s o → Goes k (Run m (RepMinMax e i j)) s o
counted_goes k m e i j s Failure h = tt
counted_goes k m e i j s (Success u us) h = copies_go (Called k) e i j s u h

-- the bodies of rules are tight where their calls are
tight_test : (m : Mode) (r : Rule) → is_tight m ≡ true → is_tight (mode_in (type_of_rule r) (is_blank r) m) ≡ true
tight_test NonAtomicMode r h = cc
tight_test Between r h = cc
tight_test AtomicMode is.EOI h = refl
tight_test AtomicMode _ h = refl
tight_test CompoundAtomicMode is.EOI h = refl
tight_test CompoundAtomicMode _ h = refl

tight_body : (r : Rule) (m : Mode) → is_tight m ≡ true → is_tight (body_mode (rule_at r) m) ≡ true
tight_body r m h = ap (λ b. is_tight (mode_in (type_of_rule r) b m)) (blank_name r) ∙ tight_test m r h

tight_in : (n : Text) (q : spec.Rule) (m : Mode) → rule_of meta_grammar n ≡ Some q → is_tight m ≡ true → is_tight (body_mode q m) ≡ true
tight_in n q m e h =
    let k = known n q e in
    subst (λ (r : spec.Rule). is_tight (body_mode r m) ≡ true) (sym k.is_at) (tight_body k.rule m h)

-- a call of a rule
meant : (called : Text → State → State → Type 0) (n : Text) (q : spec.Rule) (r : Rule) (s u : State) → q ≡ rule_at r → name_of r ≡ n → Takes called q.body s u → Means called (rule_named n) n s u
meant called n q r s u e i x =
    let k : rule_named n ≡ Some r = rw (← i) (named_rule r) in
    rw k (subst (λ (q : spec.Rule). Takes called q.body s u) e x)

call_goes : (n : Text) (q : spec.Rule) (m : Mode) (s : State) (o : Outcome) (k : ℕ) → rule_of meta_grammar n ≡ Some q → ((j : ℕ) → Goes j (Run (body_mode q m) q.body) s o) → Goes k (Run m (Ident n)) s (with_token q m s o)
call_goes n q m s Failure k e f = tt
call_goes n q m s (Success u us) zero e f = tt
call_goes n q m s (Success u us) (suc k) e f = let x = known n q e in meant (Called k) n q x.rule s u x.is_at x.named (f k)

-- the end of the text is no rule, and calls itself
end_called : (k : ℕ) (s u : State) → Called k (name_of is.EOI) s u
end_called zero s u = tt
end_called (suc k) s u = rw (named_rule is.EOI) (end_called k s u)

one_if : (set : ℕ → Bool) (s u : State) (us : Trees) (b : Bool) → starts_in set s.rest ≡ b → Some (if b then Success (moved 1 s) None' else Failure) ≡ Some (Success u us) → TakesOne set s u
one_if set s u us true i e = (i, cc)
one_if set s u us false i e = cc

module _ (classes : Classes) where
  any_takes : (m : Mode) (s u : State) (us : Trees) → is_tight m ≡ true → other_outcome classes m (codes "ANY") s ≡ Some (Success u us) → TakesOne (λ c. true) s u
  any_takes NonAtomicMode s u us h b = cc
  any_takes AtomicMode s u us h b = one_if (λ c. true) s u us (starts_in (λ c. true) s.rest) refl (rw any_builtin at b)
  any_takes CompoundAtomicMode s u us h b = one_if (λ c. true) s u us (starts_in (λ c. true) s.rest) refl (rw any_builtin at b)
  any_takes Between s u us h b = cc

  undefined_goes : (r : Rule) (b : Bool) (k : ℕ) (s u : State) → is_defined r ≡ b → rule_of meta_grammar (name_of r) ≡ None → Takes (Called k) (body_of r) s u
  undefined_goes r true k s u i e = let d = defined_rule r i in cc
  undefined_goes r false k s u i e = rw (undefined r i) (end_called k s u)

  named_goes : (n : Text) (x : Option Rule) (m : Mode) (s u : State) (us : Trees) (k : ℕ) → rule_named n ≡ x → is_tight m ≡ true → rule_of meta_grammar n ≡ None
      → other_outcome classes m n s ≡ Some (Success u us) → Means (Called k) x n s u
  named_goes n (Some r) m s u us k i h e b = let j = name_of_named n r i in undefined_goes r (is_defined r) k s u refl (rw j e)
  named_goes n None m s u us k i h e b = λ a. any_takes m s u us h (rw a at b)

  other_goes : (n : Text) (m : Mode) (s : State) (o : Outcome) (k : ℕ) → is_tight m ≡ true → rule_of meta_grammar n ≡ None → other_outcome classes m n s ≡ Some o → Goes k (Run m (Ident n)) s o
  other_goes n m s Failure k h e b = tt
  other_goes n m s (Success u us) zero h e b = tt
  other_goes n m s (Success u us) (suc k) h e b = named_goes n (rule_named n) m s u us k refl h e b

  takes : {x : Task} {s : State} {o : Outcome} → Does meta_grammar classes x s o → (k : ℕ) → IsTight x → Goes k x s o
  takes (str {m = m} {t = t} {s = s}) k h = text_goes k m t s (begins nat_eq t s.rest) refl
  takes (insens {m = m} {t = t} {s = s}) k h = any_outcome (Goes k (Run m (Insens t)) s) tt (λ u us. tt) (text_outcome eq_ignore_ascii_case t s)
  takes (range {m = m} {a = a} {b = b} {s = s}) k h = range_goes k m a b s (starts_in (range_set a b) s.rest) refl
  takes (slice {m = m} {i = i} {j = j} {s = s}) k h = any_outcome (Goes k (Run m (PeekSlice i j)) s) tt (λ u us. tt) (slice_outcome i j s)
  takes skip k h = tt
  takes (call {m = m} {n = n} {s = s} {o = o} {r = r} e d) k h = call_goes n r m s o k e (λ j. takes d j (tight_in n r m e h))
  takes (other {m = m} {n = n} {s = s} {o = o} e b) k h = other_goes n m s o k h e b
  takes (pos_pred {m = m} {e = e} {s = s} {o = o} d) k h = any_outcome (Goes k (Run m (PosPred e)) s) tt (λ u us. tt) (ahead s o)
  takes (neg_pred {m = m} {e = e} {s = s} {o = o} d) k h = not_goes k m e s o (takes d k h)
  takes (push {m = m} {e = e} {s = s} {o = o} d) k h = any_outcome (Goes k (Run m (Push e)) s) tt (λ u us. tt) (pushed s o)
  takes push_literal k h = tt
  takes (tag {m = m} {e = e} {t = t} {s = s} {o = o} d) k h = any_outcome (Goes k (Run m (NodeTag e t)) s) tt (λ u us. tt) o
  takes (restore {m = m} {e = e} {s = s} {o = o} d) k h = any_outcome (Goes k (Run m (RestoreOnErr e)) s) tt (λ u us. tt) o
  takes (seq {t = t} a b c) k h = (t, takes a k h, rw (takes b k h) (takes c k h))
  takes (seq_first a) k h = tt
  takes (seq_second a b c) k h = tt
  takes (left a) k h = inl (takes a k h)
  takes (right {m = m} {a = a} {b = b} {s = s} {o = o} x y) k h = either_goes k m a b s o (takes x k h) (takes y k h)
  takes (opt a) k h = inr (takes a k h)
  takes (opt_none a) k h = inl refl
  takes (rep a b) k h = tt
  takes (rep_none a) k h = tt
  takes (turn a b c) k h = tt
  takes (turn_none a b) k h = tt
  takes (rep_once {m = m} {e = e} {s = s} {o = o} d) k h = any_outcome (Goes k (Run m (RepOnce e)) s) tt (λ u us. tt) o
  takes (rep_exact {m = m} {e = e} {i = i} {s = s} {o = o} d) k h = any_outcome (Goes k (Run m (RepExact e i)) s) tt (λ u us. tt) o
  takes (rep_min {m = m} {e = e} {i = i} {s = s} {o = o} d) k h = any_outcome (Goes k (Run m (RepMin e i)) s) tt (λ u us. tt) o
  takes (rep_max {m = m} {e = e} {i = i} {s = s} {o = o} d) k h = any_outcome (Goes k (Run m (RepMax e i)) s) tt (λ u us. tt) o
  takes (rep_min_max {m = m} {e = e} {i = i} {j = j} {s = s} {o = o} d) k h = counted_goes k m e i j s o (takes d k h)
  takes (skips d) k h = cc
  takes atomic k h = refl
  takes compound_atomic k h = refl
  takes between k h = cc

-- 2. what is taken between the quotes
-- a text that is read as one character, and what stands behind the backslash of such a text
abbrev pub IsOneCharacter : Text → Type 0
IsOneCharacter w = length (unescaped w) ≡ 1

abbrev IsEscape : Text → Type 0
IsEscape w = length (escape w) ≡ 1

abbrev TakesSign : ℕ → State → State → Type 0
TakesSign c s u = (begins nat_eq (c ∷ []) s.rest ≡ true) × (u ≡ moved 1 s)

sign_taken : (c : ℕ) (s u : State) → TakesSign c s u → Took s u (c ∷ [])
sign_taken c s u h =
    let x = one_taken (λ d. nat_eq c d) s u (sym (begins_first c s.rest) ∙ h.0) h.1 in
    let e = eqb-true c x.kind.0 x.kind.2 in
    let k : x.word ≡ c ∷ [] = rw (x.kind.1, ← e) refl in
    subst (Took s u) k x.took

sign_escape : (c : ℕ) (s u : State) → IsEscape (c ∷ []) → TakesSign c s u → Stretch IsEscape s u
sign_escape c s u k h = record { word = c ∷ []; kind = k; took = sign_taken c s u h }

-- a digit is no closing brace
record Digit (s u : State) : Type 0 where
  character : ℕ
  took : Took s u (character ∷ [])
  no_brace : nat_eq character 125 ≡ false

digit_between : (low high : ℕ) (s u : State) → high < 125 → TakesOne (is_between low high) s u → Digit s u
digit_between low high s u l h =
    let x = one_taken (is_between low high) s u h.0 h.1 in
    let c = x.kind.0 in
    let k = leb-true c high (second_of_both (nat_le low c) (nat_le c high) x.kind.2) in
    record {
      character = c;
      took = subst (Took s u) x.kind.1 x.took;
      no_brace = ne_eqb c 125 (λ (e : c ≡ 125). omega (arith, e, k, l));
    }

digit_taken : (k : ℕ) (s u : State) → Takes (Called k) (body_of is.hex_digit) s u → Digit s u
digit_taken k s u (inl (inl h)) = digit_between 48 57 s u (omega arith) h
digit_taken k s u (inl (inr h)) = digit_between 97 102 s u (omega arith) h
digit_taken k s u (inr h) = digit_between 65 70 s u (omega arith) h

abbrev AreDigits : Text → Type 0
AreDigits [] = Unit {0}
AreDigits (c ∷ w) = (nat_eq c 125 ≡ false) × AreDigits w

digits_taken : (k : ℕ) {s u : State} → Steps (Takes (Called (suc k)) (rule is.hex_digit)) s u → Stretch AreDigits s u
unfolding rule_named
digits_taken k (stay {s = s}) = record { word = []; kind = tt; took = took_nothing s }
digits_taken k (step {s = s} {t = t} h r) =
    let a = digit_taken k s t h in
    let b = digits_taken k r in
    record { word = a.character ∷ b.word; kind = (a.no_brace, b.kind); took = took_both a.took b.took }

-- digits up to a closing brace are read as one character
one_number : (w : Text) (n : ℕ) → AreDigits w → length (digits n (w ++ 125 ∷ [])) ≡ 1
one_number [] n h = refl
one_number (c ∷ w) n h = rw h.0 (one_number w (extended n c) h.1)

code_taken : (k : ℕ) (s u : State) → Takes (Called (suc k)) (body_of is.code) s u → Stretch IsEscape s u
unfolding rule_named
code_taken k s u (t, (v, x, first), second) =
    let a = digit_taken k v t first in
    let b = digit_taken k t u second in
    record { word = 120 ∷ a.character ∷ b.character ∷ []; kind = refl; took = took_both (sign_taken 120 s v x) (took_both a.took b.took) }

unicode_taken : (k : ℕ) (s u : State) → Takes (Called (suc k)) (body_of is.unicode) s u → Stretch IsEscape s u
unfolding rule_named
unicode_taken k s u (t, (v, (w, x, brace), number), close) =
    let d = digits_taken k number in
    record {
      word = 117 ∷ 123 ∷ (d.word ++ 125 ∷ []);
      kind = one_number d.word 0 d.kind;
      took = took_both (sign_taken 117 s w x) (took_both (sign_taken 123 w v brace) (took_both d.took (sign_taken 125 t u close)));
    }

escaped : (s t u : State) → TakesSign 92 s t → Stretch IsEscape t u → Stretch IsOneCharacter s u
escaped s t u x b = record { word = 92 ∷ b.word; kind = b.kind; took = took_both (sign_taken 92 s t x) b.took }

escape_taken : (k : ℕ) (s u : State) → Takes (Called (suc (suc k))) (body_of is.escape) s u → Stretch IsOneCharacter s u
unfolding rule_named
escape_taken k s u (t, x, inl (inl (inl (inl (inl (inl (inl (inl h)))))))) = escaped s t u x (sign_escape 34 t u refl h)
escape_taken k s u (t, x, inl (inl (inl (inl (inl (inl (inl (inr h)))))))) = escaped s t u x (sign_escape 92 t u refl h)
escape_taken k s u (t, x, inl (inl (inl (inl (inl (inl (inr h))))))) = escaped s t u x (sign_escape 114 t u refl h)
escape_taken k s u (t, x, inl (inl (inl (inl (inl (inr h)))))) = escaped s t u x (sign_escape 110 t u refl h)
escape_taken k s u (t, x, inl (inl (inl (inl (inr h))))) = escaped s t u x (sign_escape 116 t u refl h)
escape_taken k s u (t, x, inl (inl (inl (inr h)))) = escaped s t u x (sign_escape 48 t u refl h)
escape_taken k s u (t, x, inl (inl (inr h))) = escaped s t u x (sign_escape 39 t u refl h)
escape_taken k s u (t, x, inl (inr h)) = escaped s t u x (code_taken k t u h)
escape_taken k s u (t, x, inr h) = escaped s t u x (unicode_taken k t u h)

-- a character that is no backslash is itself
itself : (c : ℕ) → nat_eq 92 c ≡ false → IsOneCharacter (c ∷ [])
itself c h =
    let i : nat_eq c 92 ≡ false = ne_eqb c 92 (λ (e : c ≡ 92). clash (nat_eq 92 c) (rw e refl) h) in
    rw i refl

plain_taken : (s t u : State) → s ≡ t → begins nat_eq (92 ∷ []) s.rest ≡ false → TakesOne (λ c. true) t u → Stretch IsOneCharacter s u
plain_taken s t u e none h =
    let i : TakesOne (λ c. true) s u = subst (λ (t : State). TakesOne (λ c. true) t u) (sym e) h in
    let x = one_taken (λ c. true) s u i.0 i.1 in
    let took : Took s u (x.kind.0 ∷ []) = subst (Took s u) x.kind.1 x.took in
    let other : starts_in (λ d. nat_eq 92 d) s.rest ≡ false = sym (begins_first 92 s.rest) ∙ none in
    let k : nat_eq 92 x.kind.0 ≡ false = subst (λ (r : Text). starts_in (λ d. nat_eq 92 d) r ≡ false) took.split other in
    record { word = x.kind.0 ∷ []; kind = itself x.kind.0 k; took = took }

inner_taken : (k : ℕ) (s u : State) → Takes (Called (suc (suc (suc k)))) (body_of is.inner_chr) s u → Stretch IsOneCharacter s u
unfolding rule_named
inner_taken k s u (inl h) = escape_taken k s u h
inner_taken k s u (inr (t, (same, none), any)) = plain_taken s t u same none.1 (any refl)

-- 3. it is what is written between the two places
module _ (text : List ℕ) (utf8 : IsUtf8 text) (s u : State) (stands : IsStateIn (chars text) s) where
  written : (w : Text) → Took s u w → characters_between text s.position u.position ≡ w
  written w took =
      let front = stands.front in
      let all : chars text ≡ front ++ (w ++ u.rest) = stands.split ∙ ap (λ l. front ++ l) took.split in
      let bytes : text ≡ encodes front ++ (encodes w ++ encodes u.rest) = split_bytes text utf8 front (w ++ u.rest) all ∙ ap (λ l. encodes front ++ l) (encodes-append w u.rest) in
      let e : slice_range text s.position u.position ≡ encodes w =
      middle (encodes front) (encodes w) (encodes u.rest) text s.position u.position bytes (stands.size ∙ sizes front) (took.place ∙ ap (λ n. s.position + n) (sizes w)) in
      let scalar : scalars w ≡ true = (scalars_parts w u.rest (scalars_parts front (w ++ u.rest) (ap scalars (sym all) ∙ scalars-chars text utf8)).1).0 in
      ap chars e ∙ chars-encodes w scalar

  pub one_between : (classes : Classes) (m : Mode) (us : Trees) → Does meta_grammar classes (Run (body_mode (rule_at is.inner_chr) m) (body_of is.inner_chr)) s (Success u us)
      → IsOneCharacter (characters_between text s.position u.position)
  one_between classes m us d =
      let x = inner_taken 0 s u (takes classes d 3 refl) in
      subst IsOneCharacter (sym (written x.word x.took)) x.kind
