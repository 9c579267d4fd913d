-- Forms that match one character, that begin with one, and that refuse one.
use Rattle.std.proofs.Common.{◌≡◌, refl, sym, ◌∙◌, ap, subst, ℕ, suc, ◌≤◌, List, [], ◌∷◌, Bool, true, false, ◌||◌, ◌&&◌, None, arith, codes, nat_eq, if◌then◌else◌}
use Rattle.std.specs.Prelude.{IfOk, IfSome, OnOk, Option, Result, Some, Ok, Err, not}
use Rattle.std.proofs.lemmas.Bool.{and_parts}
use Rattle.std.specs.declared.vec.Vec.{Vec}
use Rattle.std.specs.declared.alloc.Global.{Global}
use Rattle.base_language.specs.Language.Expression.{Choice, Expression, Grammar, NegPred, Seq, rule_of}
use Rattle.base_language.specs.Language.Matching.{begins, character_outcome, starts_in}
use Rattle.base_language.specs.Language.Meaning as by
use Rattle.base_language.specs.Language.Meaning.{Does, Run, Task}
use Rattle.base_language.specs.Language.State.{Classes, Failure, Mode, None', State, Success, moved}
use Rattle.base_language.specs.Language.Text.{Text}
use Rattle.matcher_code.specs.Laid.{HasOutcome, IsSilent, IsTight, TakesSome, span_of}
use Rattle.matcher_code.specs.Failures.{in_silence}
use Rattle.matcher_code.proofs.Characters.{choice_of_sets, starts_span}
use Rattle.matcher_program.specs.declared.form.Form.{Form}
use Rattle.matcher_program.specs.declared.form.Form.TheVariants as form
use Rattle.matcher_program.specs.declared.form.Program.{Program}
use Rattle.matcher_sets.specs.Differences.{AddsFirsts, AddsForm, BeginsWith, HasFirsts, HasRefused, MatchesOne, RefusesOne}
use Rattle.matcher_sets.specs.Modes.{mode_of}
use Rattle.matcher_sets.specs.Ranges.{Adds}
use Rattle.matcher_sets.specs.Forms.{IsBoundIn, grammar_in, said}
use Rattle.matcher_sets.proofs.Choosing.{IsJoined}
use Rattle.matcher_sets.proofs.Leaves.{newline_outcome_of}
use Rattle.matcher_sets.proofs.Recording.{negated_silent, three_silent, two_silent}

-- a newline takes its characters where one of them is next
abbrev line : ℕ → Bool
line c = nat_eq 10 c || nat_eq 13 c

-- how many characters a newline takes behind its first
abbrev newline_more : Text → ℕ
newline_more [] = 0
newline_more (c ∷ r) = if nat_eq 10 c then 0 else (if nat_eq 13 c && begins nat_eq (10 ∷ []) r then 1 else 0)

newline_takes : (r : Text) (s : State)
    → (if begins nat_eq (10 ∷ []) r then Success (moved 1 s) None' else (if begins nat_eq (13 ∷ 10 ∷ []) r then Success (moved 2 s) None' else (if begins nat_eq (13 ∷ []) r then Success (moved 1 s) None' else Failure)))
    ≡ (if starts_in line r then Success (moved (suc (newline_more r)) s) None' else Failure)
newline_takes [] s = refl
newline_takes (c ∷ r) s = go (nat_eq 10 c) (nat_eq 13 c) (begins nat_eq (10 ∷ []) r)
  where
    go : (a b d : Bool)
        → (if (a && true) then Success (moved 1 s) None' else (if (b && d) then Success (moved 2 s) None' else (if (b && true) then Success (moved 1 s) None' else Failure)))
        ≡ (if (a || b) then Success (moved (suc (if a then 0 else (if (b && d) then 1 else 0))) s) None' else Failure)
    go true b d = refl
    go false true true = refl
    go false true false = refl
    go false false d = refl

newline_within : (r : Text) → starts_in line r ≡ true → suc (newline_more r) ≤ span_of line r
newline_within [] e = cc
newline_within (c ∷ r) e = go (nat_eq 10 c) (nat_eq 13 c) (begins nat_eq (10 ∷ []) r) (span_of line r) (feed r) e
  where
    feed : (r : Text) → begins nat_eq (10 ∷ []) r ≡ true → 1 ≤ span_of line r
    feed [] h = cc
    feed (d ∷ u) h = starts_span line (d ∷ u) (ap (λ b. b || nat_eq 13 d) (and_parts (nat_eq 10 d) true h).0)

    go : (a b d : Bool) (n : ℕ) → (d ≡ true → 1 ≤ n) → (a || b) ≡ true
        → suc (if a then 0 else (if (b && d) then 1 else 0)) ≤ (if (a || b) then suc n else 0)
    go true b d n h e = omega arith
    go false true true n h e = omega (arith, h refl)
    go false true false n h e = omega arith
    go false false d n h e = cc

either_starts : (f h : ℕ → Bool) (t : Text) → starts_in (λ c. f c || h c) t ≡ (starts_in f t || starts_in h t)
either_starts f h [] = refl
either_starts f h (c ∷ t) = refl

other_starts : (f h : ℕ → Bool) (t : Text) → starts_in (λ c. not (f c) && h c) t ≡ (not (starts_in f t) && starts_in h t)
other_starts f h [] = refl
other_starts f h (c ∷ t) = refl

-- a set has no more characters than one with others
span_left : (f h : ℕ → Bool) (cs : Text) → span_of f cs ≤ span_of (λ c. f c || h c) cs
span_left f h [] = omega arith
span_left f h (c ∷ cs) = go (f c) (h c) (span_left f h cs)
  where
    go : (p q : Bool) → span_of f cs ≤ span_of (λ c. f c || h c) cs
        → (if p then suc (span_of f cs) else 0) ≤ (if (p || q) then suc (span_of (λ c. f c || h c) cs) else 0)
    go true q i = omega (arith, i)
    go false q i = omega arith

span_right : (f h : ℕ → Bool) (cs : Text) → span_of h cs ≤ span_of (λ c. f c || h c) cs
span_right f h [] = omega arith
span_right f h (c ∷ cs) = go (f c) (h c) (span_right f h cs)
  where
    go : (p q : Bool) → span_of h cs ≤ span_of (λ c. f c || h c) cs
        → (if q then suc (span_of h cs) else 0) ≤ (if (p || q) then suc (span_of (λ c. f c || h c) cs) else 0)
    go true true i = omega (arith, i)
    go true false i = omega arith
    go false true i = omega (arith, i)
    go false false i = omega arith

module _ (g : Grammar) (classes : Classes) where
  -- the outcome of what takes a given number of characters more than one, or fails
  abbrev TakesOrFails : Task → State → ℕ → Bool → Type 0
  TakesOrFails k s more b = (d : Does g classes k s (if b then Success (moved (suc more) s) None' else Failure)) × IsSilent d

  right_takes : (m : Mode) (a b : Expression) (s : State) (i j : ℕ) (q : Bool) → TakesOrFails (Run m a) s i false → TakesOrFails (Run m b) s j q
      → TakesOrFails (Run m (Choice a b)) s j q
  right_takes m a b s i j q u v = (by.right u.0 v.0, two_silent u.1 v.1)

  choice_takes : (m : Mode) (a b : Expression) (s : State) (f h : ℕ → Bool) → TakesSome g classes (Run m a) s f → TakesSome g classes (Run m b) s h
      → TakesSome g classes (Run m (Choice a b)) s (λ c. f c || h c)
  choice_takes m a b s f h x y = go (starts_in f s.rest) (starts_in h s.rest) refl refl (x.found, x.quiet) (y.found, y.quiet)
    where
      go : (p q : Bool) → starts_in f s.rest ≡ p → starts_in h s.rest ≡ q → TakesOrFails (Run m a) s x.more p → TakesOrFails (Run m b) s y.more q
          → TakesSome g classes (Run m (Choice a b)) s (λ c. f c || h c)
      go true q e i u v =
          let t : starts_in (λ c. f c || h c) s.rest ≡ true = either_starts f h s.rest ∙ ap (λ z. z || starts_in h s.rest) e in
          let w = subst (TakesOrFails (Run m (Choice a b)) s x.more) (sym t) (by.left u.0, u.1) in
          record { more = x.more; found = w.0; quiet = w.1; within = λ z. let l = span_left f h s.rest in let k = x.within e in omega (arith, l, k) }
      go false q e i u v =
          let t : starts_in (λ c. f c || h c) s.rest ≡ q = either_starts f h s.rest ∙ (ap (λ z. z || starts_in h s.rest) e ∙ i) in
          let w = subst (TakesOrFails (Run m (Choice a b)) s y.more) (sym t) (right_takes m a b s x.more y.more q u v) in
          record { more = y.more; found = w.0; quiet = w.1; within = λ z. let l = span_right f h s.rest in let k = y.within (i ∙ (sym t ∙ z)) in omega (arith, l, k) }

  refuses : (m : Mode) (a : Expression) (s : State) (f : ℕ → Bool) → TakesSome g classes (Run m a) s f
      → (d : Does g classes (Run m (NegPred a)) s (if starts_in f s.rest then Failure else Success s None')) × IsSilent d
  refuses m a s f x = go (starts_in f s.rest) (x.found, x.quiet)
    where
      go : (b : Bool) → TakesOrFails (Run m a) s x.more b → (d : Does g classes (Run m (NegPred a)) s (if b then Failure else Success s None')) × IsSilent d
      go true u = (by.neg_pred u.0, negated_silent u.1)
      go false u = (by.neg_pred u.0, negated_silent u.1)

  not_and_then : (m : Mode) (a b : Expression) (s t : State) (p q : Bool) → IsTight g classes m
      → ((d : Does g classes (Run m a) s (if p then Failure else Success s None')) × IsSilent d)
      → ((d : Does g classes (Run m b) s (if q then Success t None' else Failure)) × IsSilent d)
      → (d : Does g classes (Run m (Seq a b)) s (if (not p && q) then Success t None' else Failure)) × IsSilent d
  not_and_then m a b s t true q tight x y = (by.seq_first x.0, x.1)
  not_and_then m a b s t false true tight x y = (by.seq x.0 (tight s).0 y.0, three_silent x.1 (tight s).1 y.1)
  not_and_then m a b s t false false tight x y = (by.seq_second x.0 (tight s).0 y.0, three_silent x.1 (tight s).1 y.1)

  pub other_matches : (m : Mode) (a b : Expression) (f h : ℕ → Bool) → IsTight g classes m
      → HasOutcome g classes (Run m a) (λ s. if starts_in f s.rest then Failure else Success s None') in_silence
      → HasOutcome g classes (Run m b) (character_outcome h) in_silence
      → HasOutcome g classes (Run m (Seq a b)) (character_outcome (λ c. not (f c) && h c)) in_silence
  other_matches m a b f h tight x y s =
      subst (λ p. (d : Does g classes (Run m (Seq a b)) s (if p then Success (moved 1 s) None' else Failure)) × IsSilent d) (sym (other_starts f h s.rest))
      (not_and_then m a b s (moved 1 s) (starts_in f s.rest) (starts_in h s.rest) tight (x s) (y s))

module _ (p : Program) (classes : Classes) where
  pub matches_joined : IsJoined p (MatchesOne p classes)
  matches_joined f left right h k e x y = λ m.
      subst (λ z. HasOutcome (grammar_in p) classes (Run (mode_of m) z) (character_outcome (λ c. h c || k c)) in_silence) (sym e)
      (choice_of_sets (grammar_in p) classes (mode_of m) (said p left) (said p right) h k (x m) (y m))

  pub begins_joined : IsJoined p (BeginsWith p classes)
  begins_joined f left right h k e x y = λ m s.
      subst (λ z. TakesSome (grammar_in p) classes (Run (mode_of m) z) s (λ c. h c || k c)) (sym e)
      (choice_takes (grammar_in p) classes (mode_of m) (said p left) (said p right) s h k (x m s) (y m s))

  -- a form that matches one character takes it
  pub begins_of_one : (f : Form) (set : ℕ → Bool) → MatchesOne p classes f set → BeginsWith p classes f set
  begins_of_one f set x m s =
      let y = x m s in
      record { more = 0; found = y.0; quiet = y.1; within = starts_span set s.rest }

  pub newline_begins : rule_of (grammar_in p) (codes "NEWLINE") ≡ None → BeginsWith p classes form.Newline line
  newline_begins u m s =
      let y = newline_outcome_of p classes m u s in
      let w = subst (λ o. (d : Does (grammar_in p) classes (Run (mode_of m) (said p form.Newline)) s o) × IsSilent d) (newline_takes s.rest s) y in
      record { more = newline_more s.rest; found = w.0; quiet = w.1; within = newline_within s.rest }

  pub refuses_one : (f body : Form) (set : ℕ → Bool) → said p f ≡ NegPred (said p body) → BeginsWith p classes body set → RefusesOne p classes f set
  refuses_one f body set e x = λ m s.
      subst (λ z. (d : Does (grammar_in p) classes (Run (mode_of m) z) s (if starts_in set s.rest then Failure else Success s None')) × IsSilent d) (sym e)
      (refuses (grammar_in p) classes (mode_of m) (said p body) s set (x m s))

-- what was added
pub adds_newline : {E : Type 0} (p : Program) (f : Form) → f ≡ form.Newline → IsBoundIn p f → (old new : List (ℕ × ℕ)) (r : Result Bool E)
    → OnOk r (Adds old new (λ c. nat_eq 10 c || nat_eq 13 c)) → IfOk r (λ is. is ≡ true → AddsFirsts p f old new)
adds_newline p f e b old new (Ok x) h = λ is classes fits. record {
  characters = λ c. nat_eq 10 c || nat_eq 13 c;
  adds = h;
  holds = subst (λ y. BeginsWith p classes y (λ c. nat_eq 10 c || nat_eq 13 c)) (sym e) (newline_begins p classes (subst (IsBoundIn p) e b));
}
adds_newline p f e b old new (Err x) h = tt

pub adds_firsts : {E : Type 0} (p : Program) (f : Form) (old new : List (ℕ × ℕ)) (r : Result Bool E)
    → IfOk r (λ is. is ≡ true → AddsForm p f old new) → IfOk r (λ is. is ≡ true → AddsFirsts p f old new)
adds_firsts p f old new (Ok x) h = λ is classes fits.
    let y = h is classes fits in
    record { characters = y.characters; adds = y.adds; holds = begins_of_one p classes f y.characters y.holds }
adds_firsts p f old new (Err x) h = tt

pub refused_of : (p : Program) (f body : Form) (ranges : List (ℕ × ℕ)) → said p f ≡ NegPred (said p body) → HasFirsts p body ranges → HasRefused p f ranges
refused_of p f body ranges e h = λ classes fits.
    let y = h classes fits in
    record { characters = y.characters; covers = y.covers; holds = refuses_one p classes f body y.characters e y.holds }

pub all_refused : {E : Type 0} (p : Program) (f body : Form) (r : Result (Option (Vec (ℕ × ℕ) Global)) E) → said p f ≡ NegPred (said p body)
    → IfOk r (λ made. IfSome made (λ ranges. HasFirsts p body ranges.items)) → IfOk r (λ made. IfSome made (λ ranges. HasRefused p f ranges.items))
all_refused p f body (Ok (Some x)) e h = refused_of p f body x.items e h
all_refused p f body (Ok None) e h = tt
all_refused p f body (Err x) e h = tt
