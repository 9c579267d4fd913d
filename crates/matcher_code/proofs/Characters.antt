-- Expressions that match one character of a set, and all that there are.
use Rattle.std.proofs.Common.{◌≡◌, refl, sym, ◌∙◌, ap, subst, ℕ, zero, suc, ◌+◌, ◌≤◌, List, [], ◌∷◌, Bool, true, false, ◌&&◌, ◌||◌, Some, arith, add-zero, length, take, drop, if◌then◌else◌, ap₂}
use Rattle.std.specs.Prelude.{not}
use Rattle.std.specs.List.{sum_by}
use Rattle.std.specs.Char.{len_utf8}
use Rattle.std.proofs.lemmas.List.Sums.{sum_by-cons}
use Rattle.base_language.specs.Language.Text.{Text, size_of}
use Rattle.base_language.specs.Language.Expression.{Choice, Expression, Grammar, Ident, NegPred, Rep, Rule, Seq, rule_of}
use Rattle.base_language.specs.Language.State.{Classes, Mode, None', Outcome, State, Success, Failure, Tree, moved}
use Rattle.base_language.specs.Language.Matching.{character_outcome, starts_in}
use Rattle.base_language.specs.Language.Meaning as by
use Rattle.base_language.specs.Language.Meaning.{Does, Run, Skipping, Task, Turns, body_mode, gives_token, seen_from, with_token}
use Rattle.matcher_code.specs.Laid.{HasOutcome, IsTight, TakesSome, skip_set, span_of, IsSilent}
use Rattle.matcher_code.specs.Failures.{Failures, both, in_silence, no_failure, unnamed}
use Rattle.matcher_code.specs.declared.state.Places.{Places}
use Rattle.matcher_code.proofs.Attempting.{called}

-- a state by its parts
abbrev pub here : ℕ → Text → List Text → State
here p cs ts = record { position = p; rest = cs; stack = ts }

moved_none : (p : ℕ) (cs : Text) (ts : List Text) → moved 0 (here p cs ts) ≡ here p cs ts
moved_none p [] ts = ap (λ q. here q [] ts) (add-zero p)
moved_none p (c ∷ cs) ts = ap (λ q. here q (c ∷ cs) ts) (add-zero p)

moved_on : (n p c : ℕ) (cs : Text) (ts : List Text) → moved (suc n) (here p (c ∷ cs) ts) ≡ moved n (moved 1 (here p (c ∷ cs) ts))
moved_on n p c cs ts =
    let a = sum_by-cons len_utf8 c (take n cs) in
    let b = sum_by-cons len_utf8 c [] in
    let e : p + sum_by len_utf8 (c ∷ take n cs) ≡ (p + sum_by len_utf8 (c ∷ [])) + sum_by len_utf8 (take n cs) = omega (arith, a, b) in
    ap (λ q. here q (drop n cs) ts) e

none_left : (n p : ℕ) (ts : List Text) → moved n (here p [] ts) ≡ here p [] ts
none_left zero p ts = moved_none p [] ts
none_left (suc n) p ts = ap (λ q. here q [] ts) (add-zero p)

-- taking characters in two parts
pub moved_add : (j i p : ℕ) (cs : Text) (ts : List Text) → moved (j + i) (here p cs ts) ≡ moved i (moved j (here p cs ts))
moved_add zero i p cs ts =
    let e : 0 + i ≡ i = omega arith in
    ap (λ n. moved n (here p cs ts)) e ∙ ap (moved i) (sym (moved_none p cs ts))
moved_add (suc j) i p [] ts = none_left (suc j + i) p ts ∙ sym (ap (moved i) (none_left (suc j) p ts) ∙ none_left i p ts)
moved_add (suc j) i p (c ∷ cs) ts =
    let e : suc j + i ≡ suc (j + i) = omega arith in
    ap (λ n. moved n (here p (c ∷ cs) ts)) e ∙ (moved_on (j + i) p c cs ts ∙ (moved_add j i (p + size_of (c ∷ [])) cs ts ∙ sym (ap (moved i) (moved_on j p c cs ts))))

-- the characters of a set from the start on
span_none : (f : ℕ → Bool) (cs : Text) → starts_in f cs ≡ false → span_of f cs ≡ 0
span_none f [] e = refl
span_none f (c ∷ cs) e = rw e refl

pub starts_span : (f : ℕ → Bool) (cs : Text) → starts_in f cs ≡ true → 1 ≤ span_of f cs
starts_span f [] e = cc
starts_span f (c ∷ cs) e = rw e (omega arith)

pub span_within : (f : ℕ → Bool) (cs : Text) → span_of f cs ≤ length cs
span_within f [] = omega arith
span_within f (c ∷ cs) = go (f c) (span_within f cs)
  where
    go : (b : Bool) → span_of f cs ≤ length cs → (if b then suc (span_of f cs) else 0) ≤ suc (length cs)
    go true h = omega (arith, h)
    go false h = omega arith

span_split : (f : ℕ → Bool) (j : ℕ) (cs : Text) → j ≤ span_of f cs → span_of f cs ≡ j + span_of f (drop j cs)
span_split f zero cs w = let e : span_of f (drop 0 cs) ≡ span_of f cs = refl in omega (arith, e)
span_split f (suc j) [] w = absurd (omega (arith, w))
span_split f (suc j) (c ∷ cs) w = go (f c) w (span_split f j cs)
  where
    go : (b : Bool) → suc j ≤ (if b then suc (span_of f cs) else 0) → (j ≤ span_of f cs → span_of f cs ≡ j + span_of f (drop j cs))
        → (if b then suc (span_of f cs) else 0) ≡ suc j + span_of f (drop j cs)
    go true w ih = omega (arith, ih (omega (arith, w)))
    go false w ih = absurd (omega (arith, w))

shorter : (j : ℕ) (cs : Text) → j ≤ length cs → length (drop j cs) + j ≡ length cs
shorter zero cs w = omega arith
shorter (suc j) [] w = absurd (omega (arith, w))
shorter (suc j) (c ∷ cs) w = omega (arith, shorter j cs (omega (arith, w)))

either_starts : (f h : ℕ → Bool) (t : Text) → starts_in (λ c. f c || h c) t ≡ (starts_in f t || starts_in h t)
either_starts f h [] = refl
either_starts f h (c ∷ t) = refl

other_starts : (f h : ℕ → Bool) (t : Text) → starts_in (λ c. not (f c) && h c) t ≡ (not (starts_in f t) && starts_in h t)
other_starts f h [] = refl
other_starts f h (c ∷ t) = refl

abbrev pub either : State → Bool → Outcome
either t b = if b then Success t None' else Failure

hidden : (b : Bool) → (b && false) ≡ false
hidden true = refl
hidden false = refl

module _ (g : Grammar) (classes : Classes) where
  -- a derivation that notes no failure
  abbrev pub Quiet : Task → State → Outcome → Type 0
  Quiet k s o = (d : Does g classes k s o) × IsSilent d

  -- nor do two that note none, or three, nor a negation
  pub two_silent : {f h : Places → Failures} → ((asked : Places) → f asked ≡ no_failure) → ((asked : Places) → h asked ≡ no_failure)
      → (asked : Places) → both (f asked) (h asked) ≡ no_failure
  two_silent x y asked = ap₂ both (x asked) (y asked)

  pub three_silent : {f h i : Places → Failures} → ((asked : Places) → f asked ≡ no_failure) → ((asked : Places) → h asked ≡ no_failure) → ((asked : Places) → i asked ≡ no_failure)
      → (asked : Places) → both (f asked) (both (h asked) (i asked)) ≡ no_failure
  three_silent x y z asked = ap₂ both (x asked) (ap₂ both (y asked) (z asked))

  pub negated_silent : {f : Places → Failures} → ((asked : Places) → f asked ≡ no_failure) → (asked : Places) → unnamed (f asked) ≡ no_failure
  negated_silent x asked = ap unnamed (x asked)

  left_or_right : (m : Mode) (a b : Expression) (s t : State) (p q : Bool) → Quiet (Run m a) s (either t p) → Quiet (Run m b) s (either t q)
      → Quiet (Run m (Choice a b)) s (either t (p || q))
  left_or_right m a b s t true q x y = (by.left x.0, x.1)
  left_or_right m a b s t false q x y = (by.right x.0 y.0, two_silent x.1 y.1)

  pub choice_of_sets : (m : Mode) (a b : Expression) (f h : ℕ → Bool) → HasOutcome g classes (Run m a) (character_outcome f) in_silence
      → HasOutcome g classes (Run m b) (character_outcome h) in_silence → HasOutcome g classes (Run m (Choice a b)) (character_outcome (λ c. f c || h c)) in_silence
  choice_of_sets m a b f h x y s =
      subst (λ p. Quiet (Run m (Choice a b)) s (either (moved 1 s) p)) (sym (either_starts f h s.rest))
      (left_or_right m a b s (moved 1 s) (starts_in f s.rest) (starts_in h s.rest) (x s) (y s))

  pub not_and_then : (m : Mode) (a b : Expression) (s t : State) (p q : Bool) → IsTight g classes m → Quiet (Run m a) s (either t p)
      → Quiet (Run m b) s (either t q) → Quiet (Run m (Seq (NegPred a) b)) s (either t (not p && q))
  not_and_then m a b s t true q tight x y = (by.seq_first (by.neg_pred x.0), negated_silent x.1)
  not_and_then m a b s t false true tight x y = (by.seq (by.neg_pred x.0) (tight s).0 y.0, three_silent (negated_silent x.1) (tight s).1 y.1)
  not_and_then m a b s t false false tight x y = (by.seq_second (by.neg_pred x.0) (tight s).0 y.0, three_silent (negated_silent x.1) (tight s).1 y.1)

  pub difference_of_sets : (m : Mode) (a b : Expression) (f h : ℕ → Bool) → IsTight g classes m → HasOutcome g classes (Run m a) (character_outcome f) in_silence
      → HasOutcome g classes (Run m b) (character_outcome h) in_silence
      → HasOutcome g classes (Run m (Seq (NegPred a) b)) (character_outcome (λ c. not (f c) && h c)) in_silence
  difference_of_sets m a b f h tight x y s =
      subst (λ p. Quiet (Run m (Seq (NegPred a) b)) s (either (moved 1 s) p)) (sym (other_starts f h s.rest))
      (not_and_then m a b s (moved 1 s) (starts_in f s.rest) (starts_in h s.rest) tight (x s) (y s))

  pub silently : (m : Mode) (x : Text) (s : State) (r : Rule) (t : State) (p : Bool) → rule_of g x ≡ Some r → gives_token r.type_of m ≡ false
      → Quiet (Run (body_mode r m) r.body) s (either t p) → Quiet (Run m (Ident x)) s (either t p)
  silently m x s r t true h e d =
      let z : (seen_from m && gives_token r.type_of m) ≡ false = ap (λ b. seen_from m && b) e ∙ hidden (seen_from m) in
      subst (λ us. Quiet (Run m (Ident x)) s (Success t us)) (ap (λ b. if b then Tree r.name s.position t.position None' None' else None') e)
      (by.call {m = m} h d.0, λ asked. ap₂ (λ b i. called b (gives_token r.type_of m) x asked s (Success t None') i) z (d.1 asked) ∙ ap (λ v. called false v x asked s (Success t None') no_failure) e)
  silently m x s r t false h e d =
      let z : (seen_from m && gives_token r.type_of m) ≡ false = ap (λ b. seen_from m && b) e ∙ hidden (seen_from m) in
      (by.call {m = m} h d.0, λ asked. ap₂ (λ b i. called b (gives_token r.type_of m) x asked s Failure i) z (d.1 asked) ∙ ap (λ v. called false v x asked s Failure no_failure) e)

  pub silent_call_of_set : (m : Mode) (x : Text) (r : Rule) (f : ℕ → Bool) → rule_of g x ≡ Some r → gives_token r.type_of m ≡ false
      → HasOutcome g classes (Run (body_mode r m) r.body) (character_outcome f) in_silence → HasOutcome g classes (Run m (Ident x)) (character_outcome f) in_silence
  silent_call_of_set m x r f h e d s = silently m x s r (moved 1 s) (starts_in f s.rest) h e (d s)

  -- an expression that takes one or more characters of a set
  some_of_one : (k : Task) (f : ℕ → Bool) → HasOutcome g classes k (character_outcome f) in_silence → (s : State) → TakesSome g classes k s f
  some_of_one k f one s = let x = one s in record { more = 0; found = x.0; quiet = x.1; within = starts_span f s.rest }

  pub silent_call_of_some : (m : Mode) (x : Text) (r : Rule) (f : ℕ → Bool) → rule_of g x ≡ Some r → gives_token r.type_of m ≡ false
      → ((s : State) → TakesSome g classes (Run (body_mode r m) r.body) s f) → (s : State) → TakesSome g classes (Run m (Ident x)) s f
  silent_call_of_some m x r f h e d s =
      let y = d s in
      let z = silently m x s r (moved (suc y.more) s) (starts_in f s.rest) h e (y.found, y.quiet) in
      record { more = y.more; found = z.0; quiet = z.1; within = y.within }

  module _ (m : Mode) (e : Expression) (f : ℕ → Bool) (tight : IsTight g classes m) (some : (s : State) → TakesSome g classes (Run m e) s f) where
    -- what is found where `j` characters of the set are taken, and then all that follow
    on_from : (k : Task) (s : State) (j : ℕ) → j ≤ span_of f s.rest
        → Quiet k s (Success (moved (span_of f (moved j s).rest) (moved j s)) None') → Quiet k s (Success (moved (span_of f s.rest) s) None')
    on_from k s j w x =
        subst (λ n. Quiet k s (Success (moved n s) None')) (sym (span_split f j s.rest w))
        (subst (λ y. Quiet k s (Success y None')) (sym (moved_add j (span_of f (drop j s.rest)) s.position s.rest s.stack)) x)

    -- where no character of the set is next
    none_from : (k : Task) (s : State) → starts_in f s.rest ≡ false → Quiet k s (Success s None') → Quiet k s (Success (moved (span_of f s.rest) s) None')
    none_from k s q x =
        subst (λ n. Quiet k s (Success (moved n s) None')) (sym (span_none f s.rest q))
        (subst (λ y. Quiet k s (Success y None')) (sym (moved_none s.position s.rest s.stack)) x)

    turn_on : (s : State) (b : Bool) → starts_in f s.rest ≡ b → TakesSome g classes (Run m e) s f
        → ((t : State) → suc (length t.rest) ≤ length s.rest → Quiet (Turns m e) t (Success (moved (span_of f t.rest) t) None'))
        → Quiet (Turns m e) s (Success (moved (span_of f s.rest) s) None')
    turn_on s false q x ih =
        let k = tight s in
        let d = subst (λ z. Quiet (Run m e) s (if z then Success (moved (suc x.more) s) None' else Failure)) q (x.found, x.quiet) in
        none_from (Turns m e) s q (by.turn_none k.0 d.0, two_silent k.1 d.1)
    turn_on s true q x ih =
        let k = tight s in
        let d = subst (λ z. Quiet (Run m e) s (if z then Success (moved (suc x.more) s) None' else Failure)) q (x.found, x.quiet) in
        let j = x.within q in
        let l = span_within f s.rest in
        let h = ih (moved (suc x.more) s) (omega (arith, shorter (suc x.more) s.rest (omega (arith, j, l)))) in
        on_from (Turns m e) s (suc x.more) j (by.turn k.0 d.0 h.0, three_silent k.1 d.1 h.1)

    turns : (n : ℕ) (s : State) → length s.rest ≤ n → Quiet (Turns m e) s (Success (moved (span_of f s.rest) s) None')
    turns zero s w = turn_on s (starts_in f s.rest) refl (some s) (λ t v. absurd (omega (arith, w, v)))
    turns (suc n) s w = turn_on s (starts_in f s.rest) refl (some s) (λ t v. turns n t (omega (arith, w, v)))

    pub span_of_some : HasOutcome g classes (Run m (Rep e)) (skip_set f) in_silence
    span_of_some s = go (starts_in f s.rest) refl (some s)
      where
        go : (b : Bool) → starts_in f s.rest ≡ b → TakesSome g classes (Run m e) s f → Quiet (Run m (Rep e)) s (Success (moved (span_of f s.rest) s) None')
        go false q x =
            let d = subst (λ z. Quiet (Run m e) s (if z then Success (moved (suc x.more) s) None' else Failure)) q (x.found, x.quiet) in
            none_from (Run m (Rep e)) s q (by.rep_none d.0, d.1)
        go true q x =
            let d = subst (λ z. Quiet (Run m e) s (if z then Success (moved (suc x.more) s) None' else Failure)) q (x.found, x.quiet) in
            let ih = turns (length (moved (suc x.more) s).rest) (moved (suc x.more) s) (omega arith) in
            on_from (Run m (Rep e)) s (suc x.more) (x.within q) (by.rep d.0 ih.0, two_silent d.1 ih.1)

  pub span_of_set : (m : Mode) (e : Expression) (f : ℕ → Bool) → IsTight g classes m → HasOutcome g classes (Run m e) (character_outcome f) in_silence
      → HasOutcome g classes (Run m (Rep e)) (skip_set f) in_silence
  span_of_set m e f tight one = span_of_some m e f tight (some_of_one (Run m e) f one)
