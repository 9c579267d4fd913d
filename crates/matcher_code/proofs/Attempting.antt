-- Attempts that are recorded behind others.
use Rattle.std.proofs.Common.{◌≡◌, refl, sym, ◌∙◌, ap, ap₂, ℕ, suc, ◌+◌, ◌<◌, ◌==◌, List, ◌++◌, Bool, true, false, ◌&&◌, if◌then◌else◌, map, nat_lt, arith, append-nil, length-append}
use Rattle.std.specs.Prelude.{codes, max, not}
use Rattle.std.proofs.lemmas.List.{append_assoc, length-map, map-append}
use Rattle.std.proofs.lemmas.List.Sums.{sum_by-append}
use Rattle.std.specs.Char.{len_utf8}
use Rattle.base_language.specs.Language.Text.{Text, size_of}
use Rattle.base_language.specs.Language.Expression.{Grammar}
use Rattle.base_language.specs.Language.State.{Classes, Outcome, State}
use Rattle.base_language.specs.Language.FurthestFailure.{is_eoi, place_of}
use Rattle.base_language.specs.Language.Places.{IsStateIn}
use Rattle.base_language.proofs.TreesAreNested.{fits}
use Rattle.base_language.specs.Language.Meaning.{Does, Task, str, insens, range, slice, skip, call, other, pos_pred, neg_pred, push, restore, seq, seq_first, seq_second, left, right, opt, opt_none, rep_none, turn, turn_none, rep_exact, rep_max, rep_min_max, skips, atomic, compound_atomic, between, gives_token, seen_from, rep, rep_once, rep_min, push_literal, tag}
use Rattle.matcher_code.specs.Attempts.{Attempts, attempts_at, count, after_call, has_matched, is_recorded, no_attempt, place_from, append, told_attempts, with_rule}
use Rattle.matcher_code.specs.Failures.{Failures, attempts_of, both, end_failures, unnamed}
use Rattle.matcher_code.specs.declared.state.Places.{Places}
use Rattle.matcher_code.specs.Paths.{told_paths}
use Rattle.base_language.specs.Language.Expected.{told}
use Rattle.matcher_code.specs.Reached.{attempts_by_number}

-- one more than before
one_more : (y w : ℕ) → (y + w == suc y) ≡ (w == 1)
one_more y w = grind arith

-- attempts, by their parts
same_attempts : {A : Type 0} {i j : ℕ} {ps qs ms ns : List A} → i ≡ j → ps ≡ qs → ms ≡ ns
    → ◌≡◌ {A = Attempts A} (record { furthest = i; positives = ps; negatives = ms }) (record { furthest = j; positives = qs; negatives = ns })
same_attempts {j = j} {qs = qs} {ms = ms} e p n = ap₂ (λ i ps. record { furthest = i; positives = ps; negatives = ms }) e p ∙ ap (λ ms. record { furthest = j; positives = qs; negatives = ms }) n

greatest_of : (a b c : ℕ) → max (max a b) c ≡ max a (max b c)
greatest_of a b c = omega arith

module _ (number : Text → ℕ) where
  count_rules : (a : Attempts ℕ) (w : Attempts Text) → count (append a (attempts_by_number number w)) ≡ count a + count w
  count_rules a w =
      let p = length-append a.positives (map number w.positives) in
      let q = length-append a.negatives (map number w.negatives) in
      let i = length-map w.positives number in
      let j = length-map w.negatives number in
      omega (arith, p, q, i, j)

  -- a call that ends behind others
  pub call_behind : (below : Bool) (place at : ℕ) (n : Text) (a : Attempts ℕ) (w : Attempts Text)
      → after_call below place (number n) at a (append a (attempts_by_number number w)) ≡ append a (attempts_by_number number (after_call below place n at no_attempt w))
  call_behind below place at n a w =
      ap (λ b. record (if at == place && not b then with_rule below (number n) a else append a (attempts_by_number number w)) {
        furthest = max (max a.furthest w.furthest) (place_from place at);
      }) (ap (λ k. k == suc (count a)) (count_rules a w) ∙ one_more (count a) (count w))
      ∙ go (at == place && not (count w == 1)) below
    where
      go : (b below : Bool) → record (if b then with_rule below (number n) a else append a (attempts_by_number number w)) { furthest = max (max a.furthest w.furthest) (place_from place at) }
          ≡ append a (attempts_by_number number (record (if b then with_rule below n no_attempt else w) { furthest = max w.furthest (place_from place at) }))
      go true true = same_attempts (greatest_of a.furthest w.furthest (place_from place at)) (sym (append-nil a.positives)) refl
      go true false = same_attempts (greatest_of a.furthest w.furthest (place_from place at)) refl (sym (append-nil a.negatives))
      go false below = same_attempts (greatest_of a.furthest w.furthest (place_from place at)) refl refl

  -- so it is of one that is told or not
  pub recorded_behind : (told below : Bool) (place at : ℕ) (n : Text) (a : Attempts ℕ) (w : Attempts Text)
      → (if told then after_call below place (number n) at a (append a (attempts_by_number number w)) else append a (attempts_by_number number w))
      ≡ append a (attempts_by_number number (if told then after_call below place n at no_attempt w else w))
  recorded_behind true below place at n a w = call_behind below place at n a w
  recorded_behind false below place at n a w = refl

  pub append_none : (a : Attempts ℕ) → append a (attempts_by_number number no_attempt) ≡ a
  append_none a = let m : max a.furthest 0 ≡ a.furthest = omega arith in same_attempts m (append-nil a.positives) (append-nil a.negatives)

  pub append_twice : (a : Attempts ℕ) (v w : Attempts Text)
      → append (append a (attempts_by_number number v)) (attempts_by_number number w) ≡ append a (attempts_by_number number (append v w))
  append_twice a v w =
      same_attempts (greatest_of a.furthest v.furthest w.furthest) (twice a.positives v.positives w.positives) (twice a.negatives v.negatives w.negatives)
    where
      twice : (xs : List ℕ) (ys zs : List Text) → (xs ++ map number ys) ++ map number zs ≡ xs ++ map number (ys ++ zs)
      twice xs ys zs = append_assoc xs (map number ys) (map number zs) ∙ ap (λ u. xs ++ u) (sym (map-append number ys zs))

-- the attempts of two parts, of a part below a `!`, and of none
pub of_both : (below : Bool) (f g : Failures) → attempts_of below (both f g) ≡ append (attempts_of below f) (attempts_of below g)
of_both true f g = refl
of_both false f g = refl

pub of_unnamed : (below : Bool) (f : Failures) → attempts_of below (unnamed f) ≡ attempts_of (not below) f
of_unnamed true f = refl
of_unnamed false f = refl

pub of_silent : (below : Bool) (f : Failures) → f.attempts ≡ no_attempt → f.negated ≡ no_attempt → attempts_of below f ≡ no_attempt
of_silent true f e h = h
of_silent false f e h = e

-- the failures of a call, by those of the body
abbrev pub called : (counts gives : Bool) → Text → Places → State → Outcome → Failures → Failures
called counts gives x asked s o f = record {
  furthest = max (place_of counts s o) f.furthest;
  names = told counts x asked.names s o f.names;
  paths = told_paths counts x asked.names s o f.paths;
  attempts = told_attempts gives false x asked.attempts s o f.attempts;
  negated = told_attempts gives true x asked.attempts s o f.negated;
}

pub of_called : (counts gives : Bool) (x : Text) (asked : Places) (s : State) (o : Outcome) (f : Failures) (below : Bool)
    → attempts_of below (called counts gives x asked s o f) ≡ told_attempts gives below x asked.attempts s o (attempts_of below f)
of_called counts gives x asked s o f true = refl
of_called counts gives x asked s o f false = refl

-- and of `EOI`
pub of_end : (asked : Places) (s : State) (o : Outcome) (below : Bool) → attempts_of below (end_failures asked s o) ≡ told_attempts true below (codes "EOI") asked.attempts s o no_attempt
of_end asked s o true = refl
of_end asked s o false = refl

-- those of three parts
pub append_three : (a b c : Attempts Text) → append (append a b) c ≡ append a (append b c)
append_three a b c =
    same_attempts (greatest_of a.furthest b.furthest c.furthest) (append_assoc a.positives b.positives c.positives) (append_assoc a.negatives b.negatives c.negatives)

pub none_before : (a : Attempts Text) → append no_attempt a ≡ a
none_before a =
    let m : max 0 a.furthest ≡ a.furthest = omega arith in
    ap (λ i. record a { furthest = i }) m

-- no attempt is behind the end of the text
module _ (text : Text) (place : ℕ) (beyond : size_of text < place) where
  two : {a b : Attempts Text} → a ≡ no_attempt → b ≡ no_attempt → append a b ≡ no_attempt
  two e h = ap₂ append e h

  three : {a b c : Attempts Text} → a ≡ no_attempt → b ≡ no_attempt → c ≡ no_attempt → append a (append b c) ≡ no_attempt
  three e h i = two e (two h i)

  on_text : (s : State) → IsStateIn text s → s.position < place
  on_text s h =
      let l : size_of text ≡ size_of h.front + size_of s.rest = ap size_of h.split ∙ sum_by-append len_utf8 h.front s.rest in
      omega (arith, l, h.size, beyond)

  call_none : (below : Bool) (n : Text) (at : ℕ) → at < place → after_call below place n at no_attempt no_attempt ≡ no_attempt
  call_none below n at l =
      let e : (at == place) ≡ false = grind (arith, l) in
      let k : nat_lt at place ≡ true = grind (arith, l) in
      ap₂ (λ b c. record (if b && true then with_rule below n no_attempt else no_attempt) { furthest = max 0 (if c then 0 else at) }) e k

  untold : (b below : Bool) (n : Text) (s : State) (o : Outcome) → IsStateIn text s → {within : Attempts Text} → within ≡ no_attempt → told_attempts b below n place s o within ≡ no_attempt
  untold false below n s o h e = e
  untold true below n s o h e = ap (told_attempts true below n place s o) e ∙ go (is_recorded below (has_matched o))
    where
      go : (b : Bool) → (if b then after_call below place n s.position no_attempt no_attempt else no_attempt) ≡ no_attempt
      go true = call_none below n s.position (on_text s h)
      go false = refl

  pub no_attempts : {g : Grammar} {classes : Classes} {k : Task} {s : State} {o : Outcome} (below : Bool) (d : Does g classes k s o) → IsStateIn text s → attempts_at below place d ≡ no_attempt
  no_attempts below str h = refl
  no_attempts below insens h = refl
  no_attempts below range h = refl
  no_attempts below slice h = refl
  no_attempts below skip h = refl
  no_attempts below (call {m = m} {n = n} {s = s} {o = o} {r = r} e d) h = untold (gives_token r.type_of m) below n s o h (no_attempts below d h)
  no_attempts below (other {m = m} {n = n} {s = s} {o = o} e b) h = untold (seen_from m && is_eoi n) below n s o h refl
  no_attempts below (pos_pred d) h = no_attempts below d h
  no_attempts below (neg_pred d) h = no_attempts (not below) d h
  no_attempts below (push d) h = no_attempts below d h
  no_attempts below push_literal h = refl
  no_attempts below (tag d) h = no_attempts below d h
  no_attempts below (restore d) h = no_attempts below d h
  no_attempts below (seq a k b) h =
      let x = fits text a h in let y = fits text k x.0 in
      three (no_attempts below a h) (no_attempts below k x.0) (no_attempts below b y.0)
  no_attempts below (seq_first a) h = no_attempts below a h
  no_attempts below (seq_second a k b) h =
      let x = fits text a h in let y = fits text k x.0 in
      three (no_attempts below a h) (no_attempts below k x.0) (no_attempts below b y.0)
  no_attempts below (left a) h = no_attempts below a h
  no_attempts below (right a b) h = two (no_attempts below a h) (no_attempts below b h)
  no_attempts below (opt a) h = no_attempts below a h
  no_attempts below (opt_none a) h = no_attempts below a h
  no_attempts below (rep a b) h = let x = fits text a h in two (no_attempts below a h) (no_attempts below b x.0)
  no_attempts below (rep_none a) h = no_attempts below a h
  no_attempts below (turn k a b) h =
      let x = fits text k h in let y = fits text a x.0 in
      three (no_attempts below k h) (no_attempts below a x.0) (no_attempts below b y.0)
  no_attempts below (turn_none k a) h = let x = fits text k h in two (no_attempts below k h) (no_attempts below a x.0)
  no_attempts below (rep_once d) h = no_attempts below d h
  no_attempts below (rep_exact d) h = no_attempts below d h
  no_attempts below (rep_min d) h = no_attempts below d h
  no_attempts below (rep_max d) h = no_attempts below d h
  no_attempts below (rep_min_max d) h = no_attempts below d h
  no_attempts below (skips d) h = no_attempts below d h
  no_attempts below atomic h = refl
  no_attempts below compound_atomic h = refl
  no_attempts below between h = refl
