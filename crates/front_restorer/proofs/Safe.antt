-- Wrappers stand where a failure may have lost an entry.
use Rattle.std.proofs.Common.{◌≡◌, ℕ, min, ◌-◌, [], Bool, true, false, if◌then◌else◌, bytes_eq, codes, Option, Some, None, refl, subst}
use Rattle.base_language.specs.Language.Text.{Text}
use Rattle.base_language.specs.Language.Expression.{Expression, Str, Ident, Seq, Opt, Rule, Grammar, rule_of, or_else, whitespace, comment, Part, whole, of_pos_pred, of_neg_pred, of_seq_left, of_seq_right, of_choice_left, of_choice_right, of_opt, of_rep, of_rep_once, of_rep_exact, of_rep_min_max, of_push, of_restore, of_tag}
use Rattle.base_language.specs.Language.Builtins.{builtin_of, builtins, property_names, general_categories, binary_properties, scripts}
use Rattle.base_language.specs.Language.Meaning.{exactly, from_to}
use Rattle.base_language.specs.Rewritings.Rewriting.{EachBody, no_rules, also_rule}
use Rattle.base_language.specs.Language.WellFormed.{IsSkipped, is_whitespace, is_comment, Reaches, itself, onward}
use Rattle.base_language.specs.Language.LooseMeaning.{Pops, pops, pops_all, pops_rule, pops_left, pops_right, pops_push, pops_rep_exact, pops_rep_min_max, Safe, wrapped, keeps, SafeHere, IsSafe, Restored, pops_tag}
use Rattle.base_language.specs.Rewritings.Wrapping.{ChangesStack, changes_push, changes_push_literal, changes_pop, changes_pop_all, changes_rule, changes_pos_pred, changes_neg_pred, changes_seq_left, changes_seq_right, changes_left, changes_right, changes_opt, changes_rep, changes_rep_once, changes_rep_exact, changes_rep_min_max, Wraps, wraps, leaves, RestoresTo, restores_str, restores_insens, restores_range, restores_name, restores_slice, restores_skip, restores_pos_pred, restores_neg_pred, restores_push, restores_seq, restores_choice, restores_opt, restores_rep, restores_rep_once, EachRestored, restores_push_literal, restores_tag, changes_tag}
use Rattle.base_language.proofs.Moving.{each_copy, each_of_both, in_all}
use Rattle.base_language.proofs.BothMeaningsAgree.{same_endings}
use Rattle.base_language.proofs.Basics.{same_some}
use Rattle.front_restorer.specs.Agreeing.{AgreesLoosely, WrappersSuffice}
use Rattle.front_restorer.proofs.Changers.{is_pop, is_pop_all}

-- the rule of a name, before it was restored
abbrev with_body : Rule → Expression → Rule
with_body r b = record r { body = b }

module _ (g : Grammar) where
  pub data Pair : Option Rule → Option Rule → Type 0 where
    neither : Pair None None
    two : {r : Rule} {b : Expression} → RestoresTo g r.body b → Pair (Some r) (Some (record r { body = b }))

  pair_here : (c : Bool) (r : Rule) {b : Expression} → RestoresTo g r.body b → Pair (if c then Some r else None) (if c then Some (record r { body = b }) else None)
  pair_here true r x = two x
  pair_here false r x = neither

  pair_if : (c : Bool) (r : Rule) {b : Expression} {p q : Option Rule} → RestoresTo g r.body b → Pair p q → Pair (or_else p (if c then Some r else None)) (or_else q (if c then Some (record r { body = b }) else None))
  pair_if c r x neither = pair_here c r x
  pair_if c r x (two y) = two y

  pairs : {rs qs : Grammar} → EachBody (λ y. RestoresTo g) rs qs → (n : Text) → Pair (rule_of rs n) (rule_of qs n)
  pairs no_rules n = neither
  pairs (also_rule {r = r} x y) n = pair_if (bytes_eq r.name n) r x (pairs y n)

  backward : {p q : Option Rule} {r : Rule} → Pair p q → q ≡ Some r → (a : Expression) × (p ≡ Some (record r { body = a })) × RestoresTo g a r.body
  backward neither e = cc
  backward (two {r = s} {b = b} x) e = subst (λ r. (a : Expression) × (Some s ≡ Some (record r { body = a })) × RestoresTo g a r.body) (same_some e) (s.body, refl, x)

  -- what changes the stack behind the restorer did before it
  unwrapped : {b c : Expression} → Wraps g b c → ChangesStack g c → ChangesStack g b
  unwrapped (wraps d) x = elim x [ ]
  unwrapped (leaves d) x = x

  changed_before : {a b : Expression} → RestoresTo g a b → ChangesStack g b → ChangesStack g a
  changed_before restores_name x = x
  changed_before restores_str x = elim x [ ]
  changed_before restores_insens x = elim x [ ]
  changed_before restores_range x = elim x [ ]
  changed_before restores_slice x = elim x [ ]
  changed_before restores_skip x = elim x [ ]
  changed_before (restores_pos_pred d) (changes_pos_pred x) = changes_pos_pred (changed_before d x)
  changed_before (restores_neg_pred d) (changes_neg_pred x) = changes_neg_pred (changed_before d x)
  changed_before (restores_push d) x = changes_push
  changed_before restores_push_literal x = changes_push_literal
  changed_before (restores_tag d) (changes_tag x) = changes_tag (changed_before d x)
  changed_before (restores_seq d f) (changes_seq_left x) = changes_seq_left (changed_before d x)
  changed_before (restores_seq d f) (changes_seq_right x) = changes_seq_right (changed_before f x)
  changed_before (restores_choice d v f w) (changes_left x) = changes_left (changed_before d (unwrapped v x))
  changed_before (restores_choice d v f w) (changes_right x) = changes_right (changed_before f (unwrapped w x))
  changed_before (restores_opt d v) (changes_opt x) = changes_opt (changed_before d (unwrapped v x))
  changed_before (restores_rep d v) (changes_rep x) = changes_rep (changed_before d (unwrapped v x))
  changed_before (restores_rep_once d v) (changes_rep_once x) = changes_rep_once (changed_before d (unwrapped v x))

  -- copies change the stack where what is copied does
  abbrev By : Expression → Expression → Type 0
  By e x = ChangesStack g x → ChangesStack g e

  by_sequence : (e a b : Expression) → By e a → By e b → By e (Seq a b)
  by_sequence e a b f k (changes_seq_left d) = f d
  by_sequence e a b f k (changes_seq_right d) = k d

  by_nothing : (e : Expression) → By e (Str [])
  by_nothing e d = elim d [ ]

  by_optional : (e : Expression) → By e (Opt e)
  by_optional e (changes_opt d) = d

  by_exactly : (e : Expression) (i : ℕ) → By e (exactly e i)
  by_exactly e i = in_all (By e) (by_nothing e) (by_sequence e) (each_copy (By e) i (λ d. d))

  by_from_to : (e : Expression) (i j : ℕ) → By e (from_to e i j)
  by_from_to e i j = in_all (By e) (by_nothing e) (by_sequence e) (each_of_both (By e) (each_copy (By e) (min i j) (λ d. d)) (each_copy (By e) (j - i) (by_optional e)))

module _ (g h : Grammar) (a : EachRestored g h) where
  before : (n : Text) (q : Rule) → rule_of h n ≡ Some q → (b : Expression) × (rule_of g n ≡ Some (record q { body = b })) × RestoresTo g b q.body
  before n q e = backward g (pairs g a n) e

  -- what may have lost an entry changes the stack
  changing : {e : Expression} → Pops h e → ChangesStack g e
  changing (pops b) = changes_pop b
  changing (pops_all b) = changes_pop_all b
  changing (pops_rule {n = n} {r = q} e d) =
      let (b, i, t) = before n q e in
      changes_rule i (changed_before g t (changing d))
  changing (pops_left d) = changes_left (changing d)
  changing (pops_right d) = changes_right (changing d)
  changing (pops_push d) = changes_push
  changing (pops_tag d) = changes_tag (changing d)
  changing (pops_rep_exact {e = e} {i = i} d) = changes_rep_exact (by_exactly g e i (changing d))
  changing (pops_rep_min_max {e = e} {i = i} {j = j} d) = changes_rep_min_max (by_from_to g e i j (changing d))

  safe : {b c : Expression} → Wraps g b c → Safe h c
  safe (wraps {e = e} d) = wrapped e refl
  safe (leaves d) = keeps (λ p. d (changing p))

  below : {b c p : Expression} → Wraps g b c → ((p : Expression) → Part b p → SafeHere h p) → Part c p → SafeHere h p
  below (wraps d) i whole = tt
  below (wraps d) i (of_restore k) = i _ k
  below (leaves d) i k = i _ k

  is_safe : {b c : Expression} → RestoresTo g b c → (p : Expression) → Part c p → SafeHere h p
  is_safe restores_str p whole = tt
  is_safe restores_insens p whole = tt
  is_safe restores_range p whole = tt
  is_safe restores_name p whole = tt
  is_safe restores_slice p whole = tt
  is_safe restores_skip p whole = tt
  is_safe (restores_pos_pred d) p whole = tt
  is_safe (restores_pos_pred d) p (of_pos_pred k) = is_safe d p k
  is_safe (restores_neg_pred d) p whole = tt
  is_safe (restores_neg_pred d) p (of_neg_pred k) = is_safe d p k
  is_safe (restores_push d) p whole = tt
  is_safe (restores_push d) p (of_push k) = is_safe d p k
  is_safe restores_push_literal p whole = tt
  is_safe (restores_tag d) p whole = tt
  is_safe (restores_tag d) p (of_tag k) = is_safe d p k
  is_safe (restores_seq d e) p whole = tt
  is_safe (restores_seq d e) p (of_seq_left k) = is_safe d p k
  is_safe (restores_seq d e) p (of_seq_right k) = is_safe e p k
  is_safe (restores_choice d v e w) p whole = (safe v, safe w)
  is_safe (restores_choice d v e w) p (of_choice_left k) = below v (is_safe d) k
  is_safe (restores_choice d v e w) p (of_choice_right k) = below w (is_safe e) k
  is_safe (restores_opt d v) p whole = safe v
  is_safe (restores_opt d v) p (of_opt k) = below v (is_safe d) k
  is_safe (restores_rep d v) p whole = safe v
  is_safe (restores_rep d v) p (of_rep k) = below v (is_safe d) k
  is_safe (restores_rep_once d v) p whole = safe v
  is_safe (restores_rep_once d v) p (of_rep_once k) = below v (is_safe d) k

  body_safe : (n : Text) (q : Rule) → rule_of h n ≡ Some q → IsSafe h q.body
  body_safe n q e p k = let (b, i, t) = before n q e in is_safe t p k

-- the parts of copies are those of what is copied, but for the sequences and `?` that are made of them
abbrev Within : Rule → Expression → Type 0
Within q e = (n : Text) → Part e (Ident n) → Part q.body (Ident n)

within_nothing : (q : Rule) → Within q (Str [])
within_nothing q n k = elim k [ ]

within_sequence : (q : Rule) (x y : Expression) → Within q x → Within q y → Within q (Seq x y)
within_sequence q x y f k n (of_seq_left p) = f n p
within_sequence q x y f k n (of_seq_right p) = k n p

within_optional : (q : Rule) (e : Expression) → Within q e → Within q (Opt e)
within_optional q e f n (of_opt p) = f n p

within_exactly : (q : Rule) (e : Expression) (i : ℕ) → Within q e → Within q (exactly e i)
within_exactly q e i f = in_all (Within q) (within_nothing q) (within_sequence q) (each_copy (Within q) i f)

within_from_to : (q : Rule) (e : Expression) (i j : ℕ) → Within q e → Within q (from_to e i j)
within_from_to q e i j f = in_all (Within q) (within_nothing q) (within_sequence q) (each_of_both (Within q) (each_copy (Within q) (min i j) f) (each_copy (Within q) (j - i) (within_optional q e f)))

-- a loss comes from a POP or a POP_ALL that is reached
module _ (h : Grammar) (n : Text) (no_pop : Reaches h n (codes "POP") → ⊥) (no_pop_all : Reaches h n (codes "POP_ALL") → ⊥) where
  traced : (k : Text) (q : Rule) → Reaches h n k → rule_of h k ≡ Some q → {e : Expression} → Within q e → Pops h e → ⊥
  traced k q l e i (pops {n = m} b) = no_pop (onward l e (subst (λ x. Part q.body (Ident x)) (is_pop m b) (i m whole)))
  traced k q l e i (pops_all {n = m} b) = no_pop_all (onward l e (subst (λ x. Part q.body (Ident x)) (is_pop_all m b) (i m whole)))
  traced k q l e i (pops_rule {n = m} {r = s} j d) = traced m s (onward l e (i m whole)) j (λ p c. c) d
  traced k q l e i (pops_left d) = traced k q l e (λ p c. i p (of_choice_left c)) d
  traced k q l e i (pops_right d) = traced k q l e (λ p c. i p (of_choice_right c)) d
  traced k q l e i (pops_push d) = traced k q l e (λ p c. i p (of_push c)) d
  traced k q l e i (pops_tag d) = traced k q l e (λ p c. i p (of_tag c)) d
  traced k q l e i (pops_rep_exact {e = x} {i = c} d) = traced k q l e (within_exactly q x c (λ p r. i p (of_rep_exact r))) d
  traced k q l e i (pops_rep_min_max {e = x} {i = c} {j = b} d) = traced k q l e (within_from_to q x c b (λ p r. i p (of_rep_min_max r))) d

whitespace_is_no_builtin : builtin_of whitespace ≡ None
unfolding whitespace builtins property_names general_categories binary_properties scripts
whitespace_is_no_builtin = refl

comment_is_no_builtin : builtin_of comment ≡ None
unfolding comment builtins property_names general_categories binary_properties scripts
comment_is_no_builtin = refl

no_builtin : (n : Text) → IsSkipped n → builtin_of n ≡ None
no_builtin n is_whitespace = whitespace_is_no_builtin
no_builtin n is_comment = comment_is_no_builtin

skipped_keeps : (h : Grammar) → WrappersSuffice h → (n : Text) → IsSkipped n → Pops h (Ident n) → ⊥
skipped_keeps h w n s (pops b) = let i = no_builtin n s in cc
skipped_keeps h w n s (pops_all b) = let i = no_builtin n s in cc
skipped_keeps h w n s (pops_rule {r = q} e d) = traced h n (w.no_pop n s) (w.no_pop_all n s) n q itself e (λ p c. c) d

pub restored : (g h : Grammar) → EachRestored g h → WrappersSuffice h → Restored h
restored g h a w = record { bodies = body_safe g h a; skipping = skipped_keeps h w }

name_safe : (h : Grammar) (n : Text) → IsSafe h (Ident n)
name_safe h n p whole = tt

pub agree : (g h : Grammar) → EachRestored g h → WrappersSuffice h → AgreesLoosely h
agree g h a w classes n m s = same_endings h classes (Ident n) m s (restored g h a w) (name_safe h n)
