-- What no report is certain of.
use Rattle.std.proofs.Common.{◌≡◌, ◌⊎◌, inl, inr, ℕ, zero, suc, [], ◌∷◌, false, Some, None, refl, sym, ◌∙◌, ap, subst, codes}
use Rattle.base_language.specs.Language.Builtins.{builtins}
use Rattle.base_language.specs.Language.Expression.{Expression, Ident, Rep, RepExact}
use Rattle.base_language.specs.Language.State.{Classes, AtomicMode, State, None', Success}
use Rattle.base_language.specs.Language.Meaning.{Does, Run, rep_none, rep_exact, seq, other, atomic}
use Rattle.base_language.specs.Language.Text.{Text}
use Rattle.base_language.proofs.Basics.{same_some}
use Rattle.front_stack_domain.specs.Refuted.{peeked, peeked_twice, top, top_of_none, alone}
use Rattle.front_stack_domain.specs.Stack.{AbstractStack}
use Rattle.front_stack_domain.specs.Reading.{Required}
use Rattle.front_stack_domain.specs.Reports.{Repetition, repetition, Repeats, any_times, once_or_more, at_least, Route, Here, Turn, HasTurn, IsPartAt, to_itself, to_seq_first, to_seq_second, to_choice_first, to_choice_second, to_opt, to_push, to_pos_pred, to_neg_pred, to_turn, now, after_required, ReachesRoute, reach, reach_turn, IsCertain, NeverEnds, to_tag}

name_alone : {e p : Expression} {r : Route} (n : Text) → IsPartAt e r p → e ≡ Ident n → p ≡ Ident n
name_alone n to_itself h = h
name_alone n (to_seq_first l) h = cc
name_alone n (to_seq_second l) h = cc
name_alone n (to_choice_first l) h = cc
name_alone n (to_choice_second l) h = cc
name_alone n (to_opt l) h = cc
name_alone n (to_push l) h = cc
name_alone n (to_tag l) h = cc
name_alone n (to_pos_pred l) h = cc
name_alone n (to_neg_pred l) h = cc
name_alone n (to_turn {q = q} x t l) h = let f : None ≡ Some q = sym (ap repetition h) ∙ x in cc

itself_here : {e p : Expression} {r : Route} (n : Text) → IsPartAt e r p → e ≡ Rep (Ident n) → p ≡ Rep (Ident n) → r ≡ Here
itself_here n to_itself h k = refl
itself_here n (to_seq_first l) h k = cc
itself_here n (to_seq_second l) h k = cc
itself_here n (to_choice_first l) h k = cc
itself_here n (to_choice_second l) h k = cc
itself_here n (to_opt l) h k = cc
itself_here n (to_push l) h k = cc
itself_here n (to_tag l) h k = cc
itself_here n (to_pos_pred l) h k = cc
itself_here n (to_neg_pred l) h k = cc
itself_here n (to_turn {q = q} x t l) h k =
    let f : q.body ≡ Ident n = ap (λ (q : Repetition). q.body) (same_some (sym x ∙ ap repetition h)) in
    let g = name_alone n l f in cc

in_a_turn : {e p : Expression} {r : Route} (n : Text) → IsPartAt e r p → e ≡ RepExact (Rep (Ident n)) 2 → p ≡ Rep (Ident n)
    → (r ≡ Turn 0 Here) ⊎ (r ≡ Turn 1 Here)
in_a_turn n to_itself h k = cc
in_a_turn n (to_seq_first l) h k = cc
in_a_turn n (to_seq_second l) h k = cc
in_a_turn n (to_choice_first l) h k = cc
in_a_turn n (to_choice_second l) h k = cc
in_a_turn n (to_opt l) h k = cc
in_a_turn n (to_push l) h k = cc
in_a_turn n (to_tag l) h k = cc
in_a_turn n (to_pos_pred l) h k = cc
in_a_turn n (to_neg_pred l) h k = cc
in_a_turn n (to_turn {q = q} {i = i} {r = r} x t l) h k =
    let same = same_some (sym x ∙ ap repetition h) in
    let here = itself_here n l (ap (λ (q : Repetition). q.body) same) k in
    go i (subst (λ (q : Repetition). HasTurn q.copies i) same t) here
  where
    go : (j : ℕ) → HasTurn (Required ∷ Required ∷ []) j → r ≡ Here → (Turn j r ≡ Turn 0 Here) ⊎ (Turn j r ≡ Turn 1 Here)
    go zero t e = inl (ap (Turn 0) e)
    go (suc zero) t e = inr (ap (Turn 1) e)
    go (suc (suc j)) t e = absurd t

no_class : Classes
no_class n c = false

-- at the end of a text, with "x" on the stack
stuck : State
stuck = record { position = 0; rest = []; stack = codes "x" ∷ [] }

ends_there : Does (alone peeked_twice) no_class (Run AtomicMode peeked) stuck (Success stuck None')
unfolding builtins no_class stuck
ends_there = rep_none (other refl refl)

turn_reached : (r : Route) → (r ≡ Turn 0 Here) ⊎ (r ≡ Turn 1 Here) → ReachesRoute (alone peeked_twice) no_class AtomicMode peeked_twice r stuck stuck
turn_reached r (inl e) = subst (λ r. ReachesRoute (alone peeked_twice) no_class AtomicMode peeked_twice r stuck stuck) (sym e) (reach_turn refl now reach)
turn_reached r (inr e) = subst (λ r. ReachesRoute (alone peeked_twice) no_class AtomicMode peeked_twice r stuck stuck) (sym e) (reach_turn refl (after_required ends_there atomic now) reach)

pub may_end : (r : Route) (a : AbstractStack) → IsCertain (alone peeked_twice) peeked_twice peeked r a → ⊥
may_end r a c =
    let reached = turn_reached r (in_a_turn (codes "PEEK_ALL") c.leads refl refl) in
    c.no_outcome no_class AtomicMode stuck (Success stuck None') tt (c.described no_class AtomicMode stuck stuck tt reached) ends_there

pub ends_on_route : (r : Route) → IsPartAt peeked_twice r peeked → NeverEnds (alone peeked_twice) peeked_twice r → ⊥
ends_on_route r l n =
    let reached = turn_reached r (in_a_turn (codes "PEEK_ALL") l refl refl) in
    n.starts no_class AtomicMode stuck stuck (Success stuck None') tt reached (rep_exact (seq ends_there atomic ends_there))

once : {p e : Expression} (n : Text) → Repeats p e → p ≡ Ident n → ⊥
once n any_times h = cc
once n once_or_more h = cc
once n at_least h = cc

pub repeats_nothing : (r : Route) (a : AbstractStack) → IsCertain (alone top_of_none) top_of_none top r a → ⊥
repeats_nothing r a c = once (codes "PEEK") c.repeats refl
