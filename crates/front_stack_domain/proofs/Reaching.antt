-- A start that reaches a part without an outcome has none itself.
use Rattle.std.proofs.Common.{◌≡◌, ℕ, zero, suc, List, [], ◌∷◌, ◌++◌, replicate, map, min, ◌-◌, Some, refl, sym, ◌∙◌, ap, subst}
use Rattle.base_language.specs.Language.Expression.{Grammar, Expression, Str, Insens, Range, Ident, PeekSlice, PosPred, NegPred, Seq, Choice, Opt, Rep, RepOnce, RepExact, RepMin, RepMax, RepMinMax, Skip, Push, RestoreOnErr, PushLiteral, NodeTag, Rule, rule_of}
use Rattle.base_language.specs.Language.State.{Classes, Mode, IsRuleMode, State, Trees, Outcome, Success}
use Rattle.base_language.specs.Language.Text.{Text}
use Rattle.base_language.specs.Language.Meaning.{Does, Run, Turns, Skipping, Matches, call, other, pos_pred, neg_pred, push, tag, seq, seq_first, seq_second, left, right, opt, opt_none, rep, rep_none, turn, turn_none, rep_once, rep_exact, rep_min, rep_max, rep_min_max, in_sequence, body_mode}
use Rattle.base_language.proofs.Basics.{same_some}
use Rattle.base_language.proofs.OneOutcome.{same, same_state, from}
use Rattle.base_language.proofs.RuleModes.{runs_in_rule_mode}
use Rattle.front_stack_domain.specs.Stack.{AbstractStack}
use Rattle.front_stack_domain.specs.Reading.{Copy, Required, Optional, Endless, from_to_copies, at_least_copies}
use Rattle.front_stack_domain.specs.Reports.{Repetition, repetition, Route, IsPartAt, to_itself, to_seq_first, to_seq_second, to_choice_first, to_choice_second, to_opt, to_push, to_tag, to_pos_pred, to_neg_pred, to_turn, TurnAt, now, after_required, after_optional, after_turn, ReachesRoute, reach, reach_seq_first, reach_seq_second, reach_choice_first, reach_choice_second, reach_opt, reach_push, reach_tag, reach_pos_pred, reach_neg_pred, reach_turn, IsCertain, NeverEnds}

-- what a copy, or the turns at the end, are as an expression
abbrev copy : Expression → Copy → Expression
copy e Required = e
copy e Optional = Opt e
copy e Endless = Rep e

same_copies : (e : Expression) (c : Copy) (n : ℕ) → map (copy e) (replicate n c) ≡ replicate n (copy e c)
same_copies e c zero = refl
same_copies e c (suc n) = ap (λ es. copy e c ∷ es) (same_copies e c n)

copies_append : (e : Expression) (cs ds : List Copy) → map (copy e) (cs ++ ds) ≡ map (copy e) cs ++ map (copy e) ds
copies_append e [] ds = refl
copies_append e (c ∷ cs) ds = ap (λ es. copy e c ∷ es) (copies_append e cs ds)

same_at_least : (e : Expression) (n : ℕ) → map (copy e) (at_least_copies n) ≡ replicate n e ++ Rep e ∷ []
same_at_least e n = copies_append e (replicate n Required) (Endless ∷ []) ∙ ap (λ es. es ++ Rep e ∷ []) (same_copies e Required n)

same_from_to : (e : Expression) (i j : ℕ) → map (copy e) (from_to_copies i j) ≡ replicate (min i j) e ++ replicate (j - i) (Opt e)
same_from_to e i j = copies_append e (replicate (min i j) Required) (replicate (j - i) Optional)
    ∙ (ap (λ es. es ++ map (copy e) (replicate (j - i) Optional)) (same_copies e Required (min i j))
    ∙ ap (λ es. replicate (min i j) e ++ es) (same_copies e Optional (j - i)))

abbrev copies : Repetition → Expression
copies q = in_sequence (map (copy q.body) q.copies)

module _ (g : Grammar) (classes : Classes) (m : Mode) where
  -- from this state it has no outcome
  abbrev Never : Expression → State → Type 0
  Never e s = (o : Outcome) → Does g classes (Run m e) s o → ⊥

  -- a repetition is its copies in sequence
  listed : {s : State} {o : Outcome} {es fs : List Expression} → fs ≡ es → Does g classes (Run m (in_sequence es)) s o → Does g classes (Run m (in_sequence fs)) s o
  listed {s} {o} e d = subst (λ es. Does g classes (Run m (in_sequence es)) s o) (sym e) d

  of_copies : {s : State} {o : Outcome} {p q : Repetition} → p ≡ q → Does g classes (Run m (copies p)) s o → Does g classes (Run m (copies q)) s o
  of_copies {s} {o} e d = subst (λ q. Does g classes (Run m (copies q)) s o) e d

  as_copies : (e : Expression) (q : Repetition) → repetition e ≡ Some q → (s : State) (o : Outcome) → Does g classes (Run m e) s o → Does g classes (Run m (copies q)) s o
  as_copies (Rep e) q h s o d = of_copies (same_some h) d
  as_copies (RepOnce e) q h s o (rep_once d) = of_copies (same_some h) d
  as_copies (RepExact e n) q h s o (rep_exact d) = of_copies (same_some h) (listed (same_copies e Required n) d)
  as_copies (RepMin e n) q h s o (rep_min d) = of_copies (same_some h) (listed (same_at_least e n) d)
  as_copies (RepMax e n) q h s o (rep_max d) = of_copies (same_some h) (listed (same_copies e Optional n) d)
  as_copies (RepMinMax e i j) q h s o (rep_min_max d) = of_copies (same_some h) (listed (same_from_to e i j) d)
  as_copies (Str t) q h s o d = cc
  as_copies (Insens t) q h s o d = cc
  as_copies (Range a b) q h s o d = cc
  as_copies (Ident n) q h s o d = cc
  as_copies (PeekSlice i j) q h s o d = cc
  as_copies (PosPred e) q h s o d = cc
  as_copies (NegPred e) q h s o d = cc
  as_copies (Seq a b) q h s o d = cc
  as_copies (Choice a b) q h s o d = cc
  as_copies (Opt e) q h s o d = cc
  as_copies (Skip ts) q h s o d = cc
  as_copies (Push e) q h s o d = cc
  as_copies (PushLiteral t) q h s o d = cc
  as_copies (NodeTag e t) q h s o d = cc
  as_copies (RestoreOnErr e) q h s o d = cc

  -- sequences
  first_never : {a b : Expression} {s : State} → Never a s → Never (Seq a b) s
  first_never n o (seq a k b) = n _ a
  first_never n o (seq_first a) = n _ a
  first_never n o (seq_second a k b) = n _ a

  second_never : {a b : Expression} {s t u : State} {us vs : Trees} → Does g classes (Run m a) s (Success t us) → Does g classes (Skipping m) t (Success u vs) → Never b u → Never (Seq a b) s
  second_never d k n o (seq c l b) =
      let h = same g classes d c in
      let i = same g classes k (from g classes (same_state h) l) in
      n _ (from g classes (same_state i) b)
  second_never d k n o (seq_first c) = let h = same g classes d c in cc
  second_never d k n o (seq_second c l b) =
      let h = same g classes d c in
      let i = same g classes k (from g classes (same_state h) l) in
      n _ (from g classes (same_state i) b)

  -- copies and turns
  opt_never : {e : Expression} {s : State} → Never e s → Never (Opt e) s
  opt_never n o (opt d) = n _ d
  opt_never n o (opt_none d) = n _ d

  turns_never : {e : Expression} {cs : List Copy} {i : ℕ} {t u v : State} {vs : Trees} → Does g classes (Skipping m) t (Success u vs) → TurnAt g classes m e (Endless ∷ cs) i u v → Never e v → (o : Outcome) → Does g classes (Turns m e) t o → ⊥
  turns_never k now n o (turn l d f) = let i = same g classes k l in n _ (from g classes (same_state i) d)
  turns_never k now n o (turn_none l d) = let i = same g classes k l in n _ (from g classes (same_state i) d)
  turns_never k (after_turn c j r) n o (turn l d f) =
      let i = same g classes k l in
      let h = same g classes c (from g classes (same_state i) d) in
      turns_never j r n _ (from g classes (same_state h) f)
  turns_never k (after_turn c j r) n o (turn_none l d) =
      let i = same g classes k l in
      let h = same g classes c (from g classes (same_state i) d) in cc

  rep_never : {e : Expression} {cs : List Copy} {i : ℕ} {s t : State} → TurnAt g classes m e (Endless ∷ cs) i s t → Never e t → Never (Rep e) s
  rep_never now n o (rep d f) = n _ d
  rep_never now n o (rep_none d) = n _ d
  rep_never (after_turn c k r) n o (rep d f) =
      let h = same g classes c d in
      turns_never k r n _ (from g classes (same_state h) f)
  rep_never (after_turn c k r) n o (rep_none d) = let h = same g classes c d in cc

  copy_never : {e : Expression} {s : State} (c : Copy) → Never e s → Never (copy e c) s
  copy_never Required n = n
  copy_never Optional n = opt_never n
  copy_never Endless n = rep_never {cs = []} now n

  head_never : {e : Expression} {s : State} (es : List Expression) → Never e s → Never (in_sequence (e ∷ es)) s
  head_never [] n = n
  head_never (f ∷ es) n = first_never n

  turn_never : {e : Expression} {cs : List Copy} {i : ℕ} {s t : State} → TurnAt g classes m e cs i s t → Never e t → Never (in_sequence (map (copy e) cs)) s
  turn_never {e} (now {c = c} {cs = cs}) n = head_never (map (copy e) cs) (copy_never c n)
  turn_never (after_required {cs = []} d k r) n = elim r [ ]
  turn_never (after_optional {cs = []} d k r) n = elim r [ ]
  turn_never {e} (after_required {cs = c ∷ cs} d k r) n = second_never d k (turn_never r n)
  turn_never {e} (after_optional {cs = c ∷ cs} d k r) n = second_never d k (turn_never r n)
  turn_never {e} (after_turn {cs = cs} d k r) n = head_never (map (copy e) cs) (rep_never (after_turn d k r) n)

  -- where what stands at a route has no outcome, what reaches it has none
  pub reached_never : {e p : Expression} {r : Route} {s t : State} → IsPartAt e r p → ReachesRoute g classes m e r s t → Never p t → Never e s
  reached_never to_itself reach n o d = n o d
  reached_never (to_seq_first l) (reach_seq_first x) n o d = first_never (reached_never l x n) o d
  reached_never (to_seq_second l) (reach_seq_second c k x) n o d = second_never c k (reached_never l x n) o d
  reached_never (to_choice_first l) (reach_choice_first x) n o (left d) = reached_never l x n _ d
  reached_never (to_choice_first l) (reach_choice_first x) n o (right d f) = reached_never l x n _ d
  reached_never (to_choice_second l) (reach_choice_second c x) n o (left d) = let h = same g classes c d in cc
  reached_never (to_choice_second l) (reach_choice_second c x) n o (right d f) = reached_never l x n _ f
  reached_never (to_opt l) (reach_opt x) n o d = opt_never (reached_never l x n) o d
  reached_never (to_push l) (reach_push x) n o (push d) = reached_never l x n _ d
  reached_never (to_tag l) (reach_tag x) n o (tag d) = reached_never l x n _ d
  reached_never (to_pos_pred l) (reach_pos_pred x) n o (pos_pred d) = reached_never l x n _ d
  reached_never (to_neg_pred l) (reach_neg_pred x) n o (neg_pred d) = reached_never l x n _ d
  reached_never {e} {p} {s = s} {t = t} (to_turn {q = q} {r = r} y z l) (reach_turn {q = v} {t = u} w x k) n o d =
      let f : q ≡ v = same_some (sym y ∙ w) in
      let l' : IsPartAt v.body r p = subst (λ (q : Repetition). IsPartAt q.body r p) f l in
      turn_never x (reached_never l' k n) o (as_copies e v w s o d)

-- no start that reaches the route of what is certain has an outcome
pub never_ends : (g : Grammar) (e p : Expression) (r : Route) (a : AbstractStack) → IsCertain g e p r a → NeverEnds g e r
never_ends g e p r a c = record { starts = starts; calls = calls }
  where
    starts : (classes : Classes) (m : Mode) (s t : State) (o : Outcome) → IsRuleMode m → ReachesRoute g classes m e r s t → Matches g classes e m s o → ⊥
    starts classes m s t o real x d = reached_never g classes m c.leads x (λ q b. c.no_outcome classes m t q real (c.described classes m s t real x) b) o d

    calls : (classes : Classes) (n : Text) (x : Rule) (m : Mode) (s t : State) (o : Outcome) → rule_of g n ≡ Some x → x.body ≡ e → ReachesRoute g classes (body_mode x m) e r s t → Matches g classes (Ident n) m s o → ⊥
    calls classes n x m s t o h b y (call {o = q} {r = z} i d) =
        let f : z ≡ x = same_some (sym i ∙ h) in
        let d' : Matches g classes x.body (body_mode x m) s q = subst (λ (z : Rule). Matches g classes z.body (body_mode z m) s q) f d in
        starts classes (body_mode x m) s t q (runs_in_rule_mode x m) y (subst (λ e. Matches g classes e (body_mode x m) s q) b d')
    calls classes n x m s t o h b y (other i d) = cc
