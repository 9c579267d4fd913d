-- Unrolling leads to one end at most: the form in which all copies are written out.
use Rattle.std.proofs.Common.{◌≡◌, refl, sym, ◌∙◌, ap, ℕ, zero, suc, ◌-◌, min, List, [], ◌∷◌, ◌++◌, map, replicate}
use Rattle.std.proofs.lemmas.List.{map-append}
use Rattle.base_language.specs.Language.Expression.{Expression, Seq, Choice, PosPred, NegPred, Opt, Rep, RepOnce, RepExact, RepMin, RepMax, RepMinMax, Push, NodeTag, RestoreOnErr}
use Rattle.base_language.specs.Language.Meaning.{in_sequence, exactly, at_least, at_most, from_to}
use Rattle.base_language.specs.Rewritings.Rewriting.{Within, here, in_pos_pred, in_neg_pred, in_opt, in_rep, in_rep_once, in_rep_exact, in_rep_min, in_rep_max, in_rep_min_max, in_push, in_tag, in_restore, in_seq_left, in_seq_right, in_choice_left, in_choice_right, Many, no_step, one_step, Unrolls, unroll_exact, unroll_min, unroll_max, unroll_min_max}
use Rattle.front_optimizer.specs.Passes.{IsUnrolling}
use Rattle.front_optimizer.specs.Unrolled.{IsUnrolled}

abbrev pub written_out : Expression → Expression
written_out (RepExact e i) = exactly (written_out e) i
written_out (RepMin e i) = at_least (written_out e) i
written_out (RepMax e i) = at_most (written_out e) i
written_out (RepMinMax e i j) = from_to (written_out e) i j
written_out (Seq a b) = Seq (written_out a) (written_out b)
written_out (Choice a b) = Choice (written_out a) (written_out b)
written_out (PosPred e) = PosPred (written_out e)
written_out (NegPred e) = NegPred (written_out e)
written_out (Opt e) = Opt (written_out e)
written_out (Rep e) = Rep (written_out e)
written_out (RepOnce e) = RepOnce (written_out e)
written_out (Push e) = Push (written_out e)
written_out (NodeTag e i) = NodeTag (written_out e) i
written_out (RestoreOnErr e) = RestoreOnErr (written_out e)
written_out e = e

out_in_sequence : (es : List Expression) → written_out (in_sequence es) ≡ in_sequence (map written_out es)
out_in_sequence [] = refl
out_in_sequence (e ∷ []) = refl
out_in_sequence (e ∷ f ∷ es) = ap (Seq (written_out e)) (out_in_sequence (f ∷ es))

copies : (n : ℕ) (e : Expression) → map written_out (replicate n e) ≡ replicate n (written_out e)
copies zero e = refl
copies (suc n) e = ap (λ es. written_out e ∷ es) (copies n e)

copies_and : (n : ℕ) (e : Expression) (fs : List Expression) → written_out (in_sequence (replicate n e ++ fs)) ≡ in_sequence (replicate n (written_out e) ++ map written_out fs)
copies_and n e fs = out_in_sequence (replicate n e ++ fs) ∙ ap in_sequence (map-append written_out (replicate n e) fs ∙ ap (λ es. es ++ map written_out fs) (copies n e))

kept_here : {a b : Expression} → Unrolls a b → written_out a ≡ written_out b
kept_here (unroll_exact {e} {i}) = sym (out_in_sequence (replicate i e) ∙ ap in_sequence (copies i e))
kept_here (unroll_min {e} {i}) = sym (copies_and i e (Rep e ∷ []))
kept_here (unroll_max {e} {i}) = sym (out_in_sequence (replicate i (Opt e)) ∙ ap in_sequence (copies i (Opt e)))
kept_here (unroll_min_max {e} {i} {j}) = sym (copies_and (min i j) e (replicate (j - i) (Opt e)) ∙ ap (λ fs. in_sequence (replicate (min i j) (written_out e) ++ fs)) (copies (j - i) (Opt e)))

kept : {a b : Expression} → Within Unrolls a b → written_out a ≡ written_out b
kept (here r) = kept_here r
kept (in_pos_pred w) = ap PosPred (kept w)
kept (in_neg_pred w) = ap NegPred (kept w)
kept (in_opt w) = ap Opt (kept w)
kept (in_rep w) = ap Rep (kept w)
kept (in_rep_once w) = ap RepOnce (kept w)
kept (in_rep_exact {i = i} w) = ap (λ x. exactly x i) (kept w)
kept (in_rep_min {i = i} w) = ap (λ x. at_least x i) (kept w)
kept (in_rep_max {i = i} w) = ap (λ x. at_most x i) (kept w)
kept (in_rep_min_max {i = i} {j = j} w) = ap (λ x. from_to x i j) (kept w)
kept (in_push w) = ap Push (kept w)
kept (in_tag {t = i} w) = ap (λ x. NodeTag x i) (kept w)
kept (in_restore w) = ap RestoreOnErr (kept w)
kept (in_seq_left {c = c} w) = ap (λ x. Seq x (written_out c)) (kept w)
kept (in_seq_right {c = c} w) = ap (Seq (written_out c)) (kept w)
kept (in_choice_left {c = c} w) = ap (λ x. Choice x (written_out c)) (kept w)
kept (in_choice_right {c = c} w) = ap (Choice (written_out c)) (kept w)

kept_along : {a b : Expression} → Many Unrolls a b → written_out a ≡ written_out b
kept_along no_step = refl
kept_along (one_step w m) = kept w ∙ kept_along m

stands : (e : Expression) → IsUnrolled e → written_out e ≡ e
stands (Seq a b) u = ap (λ x. Seq x (written_out b)) (stands a u.0) ∙ ap (Seq a) (stands b u.1)
stands (Choice a b) u = ap (λ x. Choice x (written_out b)) (stands a u.0) ∙ ap (Choice a) (stands b u.1)
stands (PosPred e) u = ap PosPred (stands e u)
stands (NegPred e) u = ap NegPred (stands e u)
stands (Opt e) u = ap Opt (stands e u)
stands (Rep e) u = ap Rep (stands e u)
stands (RepOnce e) u = ap RepOnce (stands e u)
stands (RepExact e i) u = absurd u
stands (RepMin e i) u = absurd u
stands (RepMax e i) u = absurd u
stands (RepMinMax e i j) u = absurd u
stands (Push e) u = ap Push (stands e u)
stands (NodeTag e i) u = ap (λ x. NodeTag x i) (stands e u)
stands (RestoreOnErr e) u = ap RestoreOnErr (stands e u)
stands e u = refl

pub one_unrolling : (a b c : Expression) → IsUnrolling a b → IsUnrolling a c → b ≡ c
one_unrolling a b c i j = sym (stands b i.unrolled) ∙ sym (kept_along i.steps) ∙ kept_along j.steps ∙ stands c j.unrolled
