-- Each expression without wrappers and counted repetitions has a restored form.
use Rattle.std.proofs.Common.{◌≡◌, refl, Bool, true, false, if◌then◌else◌}
use Rattle.base_language.specs.Language.Expression.{Expression, Str, Insens, Range, Ident, PeekSlice, PosPred, NegPred, Seq, Choice, Opt, Rep, RepOnce, RepExact, RepMin, RepMax, RepMinMax, Skip, Push, PushLiteral, NodeTag, RestoreOnErr, Grammar}
use Rattle.base_language.specs.Rewritings.Wrapping.{ChangesStack, Wraps, wraps, leaves, RestoresTo, restores_str, restores_insens, restores_range, restores_name, restores_slice, restores_skip, restores_pos_pred, restores_neg_pred, restores_push, restores_push_literal, restores_tag, restores_seq, restores_choice, restores_opt, restores_rep, restores_rep_once}
use Rattle.front_restorer.specs.Changing.{changes_by, wrapped_by, restored_by}
use Rattle.front_optimizer.specs.Unrolled.{IsUnrolled}
use Rattle.pest_meta.proofs.Bare.{Bare}
use Rattle.pest_meta.proofs.ChangesDecided.{changers, changes_decided}

module _ (g : Grammar) where
  wraps_to : (e : Expression) → Wraps g e (wrapped_by (changers g) e)
  wraps_to e = let d = changes_decided g e in go (changes_by (changers g) e) d.0 d.1
    where
      go : (b : Bool) → (b ≡ true → ChangesStack g e) → (ChangesStack g e → b ≡ true) → Wraps g e (if b then RestoreOnErr e else e)
      go true f k = wraps (f refl)
      go false f k = leaves (λ c. let h = k c in cc)

  pub restores : (e : Expression) → Bare e → IsUnrolled e → RestoresTo g e (restored_by (changers g) e)
  restores (Str t) u v = restores_str
  restores (Insens t) u v = restores_insens
  restores (Range s t) u v = restores_range
  restores (Ident n) u v = restores_name
  restores (PeekSlice i j) u v = restores_slice
  restores (Skip ts) u v = restores_skip
  restores (PosPred e) u v = restores_pos_pred (restores e u v)
  restores (NegPred e) u v = restores_neg_pred (restores e u v)
  restores (Push e) u v = restores_push (restores e u v)
  restores (PushLiteral t) u v = restores_push_literal
  restores (NodeTag e t) u v = restores_tag (restores e u v)
  restores (Seq a b) u v = restores_seq (restores a u.0 v.0) (restores b u.1 v.1)
  restores (Choice a b) u v =
      restores_choice (restores a u.0 v.0) (wraps_to (restored_by (changers g) a)) (restores b u.1 v.1) (wraps_to (restored_by (changers g) b))
  restores (Opt e) u v = restores_opt (restores e u v) (wraps_to (restored_by (changers g) e))
  restores (Rep e) u v = restores_rep (restores e u v) (wraps_to (restored_by (changers g) e))
  restores (RepOnce e) u v = restores_rep_once (restores e u v) (wraps_to (restored_by (changers g) e))
  restores (RepExact e i) u v = absurd v
  restores (RepMin e i) u v = absurd v
  restores (RepMax e i) u v = absurd v
  restores (RepMinMax e i j) u v = absurd v
  restores (RestoreOnErr e) u v = absurd u
