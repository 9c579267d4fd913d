use Rattle.std.proofs.Common.{Err, ap, ◌∙◌}
use Rattle.std.proofs.lemmas.Result.{err_from_is_err_and}
use Rattle.base_ast.specs.Optimized.{optimized_expression_of, optimized_rules_of}
use Rattle.base_language.specs.Language.Expression.{of_choice_left, of_choice_right, of_neg_pred, of_opt, of_pos_pred, of_push, of_rep, of_rep_once, of_restore, of_seq_left, of_seq_right, of_tag}
use Rattle.matcher_program.proofs.Refusing.{high_refused, low_refused}
use Rattle.matcher_program.proofs.forms.begin.Goals as goal
use Rattle.matcher_program.proofs.forms.begin.Goals.{in-PosPred, in-NegPred, in-Opt, in-Rep, in-RepOnce, in-Push, in-RestoreOnErr, in-NodeTag+in_ok-clone-in-NodeTag, in-Seq, in-Choice}

pub returns-in_err-range_bound-in-Range-clause-refused : goal.returns-in_err-range_bound-in-Range-clause-refused
returns-in_err-range_bound-in-Range-clause-refused c =
    let p = err_from_is_err_and c.from_residual-in_err-range_bound-in-Range.result c.from_residual-in_err-range_bound-in-Range.ensures.1 in
    low_refused c.args.properties.now (optimized_rules_of c.args.rules.now.rules.now) _ _ _ c.from_residual-in_err-range_bound-in-Range.result c.in_err-range_bound-in-Range.field-0.0 (ap optimized_expression_of c.in-Range.is) (p.1 ∙ ap (λ e. Err e) p.2) c.in_err-range_bound-in-Range.ensures.refused

pub returns-in_err-range_bound-in-Range-2-clause-refused : goal.returns-in_err-range_bound-in-Range-2-clause-refused
returns-in_err-range_bound-in-Range-2-clause-refused c =
    let p = err_from_is_err_and c.from_residual-in_err-range_bound-in-Range-2.result c.from_residual-in_err-range_bound-in-Range-2.ensures.1 in
    high_refused c.args.properties.now (optimized_rules_of c.args.rules.now.rules.now) _ _ _ c.from_residual-in_err-range_bound-in-Range-2.result c.in_err-range_bound-in-Range-2.field-0.0 (ap optimized_expression_of c.in-Range.is) (p.1 ∙ ap (λ e. Err e) p.2) c.in_err-range_bound-in-Range-2.ensures.refused

pub returns-clause-within : goal.returns-clause-within
returns-clause-within c =
    elim c.match-expr.branch [
      | in-PosPred w ↦ rw (c.deref.ensures, w.around-is, w.in-PosPred.is) (tt, λ x p. of_pos_pred p)
      | in-NegPred w ↦ rw (c.deref.ensures, w.around-is, w.in-NegPred.is) (tt, λ x p. of_neg_pred p)
      | in-Opt w ↦ rw (c.deref.ensures, w.around-is, w.in-Opt.is) (tt, λ x p. of_opt p)
      | in-Rep w ↦ rw (c.deref.ensures, w.around-is, w.in-Rep.is) (tt, λ x p. of_rep p)
      | in-RepOnce w ↦ rw (c.deref.ensures, w.around-is, w.in-RepOnce.is) (tt, λ x p. of_rep_once p)
      | in-Push w ↦ rw (c.deref.ensures, w.around-is, w.in-Push.is) (tt, λ x p. of_push p)
      | in-RestoreOnErr w ↦ rw (c.deref.ensures, w.around-is, w.in-RestoreOnErr.is) (tt, λ x p. of_restore p)
      | in-NodeTag+in_ok-clone-in-NodeTag w ↦ rw (c.deref.ensures, w.around-is, w.in-NodeTag.is) (tt, λ x p. of_tag p)
      | in-Seq w ↦ rw (c.deref.ensures, w.around-is, w.in-Seq.is) (λ x p. of_seq_right p, λ x p. of_seq_left p)
      | in-Choice w ↦ rw (c.deref.ensures, w.around-is, w.in-Choice.is) (λ x p. of_choice_right p, λ x p. of_choice_left p)
    ]
