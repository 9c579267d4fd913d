-- What cannot fail is nullable.
use Rattle.base_language.specs.Language.Expression.{Grammar, Expression}
use Rattle.base_language.specs.Language.WellFormed.{IsNullable, CannotFail, cannot_fail_str, cannot_fail_insens, cannot_fail_call, cannot_fail_opt, cannot_fail_rep, cannot_fail_rep_max, cannot_fail_seq, cannot_fail_left, cannot_fail_right, cannot_fail_rep_once, cannot_fail_push, cannot_fail_pos_pred, cannot_fail_exact_zero, cannot_fail_exact, cannot_fail_min_zero, cannot_fail_min, cannot_fail_min_max_zero, cannot_fail_min_max, cannot_fail_skip, cannot_fail_restore, nullable_str, nullable_insens, nullable_call, nullable_opt, nullable_rep, nullable_rep_max, nullable_seq, nullable_left, nullable_right, nullable_rep_once, nullable_push, nullable_pos_pred, nullable_exact_zero, nullable_exact, nullable_min_zero, nullable_min, nullable_min_max_zero, nullable_min_max, nullable_skip, nullable_restore, nullable_push_literal, nullable_tag, cannot_fail_push_literal, cannot_fail_tag}

module _ (g : Grammar) where
  pub nullable_of : {e : Expression} → CannotFail g e → IsNullable g e
  nullable_of cannot_fail_str = nullable_str
  nullable_of cannot_fail_insens = nullable_insens
  nullable_of (cannot_fail_call h d) = nullable_call h (nullable_of d)
  nullable_of cannot_fail_opt = nullable_opt
  nullable_of cannot_fail_rep = nullable_rep
  nullable_of cannot_fail_rep_max = nullable_rep_max
  nullable_of (cannot_fail_seq a b) = nullable_seq (nullable_of a) (nullable_of b)
  nullable_of (cannot_fail_left a) = nullable_left (nullable_of a)
  nullable_of (cannot_fail_right b) = nullable_right (nullable_of b)
  nullable_of (cannot_fail_rep_once d) = nullable_rep_once (nullable_of d)
  nullable_of (cannot_fail_push d) = nullable_push (nullable_of d)
  nullable_of cannot_fail_push_literal = nullable_push_literal
  nullable_of (cannot_fail_tag d) = nullable_tag (nullable_of d)
  nullable_of (cannot_fail_pos_pred d) = nullable_pos_pred
  nullable_of cannot_fail_exact_zero = nullable_exact_zero
  nullable_of (cannot_fail_exact d) = nullable_exact (nullable_of d)
  nullable_of cannot_fail_min_zero = nullable_min_zero
  nullable_of (cannot_fail_min d) = nullable_min (nullable_of d)
  nullable_of cannot_fail_min_max_zero = nullable_min_max_zero
  nullable_of (cannot_fail_min_max d) = nullable_min_max (nullable_of d)
  nullable_of cannot_fail_skip = nullable_skip
  nullable_of (cannot_fail_restore d) = nullable_restore (nullable_of d)
