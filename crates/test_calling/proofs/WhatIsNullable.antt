-- The facts on nullable expressions, on those that cannot fail, and on left calls.
use Rattle.std.proofs.Common.{◌≡◌, ℕ, [], ◌∷◌, false, refl, codes}
use Rattle.base_language.specs.Language.Text.{Text}
use Rattle.base_language.specs.Language.Expression.{Str, Ident, PosPred, Seq, RepMin, RepMinMax, NodeTag}
use Rattle.base_language.specs.Language.Builtins.{is_one_of}
use Rattle.base_language.specs.Language.WellFormed.{IsNullable, nullable_str, nullable_insens, nullable_soi, nullable_eoi, nullable_call, nullable_pos_pred, nullable_neg_pred, nullable_opt, nullable_min_zero, nullable_min, nullable_min_max_zero, nullable_min_max, nullable_push_literal, nullable_tag, CannotFail, cannot_fail_str, cannot_fail_insens, cannot_fail_call, cannot_fail_pos_pred, cannot_fail_min_zero, cannot_fail_min, cannot_fail_min_max_zero, cannot_fail_min_max, cannot_fail_push_literal, cannot_fail_tag, LeftCalls, left_name, left_first, left_second, left_pos_pred, left_neg_pred, left_tag}
use Rattle.test_calling.specs.NullableExpressions.{NullableOrNot, CannotFailOrMay, LeftCalledOrNot}

-- a literal of at least one character is neither
takes_some : {c : ℕ} {t : Text} → IsNullable [] (Str (c ∷ t)) → ⊥
takes_some d = elim d [ ]

may_fail : {c : ℕ} {t : Text} → CannotFail [] (Str (c ∷ t)) → ⊥
may_fail d = elim d [ ]

-- of the builtins only SOI and EOI are nullable, and each may fail
no_other : {n : Text} → is_one_of (codes "SOI" ∷ codes "EOI" ∷ []) n ≡ false → IsNullable [] (Ident n) → ⊥
no_other h nullable_soi = cc
no_other h nullable_eoi = cc
no_other h (nullable_call e d) = cc

builtin_may_fail : (n : Text) → CannotFail [] (Ident n) → ⊥
builtin_may_fail n (cannot_fail_call e d) = cc

peek_takes : IsNullable [] (Ident (codes "PEEK")) → ⊥
peek_takes = no_other refl

-- a repetition of a literal
at_least_takes : IsNullable [] (RepMin (Str (codes "x")) 1) → ⊥
at_least_takes (nullable_min d) = takes_some d

two_take : IsNullable [] (RepMinMax (Str (codes "x")) 2 1) → ⊥
two_take (nullable_min_max d) = takes_some d

one_takes : IsNullable [] (RepMinMax (Str (codes "x")) 1 0) → ⊥
one_takes (nullable_min_max d) = takes_some d

tagged_takes : (t : Text) → IsNullable [] (NodeTag (Str (codes "x")) t) → ⊥
tagged_takes t (nullable_tag d) = takes_some d

pub nullable_or_not : NullableOrNot
nullable_or_not = record {
  empty_literal = nullable_str;
  empty_insensitive = nullable_insens;
  literal = takes_some;
  pos_pred = λ e. nullable_pos_pred;
  neg_pred = λ e. nullable_neg_pred;
  at_least_none = λ e. nullable_min_zero;
  at_least_one = at_least_takes;
  two_to_one = two_take;
  one_to_none = one_takes;
  none_to_one = λ e. nullable_min_max_zero;
  soi = nullable_soi;
  eoi = nullable_eoi;
  peek = peek_takes;
  pop = no_other refl;
  drop = no_other refl;
  peek_all = no_other refl;
  pop_all = no_other refl;
  literal_push = λ t. nullable_push_literal;
  tagged_empty = λ t. nullable_tag nullable_str;
  tagged_literal = tagged_takes;
}

pred_may_fail : CannotFail [] (PosPred (Str (codes "x"))) → ⊥
pred_may_fail (cannot_fail_pos_pred d) = may_fail d

at_least_may_fail : CannotFail [] (RepMin (Str (codes "x")) 1) → ⊥
at_least_may_fail (cannot_fail_min d) = may_fail d

two_may_fail : CannotFail [] (RepMinMax (Str (codes "x")) 2 1) → ⊥
two_may_fail (cannot_fail_min_max d) = may_fail d

tagged_may_fail : (t : Text) → CannotFail [] (NodeTag (Str (codes "x")) t) → ⊥
tagged_may_fail t (cannot_fail_tag d) = may_fail d

pub cannot_fail_or_may : CannotFailOrMay
cannot_fail_or_may = record {
  empty_literal = cannot_fail_str;
  empty_insensitive = cannot_fail_insens;
  literal = may_fail;
  pos_pred = cannot_fail_pos_pred cannot_fail_str;
  pos_pred_of_literal = pred_may_fail;
  neg_pred = λ e d. elim d [ ];
  at_least_none = λ e. cannot_fail_min_zero;
  at_least_one = at_least_may_fail;
  two_to_one = two_may_fail;
  none_to_one = λ e. cannot_fail_min_max_zero;
  builtin = builtin_may_fail;
  literal_push = λ t. cannot_fail_push_literal;
  tagged_empty = λ t. cannot_fail_tag cannot_fail_str;
  tagged_literal = tagged_may_fail;
}

no_call : {t n : Text} → LeftCalls [] (Str t) n → ⊥
no_call d = elim d [ ]

behind_literal : LeftCalls [] (Seq (Str (codes "x")) (Ident (codes "a"))) (codes "a") → ⊥
behind_literal (left_first d) = no_call d
behind_literal (left_second n d) = takes_some n

only_itself : {n k : Text} → LeftCalls [] (Ident n) k → n ≡ k
only_itself left_name = refl

behind_peek : LeftCalls [] (Seq (Ident (codes "PEEK")) (Ident (codes "a"))) (codes "a") → ⊥
behind_peek (left_first d) = let h = only_itself d in cc
behind_peek (left_second n d) = peek_takes n

pub left_called_or_not : LeftCalledOrNot
left_called_or_not = record {
  below_pos_pred = left_pos_pred left_name;
  below_neg_pred = left_neg_pred left_name;
  below_tag = λ t. left_tag left_name;
  behind_optional = left_second nullable_opt left_name;
  behind_predicate = left_second nullable_neg_pred left_name;
  behind_literal_push = λ t. left_second nullable_push_literal left_name;
  behind_literal = behind_literal;
  behind_peek = behind_peek;
}
