-- Nothing is reported of a well-formed grammar, and of no other.
use Rattle.std.proofs.Common.{◌≡◌, ◌⊎◌, inl, inr, Some, refl, codes}
use Rattle.base_language.specs.Language.Text.{Text}
use Rattle.base_language.specs.Language.Expression.{Expression, Ident, Rule, Grammar, rule_of, whitespace, comment}
use Rattle.base_language.specs.Language.WellFormed.{IsNullable, nullable_soi, nullable_eoi, nullable_call, CannotFail, IsSkipped, is_whitespace, is_comment, IsWellFormed}
use Rattle.front_validator.specs.Walk.{WalkLeads, w_at_once, w_by_way}
use Rattle.front_validator.specs.Reports.{repeats_any, repeats_once, repeats_min, Reported, endless, bad_skipped, recursive}
use Rattle.base_language.proofs.CannotFailIsNullable.{nullable_of}
use Rattle.front_validator.proofs.Walk.{no_cycle, no_walk}

data NullName (g : Grammar) (n : Text) : Type 0 where
  by_rule : (r : Rule) → rule_of g n ≡ Some r → IsNullable g r.body → NullName g n
  by_soi : n ≡ codes "SOI" → NullName g n
  by_eoi : n ≡ codes "EOI" → NullName g n

null_name : {g : Grammar} {n : Text} → IsNullable g (Ident n) → NullName g n
null_name (nullable_call {r = r} e d) = by_rule r e d
null_name nullable_soi = by_soi refl
null_name nullable_eoi = by_eoi refl

whitespace_no_end : (whitespace ≡ codes "SOI") ⊎ (whitespace ≡ codes "EOI") → ⊥
unfolding whitespace
whitespace_no_end (inl e) = cc
whitespace_no_end (inr e) = cc

comment_no_end : (comment ≡ codes "SOI") ⊎ (comment ≡ codes "EOI") → ⊥
unfolding comment
comment_no_end (inl e) = cc
comment_no_end (inr e) = cc

no_end : {n : Text} → IsSkipped n → (n ≡ codes "SOI") ⊎ (n ≡ codes "EOI") → ⊥
no_end is_whitespace e = whitespace_no_end e
no_end is_comment e = comment_no_end e

pub begins_at : {g : Grammar} {n k : Text} → WalkLeads g n k → (r : Rule) × (rule_of g n ≡ Some r)
begins_at (w_at_once {r = r} e w) = (r, e)
begins_at (w_by_way a b) = begins_at a

module _ (g : Grammar) where
  skipped : (Reported g → ⊥) → (n : Text) → IsSkipped n → NullName g n → ⊥
  skipped f n s (by_rule r e d) = f (bad_skipped s e (inr d))
  skipped f n s (by_soi e) = no_end s (inl e)
  skipped f n s (by_eoi e) = no_end s (inr e)

  pub accepted : (Reported g → ⊥) → IsWellFormed g
  accepted f = record {
    rep = λ e i d. f (endless repeats_any i (inr d));
    rep_once = λ e i d. f (endless repeats_once i (inr d));
    rep_min = λ e l i d. f (endless repeats_min i (inr d));
    skipping = λ n s d. skipped f n s (null_name d);
    no_cycle = no_cycle g (λ n w. f (recursive (begins_at w).1 w));
  }

  one_null : {e : Expression} → CannotFail g e ⊎ IsNullable g e → IsNullable g e
  one_null (inl d) = nullable_of g d
  one_null (inr d) = d

  pub refused : IsWellFormed g → Reported g → ⊥
  refused w (endless repeats_any i d) = w.rep _ i (one_null d)
  refused w (endless repeats_once i d) = w.rep_once _ i (one_null d)
  refused w (endless repeats_min i d) = w.rep_min _ _ i (one_null d)
  refused w (bad_skipped s e d) = w.skipping _ s (nullable_call e (one_null d))
  refused w (recursive e l) = no_walk g w.no_cycle _ l
