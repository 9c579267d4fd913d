-- What is accepted is well-formed.
use Rattle.std.proofs.Common.{◌≡◌, inl, inr, ℕ, List, Option, Some, Bool, true, false, if◌then◌else◌, nat_eq, slice_get, refl, sym, ◌∙◌, ap, subst}
use Rattle.std.proofs.lemmas.Slice.Eq.{bytes_eq-Decides}
use Rattle.base_language.specs.Language.Text.{Text}
use Rattle.base_language.specs.Language.Expression.{Expression, Rule, Grammar, rule_of, whitespace, comment, Part, whole, of_pos_pred, of_neg_pred, of_seq_left, of_seq_right, of_choice_left, of_choice_right, of_opt, of_rep, of_rep_once, of_rep_exact, of_rep_min, of_rep_max, of_rep_min_max, of_push, of_restore, of_tag, last_place}
use Rattle.base_language.specs.Language.WellFormed.{IsNullable, InRules, IsSkipped, is_whitespace, is_comment, Leads, IsWellFormed}
use Rattle.base_language.proofs.Termination.{rule_name}
use Rattle.base_language.proofs.Basics.{got_alike}
use Rattle.front_spanned.specs.Nodes.{view}
use Rattle.front_spanned.specs.declared.node.ParserRule.{ParserRule}
use Rattle.base_graphs.specs.Least.{is_set_at}
use Rattle.front_analysis.specs.Names.{grammar_of, rule_said}
use Rattle.front_analysis.specs.NameKinds.{kind_in}
use Rattle.front_analysis.specs.Kinds.{Represents, repeated, wrap_kind}
use Rattle.front_analysis.specs.Facts.{AreFacts}
use Rattle.front_validator.specs.Taking.{RepeatedTakes, AllRepeatedTake, SkippedTake}
use Rattle.front_validator.specs.Findings.{is_skipped_name}
use Rattle.front_analysis.specs.declared.facts.Facts.{Facts}
use Rattle.front_analysis.specs.declared.kinds.Wrap.TheVariants as wraps
use Rattle.front_validator.specs.Reports.{Reported, endless, bad_skipped, recursive, Repeats, repeats_any, repeats_once, repeats_min}
use Rattle.base_language.proofs.CannotFailIsNullable.{nullable_of}
use Rattle.front_analysis.proofs.Tying.{says}
use Rattle.front_analysis.proofs.Resolved.{Named, absent, named, resolved}
use Rattle.front_analysis.proofs.Answering.{same_rule, no_rule}
use Rattle.front_validator.proofs.Reports.{accepted}
use Rattle.front_validator.proofs.Walk.{no_walk}

whitespace_name : is_skipped_name whitespace ≡ true
unfolding whitespace comment
whitespace_name = refl

comment_name : is_skipped_name comment ≡ true
unfolding whitespace comment
comment_name = refl

skipped_name : (n : Text) → IsSkipped n → is_skipped_name n ≡ true
skipped_name n is_whitespace = whitespace_name
skipped_name n is_comment = comment_name

module _ (rules : List ParserRule) (facts : Facts) (right : AreFacts rules facts) (takes : AllRepeatedTake facts) (skips : SkippedTake rules facts) (fall : (n : Text) → Leads (grammar_of rules) n n → ⊥) where
  abbrev G : Grammar
  G = grammar_of rules

  abbrev Lies : ℕ → Expression → Type 0
  Lies i e = Represents (kind_in G) facts.table.kinds.items i e

  part_lies : {e p : Expression} → Part e p → (i : ℕ) → Lies i e → (k : ℕ) × Lies k p
  part_lies whole i s = (i, s)
  part_lies (of_pos_pred p) i s = part_lies p s.0 s.3
  part_lies (of_neg_pred p) i s = part_lies p s.0 s.3
  part_lies (of_opt p) i s = part_lies p s.0 s.3
  part_lies (of_rep p) i s = part_lies p s.0 s.3
  part_lies (of_rep_once p) i s = part_lies p s.0 s.3
  part_lies (of_rep_exact p) i s = part_lies p s.0 s.3
  part_lies (of_rep_min p) i s = part_lies p s.0 s.3
  part_lies (of_rep_max p) i s = part_lies p s.0 s.3
  part_lies (of_rep_min_max p) i s = part_lies p s.0 s.3
  part_lies (of_push p) i s = part_lies p s.0 s.3
  part_lies (of_tag p) i s = part_lies p s.0 s.3
  part_lies (of_seq_left p) i s = part_lies p s.0 s.5
  part_lies (of_seq_right p) i s = part_lies p s.1 s.6
  part_lies (of_choice_left p) i s = part_lies p s.0 s.5
  part_lies (of_choice_right p) i s = part_lies p s.1 s.6
  part_lies (of_restore p) i s = absurd s

  -- the rule of a name lies at a root
  data Rooted (n : Text) (r : Rule) : Type 0 where
    rooted : (k i : ℕ) (rule : ParserRule) → slice_get rules k ≡ Some rule → slice_get facts.table.roots.items k ≡ Some i → rule_said rule ≡ r → Lies i r.body → Rooted n r

  roots : (n : Text) (r : Rule) → rule_of G n ≡ Some r → Rooted n r
  roots n r e = go (last_place G n) (resolved rules n)
    where
      go : (o : Option ℕ) → Named rules n o → Rooted n r
      go o (absent h) = absurd (no_rule (sym h ∙ e))
      go o (named {r = k} rule at h) = let (j, got) = got_alike rules facts.table.roots.items k rule at (sym right.table.alike) in
          let same : rule_said rule ≡ r = same_rule h e in
          rooted k j rule at got same (subst (λ z. Lies j z.body) same (says (kind_in G) facts.table.kinds.items j (view rule.node) (right.table.stand k j rule at got)))

  clash : (b : Bool) → b ≡ true → b ≡ false → ⊥
  clash b g h = let e = sym g ∙ h in cc

  in_lies : (p : Expression) → InRules G p → (k : ℕ) × Lies k p
  in_lies p (n, r, e, part) = go (roots n r e)
    where
      go : Rooted n r → (k : ℕ) × Lies k p
      go (rooted k i rule at got same lies) = part_lies part i lies

  null_at : (j : ℕ) (e : Expression) → Lies j e → IsNullable G e → is_set_at facts.nullable.items j ≡ true
  null_at j e s d = (right.nullable j e s).1 d

  repeated_takes : (j n : ℕ) → RepeatedTakes facts (wrap_kind (repeated n) j) → is_set_at facts.nullable.items j ≡ false
  repeated_takes j n f = go (nat_eq n 0) f
    where
      go : (b : Bool) → RepeatedTakes facts (wrap_kind (if b then wraps.Again else wraps.OnceAgain) j) → is_set_at facts.nullable.items j ≡ false
      go true f = f
      go false f = f

  pub well_formed : IsWellFormed G
  well_formed = accepted G none
    where
      skipped_rule : (n : Text) (r : Rule) → IsSkipped n → rule_of G n ≡ Some r → IsNullable G r.body → Rooted n r → ⊥
      skipped_rule n r s e d (rooted k i rule at got same lies) =
          clash _ (null_at i r.body lies d) (skips k rule i at got (ap is_skipped_name (ap (λ z. z.name) same ∙ (bytes_eq-Decides r.name n).0 (rule_name G n r e)) ∙ skipped_name n s))

      again : (x e : Expression) → Repeats x e → InRules G x → IsNullable G e → ⊥
      again x e repeats_any h d = let (k, s) = in_lies x h in clash _ (null_at s.0 e s.3 d) (takes k _ s.2)
      again x e repeats_once h d = let (k, s) = in_lies x h in clash _ (null_at s.0 e s.3 d) (takes k _ s.2)
      again x e (repeats_min {i = n}) h d = let (k, s) = in_lies x h in clash _ (null_at s.0 e s.3 d) (repeated_takes s.0 n (takes k _ s.2))

      none : Reported G → ⊥
      none (endless {x = x} {e = e} r h (inl d)) = again x e r h (nullable_of G d)
      none (endless {x = x} {e = e} r h (inr d)) = again x e r h d
      none (bad_skipped {n = n} {r = r} s e (inl d)) = skipped_rule n r s e (nullable_of G d) (roots n r e)
      none (bad_skipped {n = n} {r = r} s e (inr d)) = skipped_rule n r s e d (roots n r e)
      none (recursive {n = n} e w) = no_walk G fall n w
