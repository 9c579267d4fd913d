-- Flags that tell of the nodes of all bodies whether they may take nothing tell it of every expression.
use Rattle.std.proofs.Common.{◌≡◌, ℕ, List, [], ◌∷◌, Option, Some, Bool, true, false, ◌||◌, inl, inr, nat_eq, slice_get, refl, sym, ◌∙◌, ap, subst}
use Rattle.std.specs.Bool.{Decides}
use Rattle.std.specs.Cmp.{unsigned_Decides}
use Rattle.std.proofs.lemmas.Bool.{and_from, and_parts, both_ways, or_cases, or_left, or_right}
use Rattle.base_language.specs.Language.Text.{Text}
use Rattle.base_language.specs.Language.Expression as bare
use Rattle.base_language.specs.Language.Expression.{Expression, Ident, Rule, Grammar, rule_of, last_place}
use Rattle.base_language.specs.Language.WellFormed.{IsNullable, nullable_str, nullable_insens, nullable_soi, nullable_eoi, nullable_call, nullable_pos_pred, nullable_neg_pred, nullable_opt, nullable_rep, nullable_rep_max, nullable_seq, nullable_left, nullable_right, nullable_rep_once, nullable_push, nullable_exact_zero, nullable_exact, nullable_min_zero, nullable_min, nullable_min_max_zero, nullable_min_max, nullable_skip, nullable_restore, nullable_push_literal, nullable_tag}
use Rattle.base_language.proofs.Basics.{got_alike}
use Rattle.base_graphs.proofs.Found.{AreFound, found}
use Rattle.base_graphs.specs.Least.{Follows, follows, is_set_at}
use Rattle.front_spanned.specs.Erasure.{without_spans}
use Rattle.front_spanned.specs.Nodes.{view}
use Rattle.front_spanned.specs.Spanned.{Spanned}
use Rattle.front_spanned.specs.declared.node.ParserRule.{ParserRule}
use Rattle.front_analysis.specs.Facts.{AreNullable}
use Rattle.front_analysis.proofs.Answering.{end_null}
use Rattle.front_stack_domain.specs.Reported.{KnowsNullable}
use Rattle.front_analysis.specs.Names.{grammar_of, rule_said, is_end}
use Rattle.front_analysis.specs.Nodes.{all_nodes}
use Rattle.front_analysis.specs.Roots.{AreRoots}
use Rattle.front_analysis.proofs.Resolved.{Named, absent, named, resolved, same_item}
use Rattle.front_stack_loops.specs.Answers.{at_place}
use Rattle.front_stack_loops.specs.Expressions.{body_flag, name_flag, may_stay}

same_answer : (a b : Bool) (A : Type 0) → Decides a A → Decides b A → a ≡ b
same_answer true b A d e = sym (e.1 (d.0 refl))
same_answer false true A d e = d.1 (e.0 refl)
same_answer false false A d e = refl

-- what is told of names may be taken for nullable is so: then it is so of expressions
module _ (G : Grammar) (flag : Text → Bool) (called : (n : Text) → flag n ≡ true → IsNullable G (Ident n)) where
  counted : (P : Expression → ℕ → Expression) (e : Expression) (n : ℕ) (b : Bool) → (nat_eq n 0 || b) ≡ true → IsNullable G (P e 0) → (b ≡ true → IsNullable G (P e n)) → IsNullable G (P e n)
  counted P e n b h z f = elim (or_cases (nat_eq n 0) b h) [
    | inl w ↦ subst (λ m. IsNullable G (P e m)) (sym ((unsigned_Decides n 0).0 w)) z
    | inr w ↦ f w
  ]

  may_stay_null : (e : Expression) → may_stay flag e ≡ true → IsNullable G e
  may_stay_null (bare.Str []) h = nullable_str
  may_stay_null (bare.Str (c ∷ t)) h = cc
  may_stay_null (bare.Insens []) h = nullable_insens
  may_stay_null (bare.Insens (c ∷ t)) h = cc
  may_stay_null (bare.Range a b) h = cc
  may_stay_null (bare.Ident n) h = elim (or_cases (is_end n) (flag n) h) [ inl e ↦ end_null G n e | inr e ↦ called n e ]
  may_stay_null (bare.PeekSlice i j) h = cc
  may_stay_null (bare.PosPred e) h = nullable_pos_pred
  may_stay_null (bare.NegPred e) h = nullable_neg_pred
  may_stay_null (bare.Seq d e) h = let (a, b) = and_parts (may_stay flag d) (may_stay flag e) h in nullable_seq (may_stay_null d a) (may_stay_null e b)
  may_stay_null (bare.Choice d e) h = elim (or_cases (may_stay flag d) (may_stay flag e) h) [ inl a ↦ nullable_left (may_stay_null d a) | inr b ↦ nullable_right (may_stay_null e b) ]
  may_stay_null (bare.Opt e) h = nullable_opt
  may_stay_null (bare.Rep e) h = nullable_rep
  may_stay_null (bare.RepOnce e) h = nullable_rep_once (may_stay_null e h)
  may_stay_null (bare.RepExact e n) h = counted (λ d m. bare.RepExact d m) e n (may_stay flag e) h nullable_exact_zero (λ w. nullable_exact (may_stay_null e w))
  may_stay_null (bare.RepMin e n) h = counted (λ d m. bare.RepMin d m) e n (may_stay flag e) h nullable_min_zero (λ w. nullable_min (may_stay_null e w))
  may_stay_null (bare.RepMax e n) h = nullable_rep_max
  may_stay_null (bare.RepMinMax e m n) h = counted (λ d i. bare.RepMinMax d i n) e m (may_stay flag e) h nullable_min_max_zero (λ w. nullable_min_max (may_stay_null e w))
  may_stay_null (bare.Skip ts) h = nullable_skip
  may_stay_null (bare.Push e) h = nullable_push (may_stay_null e h)
  may_stay_null (bare.PushLiteral t) h = nullable_push_literal
  may_stay_null (bare.NodeTag e t) h = nullable_tag (may_stay_null e h)
  may_stay_null (bare.RestoreOnErr e) h = nullable_restore (may_stay_null e h)

-- where a name is told whose rule's body is, whatever is nullable is told
module _ (G : Grammar) (flag : Text → Bool) (named : (n : Text) (q : Rule) → rule_of G n ≡ Some q → may_stay flag q.body ≡ true → flag n ≡ true) where
  stays_so : {e : Expression} → IsNullable G e → may_stay flag e ≡ true
  stays_so nullable_str = refl
  stays_so nullable_insens = refl
  stays_so nullable_soi = refl
  stays_so nullable_eoi = refl
  stays_so (nullable_call {n = n} {r = r} e d) = or_right (is_end n) (flag n) (named n r e (stays_so d))
  stays_so nullable_pos_pred = refl
  stays_so nullable_neg_pred = refl
  stays_so nullable_opt = refl
  stays_so nullable_rep = refl
  stays_so nullable_rep_max = refl
  stays_so (nullable_seq {a = a} {b = b} c d) = and_from (may_stay flag a) (may_stay flag b) (stays_so c) (stays_so d)
  stays_so (nullable_left {a = a} {b = b} c) = or_left (may_stay flag a) (may_stay flag b) (stays_so c)
  stays_so (nullable_right {a = a} {b = b} d) = or_right (may_stay flag a) (may_stay flag b) (stays_so d)
  stays_so (nullable_rep_once d) = stays_so d
  stays_so (nullable_push d) = stays_so d
  stays_so nullable_push_literal = refl
  stays_so (nullable_tag d) = stays_so d
  stays_so nullable_exact_zero = refl
  stays_so (nullable_exact {e = e} {i = i} d) = or_right (nat_eq i 0) (may_stay flag e) (stays_so d)
  stays_so nullable_min_zero = refl
  stays_so (nullable_min {e = e} {i = i} d) = or_right (nat_eq i 0) (may_stay flag e) (stays_so d)
  stays_so nullable_min_max_zero = refl
  stays_so (nullable_min_max {e = e} {i = i} {j = j} d) = or_right (nat_eq i 0) (may_stay flag e) (stays_so d)
  stays_so nullable_skip = refl
  stays_so (nullable_restore d) = stays_so d

module _ (rules : List ParserRule) (roots : List ℕ) (lie : AreRoots rules (all_nodes rules) roots) (flags : List Bool) (right : AreNullable rules flags) where
  abbrev G : Grammar
  G = grammar_of rules

  abbrev flag : Text → Bool
  flag n = name_flag G roots flags n

  -- the flag of the body of the rule that a name means
  body_decided : (n : Text) (q : Rule) → rule_of G n ≡ Some q → Decides (flag n) (IsNullable G q.body)
  body_decided n q e = go (last_place G n) refl (resolved rules n)
    where
      go : (o : Option ℕ) → last_place G n ≡ o → Named rules n o → Decides (flag n) (IsNullable G q.body)
      go o l (absent f) = let z = sym e ∙ f in cc
      go o l (named {r = r} rule at f) =
          let (j, root) = got_alike rules roots r rule at (sym lie.alike) in
          let same : rule_said rule ≡ q = same_item (rule_of G n) (rule_said rule) q f e in
          let said : flag n ≡ is_set_at flags j = ap (body_flag roots flags) l ∙ ap (at_place (is_set_at flags)) root in
          subst (λ b. Decides b (IsNullable G q.body)) (sym said)
          (subst (λ z. Decides (is_set_at flags j) (IsNullable G z.body)) same (right j (view rule.node) (lie.lie r j rule at root)))

  called_null : (n : Text) → flag n ≡ true → IsNullable G (Ident n)
  called_null n h = go (last_place G n) refl (resolved rules n)
    where
      go : (o : Option ℕ) → last_place G n ≡ o → Named rules n o → IsNullable G (Ident n)
      go o l (absent e) = let z : false ≡ true = sym (ap (body_flag roots flags) l) ∙ h in cc
      go o l (named rule at e) = nullable_call e ((body_decided n (rule_said rule) e).0 h)

  body_told : (n : Text) (q : Rule) → rule_of G n ≡ Some q → may_stay flag q.body ≡ true → flag n ≡ true
  body_told n q e h = (body_decided n q e).1 (may_stay_null G flag called_null q.body h)

  -- what is told of each expression by the flags of rules is so
  pub decided : (e : Expression) → Decides (may_stay flag e) (IsNullable G e)
  decided e = (may_stay_null G flag called_null e, λ d. stays_so G flag body_told d)

  -- a node's own flag tells the same
  pub null_at : (x : Spanned) (i : ℕ) → slice_get (all_nodes rules) i ≡ Some x → is_set_at flags i ≡ may_stay flag (without_spans x)
  null_at x i here = same_answer (is_set_at flags i) (may_stay flag (without_spans x)) (IsNullable G (without_spans x)) (right i x here) (decided (without_spans x))

  -- what is not taken for nullable is not
  pub knows_nullable : KnowsNullable G (λ x. may_stay flag (without_spans x))
  knows_nullable x h n = both_ways (may_stay flag (without_spans x)) h (stays_so G flag body_told n)

-- flags of rules: whether the body of each may take nothing
module _ (rules : List ParserRule) where
  abbrev by_rule : (ℕ → Bool) → Text → Bool
  by_rule p n = at_place p (last_place (grammar_of rules) n)

  abbrev body_stays : (ℕ → Bool) → ParserRule → Bool
  body_stays p rule = may_stay (by_rule p) (rule_said rule).body

  abbrev IsBodyNull : ParserRule → Type 0
  IsBodyNull rule = IsNullable (grammar_of rules) (rule_said rule).body

  name_null : (p : ℕ → Bool) → ((k : ℕ) → p k ≡ true → (rule : ParserRule) → slice_get rules k ≡ Some rule → IsBodyNull rule) → (n : Text) → by_rule p n ≡ true → IsNullable (grammar_of rules) (Ident n)
  name_null p f n h = go (last_place (grammar_of rules) n) refl (resolved rules n)
    where
      go : (o : Option ℕ) → last_place (grammar_of rules) n ≡ o → Named rules n o → IsNullable (grammar_of rules) (Ident n)
      go o l (absent e) = let z : false ≡ true = sym (ap (at_place p) l) ∙ h in cc
      go o l (named {r = r} rule at e) = nullable_call e (f r (sym (ap (at_place p) l) ∙ h) rule at)

  follows_null : {k : ℕ} → Follows body_stays rules k → (rule : ParserRule) → slice_get rules k ≡ Some rule → IsBodyNull rule
  follows_null (follows {i} {a} p at so below) rule here =
      subst IsBodyNull (same_item (slice_get rules i) a rule at here)
      (may_stay_null (grammar_of rules) (by_rule p) (name_null p (λ k on. follows_null (below k on))) (rule_said a).body so)

  abbrev some : AreFound body_stays rules
  some = found body_stays rules

  -- whether the body of the rule that a name means may take nothing
  abbrev pub is_null : Text → Bool
  is_null = by_rule (is_set_at some.flags)

  is_null_named : (n : Text) (q : Rule) → rule_of (grammar_of rules) n ≡ Some q → may_stay is_null q.body ≡ true → is_null n ≡ true
  is_null_named n q e h = go (last_place (grammar_of rules) n) refl (resolved rules n)
    where
      go : (o : Option ℕ) → last_place (grammar_of rules) n ≡ o → Named rules n o → is_null n ≡ true
      go o l (absent f) = let z = sym e ∙ f in cc
      go o l (named {r = r} rule at f) =
          let same : q ≡ rule_said rule = same_item (rule_of (grammar_of rules) n) q (rule_said rule) e f in
          ap (at_place (is_set_at some.flags)) l ∙ some.closed r rule at (sym (ap (λ z. may_stay is_null z.body) same) ∙ h)

  -- so there is an answer for each expression
  pub settled_null : (e : Expression) → Decides (may_stay is_null e) (IsNullable (grammar_of rules) e)
  settled_null e = (
    may_stay_null (grammar_of rules) is_null (name_null (is_set_at some.flags) (λ k on. follows_null (some.sound.right k on))) e,
    λ d. stays_so (grammar_of rules) is_null is_null_named d,
  )
