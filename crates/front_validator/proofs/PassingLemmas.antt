-- What may take nothing where a call of a rule counts as one that takes something.
use Rattle.std.proofs.Common.{◌≡◌, ℕ, List, [], ◌∷◌, Option, Some, None, Bool, true, false, nat_eq, if◌then◌else◌, slice_get, map, refl, sym, ◌∙◌, ap, subst}
use Rattle.std.specs.Bool.{Decides}
use Rattle.std.specs.Cmp.{unsigned_Decides}
use Rattle.std.specs.Option.{option_map}
use Rattle.std.proofs.lemmas.Option.{slice_get-map}
use Rattle.base_language.specs.Language.Text.{Text}
use Rattle.base_language.specs.Language.Expression.{Expression, Str, Insens, Range, Ident, PeekSlice, PosPred, NegPred, Seq, Choice, Opt, Rep, RepOnce, RepExact, RepMin, RepMax, RepMinMax, Skip, Push, RestoreOnErr, Rule, Grammar, rule_of, PushLiteral, NodeTag, last_place}
use Rattle.base_language.specs.Language.WellFormed.{IsNullable, nullable_str, nullable_insens, nullable_soi, nullable_eoi, nullable_call, nullable_pos_pred, nullable_neg_pred, nullable_opt, nullable_rep, nullable_rep_max, nullable_seq, nullable_left, nullable_right, nullable_rep_once, nullable_push, nullable_exact_zero, nullable_exact, nullable_min_zero, nullable_min, nullable_min_max_zero, nullable_min_max, nullable_skip, nullable_restore, nullable_push_literal, nullable_tag}
use Rattle.front_spanned.specs.Erasure.{without_spans, rule_without_spans}
use Rattle.front_spanned.specs.Nodes.{rule_view, rule_views}
use Rattle.front_spanned.specs.Spanned.{Spanned, SpannedRule}
use Rattle.front_spanned.specs.declared.node.ParserRule.{ParserRule}
use Rattle.base_graphs.specs.Least.{is_set_at}
use Rattle.front_analysis.specs.Facts.{AreFacts}
use Rattle.front_validator.specs.LeftRecursion.{Means}
use Rattle.front_analysis.specs.RightAnswers.{AreSound, AreClosed}
use Rattle.front_analysis.specs.Names.{grammar_of, is_end}
use Rattle.front_analysis.specs.NameKinds.{kind_in, name_kind}
use Rattle.front_analysis.specs.Nodes.{all_nodes}
use Rattle.front_analysis.specs.Kinds.{Represents, counted, repeated, wrap_kind, text_kind}
use Rattle.front_validator.specs.Walk.{without}
use Rattle.front_validator.specs.Without.{without_kind, IsWithout}
use Rattle.front_analysis.specs.declared.facts.Facts.{Facts}
use Rattle.front_analysis.specs.declared.kinds.Wrap.{Wrap}
use Rattle.front_analysis.specs.declared.kinds.Wrap.TheVariants as wraps
use Rattle.front_analysis.specs.declared.kind_table.NodeKind.{NodeKind}
use Rattle.front_analysis.specs.declared.kind_table.NodeKind.TheVariants as is
use Rattle.front_analysis.specs.declared.kind_table.Question.TheVariants as asks
use Rattle.front_analysis.specs.declared.kind_table.KindTable.{KindTable}
use Rattle.front_analysis.proofs.Resolved.{Named, absent, named, resolved}
use Rattle.front_analysis.proofs.Answering.{Sense, absent_from, lies_at, sense_of, kinds_by, answered, no_rule, same_rule}
use Rattle.front_validator.proofs.NoneWalks.{in_rules}
use Rattle.front_validator.proofs.ReportingLemmas.{says_at}
use Rattle.front_validator.proofs.Walk.{Compared, same_name, other_name, compared, rule_without, rule_gone, rule_within, null_more}

-- 1. where v may take something, nothing changes
module _ (g : Grammar) (v : Text) (takes : (r : Rule) → rule_of g v ≡ Some r → IsNullable g r.body → ⊥) where
  by_call : (n : Text) (r : Rule) → rule_of g n ≡ Some r → IsNullable g r.body → IsNullable (without v g) r.body → Compared v n → IsNullable (without v g) (Ident n)
  by_call n r e d i (same_name h) = absurd (takes r (subst (λ z. rule_of g z ≡ Some r) (sym h) e) d)
  by_call n r e d i (other_name f) = nullable_call (rule_without v g n f ∙ e) i

  pub null_less : {e : Expression} → IsNullable g e → IsNullable (without v g) e
  null_less nullable_str = nullable_str
  null_less nullable_insens = nullable_insens
  null_less nullable_soi = nullable_soi
  null_less nullable_eoi = nullable_eoi
  null_less nullable_pos_pred = nullable_pos_pred
  null_less nullable_neg_pred = nullable_neg_pred
  null_less nullable_opt = nullable_opt
  null_less nullable_rep = nullable_rep
  null_less nullable_rep_max = nullable_rep_max
  null_less nullable_exact_zero = nullable_exact_zero
  null_less nullable_min_zero = nullable_min_zero
  null_less nullable_min_max_zero = nullable_min_max_zero
  null_less nullable_skip = nullable_skip
  null_less (nullable_call {n = n} {r = r} e d) = by_call n r e d (null_less d) (compared v n)
  null_less (nullable_seq a b) = nullable_seq (null_less a) (null_less b)
  null_less (nullable_left d) = nullable_left (null_less d)
  null_less (nullable_right d) = nullable_right (null_less d)
  null_less (nullable_rep_once d) = nullable_rep_once (null_less d)
  null_less (nullable_push d) = nullable_push (null_less d)
  null_less nullable_push_literal = nullable_push_literal
  null_less (nullable_tag d) = nullable_tag (null_less d)
  null_less (nullable_exact d) = nullable_exact (null_less d)
  null_less (nullable_min d) = nullable_min (null_less d)
  null_less (nullable_min_max d) = nullable_min_max (null_less d)
  null_less (nullable_restore d) = nullable_restore (null_less d)

-- 2. the table without the calls of a rule
abbrev place_without : ℕ → Option ℕ → Option ℕ
place_without v None = None
place_without v (Some k) = if nat_eq k v then None else Some k

wrap_same : (v : ℕ) (w : Wrap) (j : ℕ) → without_kind v (wrap_kind w j) ≡ wrap_kind w j
wrap_same v wraps.Ahead j = refl
wrap_same v wraps.NotAhead j = refl
wrap_same v wraps.Free j = refl
wrap_same v wraps.Inside j = refl
wrap_same v wraps.Again j = refl
wrap_same v wraps.OnceAgain j = refl

text_same : (v : ℕ) (t : Text) → without_kind v (text_kind t) ≡ text_kind t
text_same v [] = refl
text_same v (c ∷ t) = refl

name_same : (v : ℕ) (b : Bool) (o : Option ℕ) → without_kind v (name_kind b o) ≡ name_kind b (place_without v o)
name_same v true None = refl
name_same v false None = refl
name_same v true (Some k) = go (nat_eq k v)
  where
    go : (c : Bool) → (if c then is.End else is.EndCall k) ≡ name_kind true (if c then None else Some k)
    go true = refl
    go false = refl
name_same v false (Some k) = go (nat_eq k v)
  where
    go : (c : Bool) → (if c then is.Taking else is.Call k) ≡ name_kind false (if c then None else Some k)
    go true = refl
    go false = refl

module _ (place_of : Text → Option ℕ) (v : ℕ) (ks : List NodeKind) where
  new : List NodeKind
  new = map (without_kind v) ks

  abbrev other : Text → Option ℕ
  other n = place_without v (place_of n)

  got : (i : ℕ) (k l : NodeKind) → slice_get ks i ≡ Some k → without_kind v k ≡ l → slice_get (map (without_kind v) ks) i ≡ Some l
  got i k l e h = slice_get-map (without_kind v) ks i ∙ (ap (option_map (without_kind v)) e ∙ ap Some h)

  pub says_without : (i : ℕ) (e : Expression) → Represents (kinds_by place_of) ks i e → Represents (kinds_by other) (map (without_kind v) ks) i e
  says_without i (Str t) s = got i _ _ s (text_same v t)
  says_without i (Insens t) s = got i _ _ s (text_same v t)
  says_without i (Range a b) s = got i _ _ s refl
  says_without i (PeekSlice a b) s = got i _ _ s refl
  says_without i (Ident n) s = got i _ _ s (name_same v (is_end n) (place_of n))
  says_without i (PosPred e) s = (s.0, s.1, got i _ _ s.2 refl, says_without s.0 e s.3)
  says_without i (NegPred e) s = (s.0, s.1, got i _ _ s.2 refl, says_without s.0 e s.3)
  says_without i (Opt e) s = (s.0, s.1, got i _ _ s.2 refl, says_without s.0 e s.3)
  says_without i (Rep e) s = (s.0, s.1, got i _ _ s.2 refl, says_without s.0 e s.3)
  says_without i (RepMax e n) s = (s.0, s.1, got i _ _ s.2 refl, says_without s.0 e s.3)
  says_without i (RepOnce e) s = (s.0, s.1, got i _ _ s.2 refl, says_without s.0 e s.3)
  says_without i (Push e) s = (s.0, s.1, got i _ _ s.2 refl, says_without s.0 e s.3)
  says_without i (PushLiteral t) s = got i _ _ s refl
  says_without i (NodeTag e t) s = (s.0, s.1, got i _ _ s.2 refl, says_without s.0 e s.3)
  says_without i (RepExact e n) s = (s.0, s.1, got i _ _ s.2 (wrap_same v (counted n) s.0), says_without s.0 e s.3)
  says_without i (RepMin e n) s = (s.0, s.1, got i _ _ s.2 (wrap_same v (repeated n) s.0), says_without s.0 e s.3)
  says_without i (RepMinMax e m n) s = (s.0, s.1, got i _ _ s.2 (wrap_same v (counted m) s.0), says_without s.0 e s.3)
  says_without i (Seq a b) s = (s.0, s.1, s.2, s.3, got i _ _ s.4 refl, says_without s.0 a s.5, says_without s.1 b s.6)
  says_without i (Choice a b) s = (s.0, s.1, s.2, s.3, got i _ _ s.4 refl, says_without s.0 a s.5, says_without s.1 b s.6)
  says_without i (Skip ts) s = absurd s
  says_without i (RestoreOnErr e) s = absurd s

-- 3. flags for the nodes of a rule
module _ (rules : List ParserRule) (facts : Facts) (right : AreFacts rules facts) (v : ℕ) (r : SpannedRule) (at : slice_get (rule_views rules) v ≡ Some r) (means : Means (rule_views rules) r.name v) where
  abbrev G : Grammar
  G = grammar_of rules

  abbrev place_of : Text → Option ℕ
  place_of n = last_place G n

  body_of : (k : ℕ) (rule : ParserRule) → slice_get rules k ≡ Some rule → slice_get (rule_views rules) k ≡ Some (rule_view rule)
  body_of k rule e = slice_get-map rule_view rules k ∙ ap (option_map rule_view) e

  -- the rule of the name is this one
  pub its_rule : (q : Rule) → rule_of G r.name ≡ Some q → q ≡ rule_without_spans r
  its_rule q e = go (last_place G r.name) means (resolved rules r.name)
    where
      same_some : {A : Type 0} {o : Option A} {a b : A} → o ≡ Some a → o ≡ Some b → a ≡ b
      same_some x y = let h = sym x ∙ y in cc

      go : (o : Option ℕ) → o ≡ Some v → Named rules r.name o → q ≡ rule_without_spans r
      go o h (absent f) = cc
      go o h (named {r = k} rule here f) =
          let same : k ≡ v = cc in
          let seen : slice_get (rule_views rules) v ≡ Some (rule_view rule) = subst (λ z. slice_get (rule_views rules) z ≡ Some (rule_view rule)) same (body_of k rule here) in
          same_rule e f ∙ ap rule_without_spans (same_some seen at)

  module _ (t : KindTable) (gone_from : IsWithout v facts.table t) where
    abbrev place_now : Text → Option ℕ
    place_now n = place_without v (place_of n)

    lies_without : (i : ℕ) (e : Expression) → Represents (kind_in G) facts.table.kinds.items i e → Represents (kinds_by place_now) t.kinds.items i e
    lies_without i e s = subst (λ z. Represents (kinds_by place_now) z i e) (sym gone_from.kinds) (says_without place_of v facts.table.kinds.items i e s)

    none_without : (n : Text) → rule_of G n ≡ None → rule_of (without r.name G) n ≡ None
    none_without n e = go (rule_of (without r.name G) n) refl
      where
        go : (o : Option Rule) → rule_of (without r.name G) n ≡ o → o ≡ None
        go None h = refl
        go (Some q) h = absurd (no_rule (sym e ∙ rule_within r.name G n q h))

    named_without : (n : Text) (k j : ℕ) (q : Rule) → last_place G n ≡ Some k → rule_of G n ≡ Some q → slice_get facts.table.roots.items k ≡ Some j → Represents (kind_in G) facts.table.kinds.items j q.body → Sense (without r.name G) (kinds_by place_now) t n (place_without v (Some k))
    named_without n k j q place e root s = go (nat_eq k v) refl
      where
        gone : k ≡ v → rule_of (without r.name G) n ≡ None
        gone h = let (p, here, name) = in_rules (rule_views rules) n k place in
            let seen : slice_get (rule_views rules) k ≡ Some r = subst (λ z. slice_get (rule_views rules) z ≡ Some r) (sym h) at in
            let same : p ≡ r = (let x = sym here ∙ seen in cc) in
            subst (λ z. rule_of (without r.name G) z ≡ None) (sym (ap (λ z. z.name) same) ∙ name) (rule_gone r.name G)

        apart : nat_eq k v ≡ false → r.name ≡ n → ⊥
        apart h e = let one : last_place G n ≡ Some v = subst (λ z. last_place G z ≡ Some v) e means in
            let same : k ≡ v = (let x = sym place ∙ one in cc) in
            let set = (unsigned_Decides k v).1 same in let x = sym set ∙ h in cc

        go : (b : Bool) → nat_eq k v ≡ b → Sense (without r.name G) (kinds_by place_now) t n (if b then None else Some k)
        go true h = absent_from (gone ((unsigned_Decides k v).0 h))
        go false h = lies_at q (rule_without r.name G n (apart h) ∙ e) (ap (λ z. slice_get z k) gone_from.roots ∙ root) (lies_without j q.body s)

    sense_without : (n : Text) → Sense (without r.name G) (kinds_by place_now) t n (place_now n)
    sense_without n = go (last_place G n) refl (sense_of rules facts.table right.table n)
      where
        go : (o : Option ℕ) → last_place G n ≡ o → Sense G (kind_in G) facts.table n o → Sense (without r.name G) (kinds_by place_now) t n (place_without v o)
        go None h (absent_from e) = absent_from (none_without n e)
        go (Some k) h (lies_at {j = j} q e root s) = named_without n k j q h e root s

    -- answers over that table
    pub marked_without : (answers : List Bool) → AreSound asks.TakesNothing t answers → AreClosed asks.TakesNothing t answers → (i : ℕ) (x : Spanned) → slice_get (all_nodes rules) i ≡ Some x
        → Decides (is_set_at answers i) (IsNullable (without r.name G) (without_spans x))
    marked_without answers sound closed i x e = answered (without r.name G) place_now t sense_without asks.TakesNothing answers sound closed i (without_spans x) (lies_without i (without_spans x) (says_at rules facts right i x e))

  -- a rule that takes something
  pub marked_settled : (root : ℕ) → Represents (kind_in G) facts.table.kinds.items root (without_spans r.body) → is_set_at facts.nullable.items root ≡ false → (i : ℕ) (x : Spanned) → slice_get (all_nodes rules) i ≡ Some x
      → Decides (is_set_at facts.nullable.items i) (IsNullable (without r.name G) (without_spans x))
  marked_settled root s off i x e = let d = right.nullable i (without_spans x) (says_at rules facts right i x e) in
      ((λ h. null_less G r.name takes (d.0 h)), (λ n. d.1 (null_more G r.name n)))
    where
      takes : (q : Rule) → rule_of G r.name ≡ Some q → IsNullable G q.body → ⊥
      takes q h n = let on = (right.nullable root (without_spans r.body) s).1 (subst (λ z. IsNullable G z.body) (its_rule q h) n) in let x = sym on ∙ off in cc
