-- Answers that are right and closed answer the question.
use Rattle.std.proofs.Common.{◌≡◌, ℕ, ◌⊎◌, inl, inr, List, [], ◌∷◌, Option, Some, None, Bool, true, false, ◌||◌, if◌then◌else◌, bytes_eq, codes, nat_eq, slice_get, refl, sym, ◌∙◌, ap, subst}
use Rattle.std.specs.Cmp.{unsigned_Decides}
use Rattle.std.proofs.lemmas.Slice.Eq.{bytes_eq-Decides}
use Rattle.base_language.specs.Language.Text.{Text}
use Rattle.base_language.specs.Language.Expression.{Expression, Str, Insens, Range, Ident, PeekSlice, PosPred, NegPred, Seq, Choice, Opt, Rep, RepOnce, RepExact, RepMin, RepMax, RepMinMax, Skip, Push, RestoreOnErr, Rule, Grammar, rule_of, PushLiteral, NodeTag, last_place}
use Rattle.std.specs.Bool.{Decides}
use Rattle.std.proofs.lemmas.Bool.{and_from, and_parts, or_cases, or_left, or_right}
use Rattle.base_language.specs.Language.WellFormed.{IsNullable, nullable_str, nullable_insens, nullable_soi, nullable_eoi, nullable_call, nullable_pos_pred, nullable_neg_pred, nullable_opt, nullable_rep, nullable_rep_max, nullable_seq, nullable_left, nullable_right, nullable_rep_once, nullable_push, nullable_exact_zero, nullable_exact, nullable_min_zero, nullable_min, nullable_min_max_zero, nullable_min_max, nullable_skip, nullable_restore, CannotFail, cannot_fail_str, cannot_fail_insens, cannot_fail_call, cannot_fail_opt, cannot_fail_rep, cannot_fail_rep_max, cannot_fail_seq, cannot_fail_left, cannot_fail_right, cannot_fail_rep_once, cannot_fail_push, cannot_fail_pos_pred, cannot_fail_exact_zero, cannot_fail_exact, cannot_fail_min_zero, cannot_fail_min, cannot_fail_min_max_zero, cannot_fail_min_max, cannot_fail_skip, cannot_fail_restore, nullable_push_literal, nullable_tag, cannot_fail_push_literal, cannot_fail_tag}
use Rattle.base_language.proofs.Basics.{got_alike}
use Rattle.front_spanned.specs.Nodes.{view}
use Rattle.front_spanned.specs.declared.node.ParserRule.{ParserRule}
use Rattle.base_graphs.specs.Least.{is_set_at}
use Rattle.front_analysis.proofs.Resolved.{Named, absent, named, resolved}
use Rattle.front_analysis.specs.Names.{grammar_of, rule_said, is_end}
use Rattle.front_analysis.specs.NameKinds.{kind_in, name_kind}
use Rattle.front_analysis.specs.Kinds.{Represents, counted, repeated, wrap_kind}
use Rattle.front_analysis.specs.KindTable.{is_of_taking, at_root, fires}
use Rattle.base_graphs.specs.Least.{follows}
use Rattle.front_analysis.specs.RightAnswers.{AreSound, AreClosed, Holds}
use Rattle.front_analysis.specs.Facts.{IsTableOf, IsTrueOf, AreAnswers}
use Rattle.front_analysis.specs.declared.kind_table.NodeKind.{NodeKind}
use Rattle.front_analysis.specs.declared.kind_table.Question.{Question}
use Rattle.front_analysis.specs.declared.kind_table.Question.TheVariants as asks
use Rattle.front_analysis.specs.declared.kind_table.KindTable.{KindTable}
use Rattle.front_analysis.specs.declared.kinds.Wrap.TheVariants as wraps
use Rattle.front_analysis.proofs.Tying.{says}

-- 1. names and roots

pub end_null : (g : Grammar) (n : Text) → is_end n ≡ true → IsNullable g (Ident n)
end_null g n h = elim (or_cases (bytes_eq n (codes "SOI")) (bytes_eq n (codes "EOI")) h) [
  | inl e ↦ subst (λ t. IsNullable g (Ident t)) (sym ((bytes_eq-Decides n (codes "SOI")).0 e)) nullable_soi
  | inr e ↦ subst (λ t. IsNullable g (Ident t)) (sym ((bytes_eq-Decides n (codes "EOI")).0 e)) nullable_eoi
]

-- 2. what a question asks of an expression follows from its operands
module _ (g : Grammar) where
  call_asked : (q : Question) (n : Text) (r : Rule) → rule_of g n ≡ Some r → IsTrueOf q g r.body → IsTrueOf q g (Ident n)
  call_asked asks.TakesNothing n r e d = nullable_call e d
  call_asked asks.CannotFail n r e d = cannot_fail_call e d

  end_asked : (q : Question) (n : Text) → is_end n ≡ true → is_of_taking q ≡ true → IsTrueOf q g (Ident n)
  end_asked asks.TakesNothing n e h = end_null g n e
  end_asked asks.CannotFail n e h = cc

  empty_asked : (q : Question) → IsTrueOf q g (Str [])
  empty_asked asks.TakesNothing = nullable_str
  empty_asked asks.CannotFail = cannot_fail_str

  empty_asked_too : (q : Question) → IsTrueOf q g (Insens [])
  empty_asked_too asks.TakesNothing = nullable_insens
  empty_asked_too asks.CannotFail = cannot_fail_insens

  ahead_asked : (q : Question) (e : Expression) (b : Bool) → (is_of_taking q || b) ≡ true → (b ≡ true → IsTrueOf q g e) → IsTrueOf q g (PosPred e)
  ahead_asked asks.TakesNothing e b h f = nullable_pos_pred
  ahead_asked asks.CannotFail e b h f = cannot_fail_pos_pred (f h)

  not_ahead_asked : (q : Question) (e : Expression) → is_of_taking q ≡ true → IsTrueOf q g (NegPred e)
  not_ahead_asked asks.TakesNothing e h = nullable_neg_pred
  not_ahead_asked asks.CannotFail e h = cc

  opt_asked : (q : Question) (e : Expression) → IsTrueOf q g (Opt e)
  opt_asked asks.TakesNothing e = nullable_opt
  opt_asked asks.CannotFail e = cannot_fail_opt

  rep_asked : (q : Question) (e : Expression) → IsTrueOf q g (Rep e)
  rep_asked asks.TakesNothing e = nullable_rep
  rep_asked asks.CannotFail e = cannot_fail_rep

  max_asked : (q : Question) (e : Expression) (n : ℕ) → IsTrueOf q g (RepMax e n)
  max_asked asks.TakesNothing e n = nullable_rep_max
  max_asked asks.CannotFail e n = cannot_fail_rep_max

  once_asked : (q : Question) (e : Expression) → IsTrueOf q g e → IsTrueOf q g (RepOnce e)
  once_asked asks.TakesNothing e d = nullable_rep_once d
  once_asked asks.CannotFail e d = cannot_fail_rep_once d

  push_asked : (q : Question) (e : Expression) → IsTrueOf q g e → IsTrueOf q g (Push e)
  push_asked asks.TakesNothing e d = nullable_push d
  push_asked asks.CannotFail e d = cannot_fail_push d

  tag_asked : (q : Question) (e : Expression) (t : Text) → IsTrueOf q g e → IsTrueOf q g (NodeTag e t)
  tag_asked asks.TakesNothing e t d = nullable_tag d
  tag_asked asks.CannotFail e t d = cannot_fail_tag d

  literal_asked : (q : Question) (t : Text) → IsTrueOf q g (PushLiteral t)
  literal_asked asks.TakesNothing t = nullable_push_literal
  literal_asked asks.CannotFail t = cannot_fail_push_literal

  seq_asked : (q : Question) (a b : Expression) → IsTrueOf q g a → IsTrueOf q g b → IsTrueOf q g (Seq a b)
  seq_asked asks.TakesNothing a b d e = nullable_seq d e
  seq_asked asks.CannotFail a b d e = cannot_fail_seq d e

  choice_asked : (q : Question) (a b : Expression) → IsTrueOf q g a ⊎ IsTrueOf q g b → IsTrueOf q g (Choice a b)
  choice_asked asks.TakesNothing a b (inl d) = nullable_left d
  choice_asked asks.TakesNothing a b (inr d) = nullable_right d
  choice_asked asks.CannotFail a b (inl d) = cannot_fail_left d
  choice_asked asks.CannotFail a b (inr d) = cannot_fail_right d

  exact_asked : (q : Question) (e : Expression) (n : ℕ) → (n ≡ 0) ⊎ IsTrueOf q g e → IsTrueOf q g (RepExact e n)
  exact_asked asks.TakesNothing e n (inl h) = subst (λ k. IsNullable g (RepExact e k)) (sym h) nullable_exact_zero
  exact_asked asks.TakesNothing e n (inr d) = nullable_exact d
  exact_asked asks.CannotFail e n (inl h) = subst (λ k. CannotFail g (RepExact e k)) (sym h) cannot_fail_exact_zero
  exact_asked asks.CannotFail e n (inr d) = cannot_fail_exact d

  min_asked : (q : Question) (e : Expression) (n : ℕ) → (n ≡ 0) ⊎ IsTrueOf q g e → IsTrueOf q g (RepMin e n)
  min_asked asks.TakesNothing e n (inl h) = subst (λ k. IsNullable g (RepMin e k)) (sym h) nullable_min_zero
  min_asked asks.TakesNothing e n (inr d) = nullable_min d
  min_asked asks.CannotFail e n (inl h) = subst (λ k. CannotFail g (RepMin e k)) (sym h) cannot_fail_min_zero
  min_asked asks.CannotFail e n (inr d) = cannot_fail_min d

  min_max_asked : (q : Question) (e : Expression) (m n : ℕ) → (m ≡ 0) ⊎ IsTrueOf q g e → IsTrueOf q g (RepMinMax e m n)
  min_max_asked asks.TakesNothing e m n (inl h) = subst (λ k. IsNullable g (RepMinMax e k n)) (sym h) nullable_min_max_zero
  min_max_asked asks.TakesNothing e m n (inr d) = nullable_min_max d
  min_max_asked asks.CannotFail e m n (inl h) = subst (λ k. CannotFail g (RepMinMax e k n)) (sym h) cannot_fail_min_max_zero
  min_max_asked asks.CannotFail e m n (inr d) = cannot_fail_min_max d

same_kind : {k l : NodeKind} (o : Option NodeKind) → o ≡ Some k → o ≡ Some l → k ≡ l
same_kind o e f = let h = sym e ∙ f in cc

counted_fires : (q : Question) (roots : List ℕ) (p : ℕ → Bool) (n j : ℕ) → fires q roots p (wrap_kind (counted n) j) ≡ true → (n ≡ 0) ⊎ (p j ≡ true)
counted_fires q roots p n j h = go (nat_eq n 0) refl h
  where
    go : (b : Bool) → nat_eq n 0 ≡ b → fires q roots p (wrap_kind (if b then wraps.Free else wraps.Inside) j) ≡ true → (n ≡ 0) ⊎ (p j ≡ true)
    go true e h = inl ((unsigned_Decides n 0).0 e)
    go false e h = inr h

repeated_fires : (q : Question) (roots : List ℕ) (p : ℕ → Bool) (n j : ℕ) → fires q roots p (wrap_kind (repeated n) j) ≡ true → (n ≡ 0) ⊎ (p j ≡ true)
repeated_fires q roots p n j h = go (nat_eq n 0) refl h
  where
    go : (b : Bool) → nat_eq n 0 ≡ b → fires q roots p (wrap_kind (if b then wraps.Again else wraps.OnceAgain) j) ≡ true → (n ≡ 0) ⊎ (p j ≡ true)
    go true e h = inl ((unsigned_Decides n 0).0 e)
    go false e h = inr h

pub no_rule : {r : Rule} → None ≡ Some r → ⊥
no_rule h = cc

pub same_rule : {o : Option Rule} {a b : Rule} → o ≡ Some a → o ≡ Some b → a ≡ b
same_rule e f = let h = sym e ∙ f in cc

-- 3. what a name is taken for: nothing, or a rule whose body lies in the table
pub data Sense (G : Grammar) (kind_of : Text → NodeKind) (t : KindTable) (n : Text) : Option ℕ → Type 0 where
  absent_from : rule_of G n ≡ None → Sense G kind_of t n None
  lies_at : {k j : ℕ} (r : Rule) → rule_of G n ≡ Some r → slice_get t.roots.items k ≡ Some j → Represents kind_of t.kinds.items j r.body → Sense G kind_of t n (Some k)

abbrev pub kinds_by : (Text → Option ℕ) → Text → NodeKind
kinds_by place_of n = name_kind (is_end n) (place_of n)

-- 4. what holds is asked
module _ (q : Question) (G : Grammar) (place_of : Text → Option ℕ) (t : KindTable) (sense : (n : Text) → Sense G (kinds_by place_of) t n (place_of n)) where
  abbrev Says_ : ℕ → Expression → Type 0
  Says_ i e = Represents (kinds_by place_of) t.kinds.items i e

  module _ (p : ℕ → Bool) (below : (j : ℕ) (e : Expression) → p j ≡ true → Says_ j e → IsTrueOf q G e) where
    name_asked : (n : Text) (o : Option ℕ) → Sense G (kinds_by place_of) t n o → (b : Bool) → is_end n ≡ b → fires q t.roots.items p (name_kind b o) ≡ true → IsTrueOf q G (Ident n)
    name_asked n o (absent_from e) true h f = end_asked G q n h f
    name_asked n o (absent_from e) false h f = cc
    name_asked n o (lies_at {k = k} {j = j} r e at s) true h f = elim (or_cases (is_of_taking q) (at_root p (slice_get t.roots.items k)) f) [
      | inl z ↦ end_asked G q n h z
      | inr z ↦ call_asked G q n r e (below j r.body (sym (ap (at_root p) at) ∙ z) s)
    ]
    name_asked n o (lies_at {k = k} {j = j} r e at s) false h f = call_asked G q n r e (below j r.body (sym (ap (at_root p) at) ∙ f) s)

    step : (i : ℕ) (k : NodeKind) (e : Expression) → slice_get t.kinds.items i ≡ Some k → Says_ i e → fires q t.roots.items p k ≡ true → IsTrueOf q G e
    step i k (Str []) at s f = empty_asked G q
    step i k (Str (c ∷ u)) at s f = let h = subst (λ z. fires q t.roots.items p z ≡ true) (same_kind _ at s) f in cc
    step i k (Insens []) at s f = empty_asked_too G q
    step i k (Insens (c ∷ u)) at s f = let h = subst (λ z. fires q t.roots.items p z ≡ true) (same_kind _ at s) f in cc
    step i k (Range a b) at s f = let h = subst (λ z. fires q t.roots.items p z ≡ true) (same_kind _ at s) f in cc
    step i k (PeekSlice a b) at s f = let h = subst (λ z. fires q t.roots.items p z ≡ true) (same_kind _ at s) f in cc
    step i k (Ident n) at s f = name_asked n (place_of n) (sense n) (is_end n) refl (subst (λ z. fires q t.roots.items p z ≡ true) (same_kind _ at s) f)
    step i k (PosPred e) at s f = ahead_asked G q e (p s.0) (subst (λ z. fires q t.roots.items p z ≡ true) (same_kind _ at s.2) f) (λ h. below s.0 e h s.3)
    step i k (NegPred e) at s f = not_ahead_asked G q e (subst (λ z. fires q t.roots.items p z ≡ true) (same_kind _ at s.2) f)
    step i k (Opt e) at s f = opt_asked G q e
    step i k (Rep e) at s f = rep_asked G q e
    step i k (RepMax e n) at s f = max_asked G q e n
    step i k (RepOnce e) at s f = once_asked G q e (below s.0 e (subst (λ z. fires q t.roots.items p z ≡ true) (same_kind _ at s.2) f) s.3)
    step i k (Push e) at s f = push_asked G q e (below s.0 e (subst (λ z. fires q t.roots.items p z ≡ true) (same_kind _ at s.2) f) s.3)
    step i k (PushLiteral u) at s f = literal_asked G q u
    step i k (NodeTag e u) at s f = tag_asked G q e u (below s.0 e (subst (λ z. fires q t.roots.items p z ≡ true) (same_kind _ at s.2) f) s.3)
    step i k (RepExact e n) at s f = exact_asked G q e n (elim (counted_fires q t.roots.items p n s.0 (subst (λ z. fires q t.roots.items p z ≡ true) (same_kind _ at s.2) f)) [ inl h ↦ inl h | inr h ↦ inr (below s.0 e h s.3) ])
    step i k (RepMin e n) at s f = min_asked G q e n (elim (repeated_fires q t.roots.items p n s.0 (subst (λ z. fires q t.roots.items p z ≡ true) (same_kind _ at s.2) f)) [ inl h ↦ inl h | inr h ↦ inr (below s.0 e h s.3) ])
    step i k (RepMinMax e m n) at s f = min_max_asked G q e m n (elim (counted_fires q t.roots.items p m s.0 (subst (λ z. fires q t.roots.items p z ≡ true) (same_kind _ at s.2) f)) [ inl h ↦ inl h | inr h ↦ inr (below s.0 e h s.3) ])
    step i k (Seq a b) at s f = let h = and_parts (p s.0) (p s.1) (subst (λ z. fires q t.roots.items p z ≡ true) (same_kind _ at s.4) f) in seq_asked G q a b (below s.0 a h.0 s.5) (below s.1 b h.1 s.6)
    step i k (Choice a b) at s f = choice_asked G q a b (elim (or_cases (p s.0) (p s.1) (subst (λ z. fires q t.roots.items p z ≡ true) (same_kind _ at s.4) f)) [ inl h ↦ inl (below s.0 a h s.5) | inr h ↦ inr (below s.1 b h s.6) ])
    step i k (Skip ts) at s f = absurd s
    step i k (RestoreOnErr e) at s f = absurd s

  pub asked : {i : ℕ} → Holds q t i → (e : Expression) → Says_ i e → IsTrueOf q G e
  asked (follows {i = i} {a = k} p at f g) e s = step p (λ j d h z. asked (g j h) d z) i k e at s f

-- 5. what is asked is answered
end_fires : (roots : List ℕ) (p : ℕ → Bool) (b : Bool) → b ≡ true → (o : Option ℕ) → fires asks.TakesNothing roots p (name_kind b o) ≡ true
end_fires roots p true h None = refl
end_fires roots p true h (Some r) = refl
end_fires roots p false h o = cc

counted_holds : (q : Question) (roots : List ℕ) (p : ℕ → Bool) (n j : ℕ) → p j ≡ true → fires q roots p (wrap_kind (counted n) j) ≡ true
counted_holds q roots p n j h = go (nat_eq n 0)
  where
    go : (b : Bool) → fires q roots p (wrap_kind (if b then wraps.Free else wraps.Inside) j) ≡ true
    go true = refl
    go false = h

repeated_holds : (q : Question) (roots : List ℕ) (p : ℕ → Bool) (n j : ℕ) → p j ≡ true → fires q roots p (wrap_kind (repeated n) j) ≡ true
repeated_holds q roots p n j h = go (nat_eq n 0)
  where
    go : (b : Bool) → fires q roots p (wrap_kind (if b then wraps.Again else wraps.OnceAgain) j) ≡ true
    go true = refl
    go false = h

module _ (G : Grammar) (place_of : Text → Option ℕ) (t : KindTable) (sense : (n : Text) → Sense G (kinds_by place_of) t n (place_of n)) where
  abbrev Lies : ℕ → Expression → Type 0
  Lies i e = Represents (kinds_by place_of) t.kinds.items i e

  module _ (q : Question) (p : ℕ → Bool) (n : Text) (r : Rule) (at : rule_of G n ≡ Some r) (inner : (j : ℕ) → Lies j r.body → p j ≡ true) where
    root_fires : (k j : ℕ) (m : Rule) → rule_of G n ≡ Some m → slice_get t.roots.items k ≡ Some j → Lies j m.body → at_root p (slice_get t.roots.items k) ≡ true
    root_fires k j m e h s = ap (at_root p) h ∙ inner j (subst (λ z. Lies j z.body) (same_rule e at) s)

    call_fires : (o : Option ℕ) → Sense G (kinds_by place_of) t n o → (b : Bool) → fires q t.roots.items p (name_kind b o) ≡ true
    call_fires o (absent_from e) b = absurd (no_rule (sym e ∙ at))
    call_fires o (lies_at {k = k} {j = j} m e h s) true = or_right (is_of_taking q) (at_root p (slice_get t.roots.items k)) (root_fires k j m e h s)
    call_fires o (lies_at {k = k} {j = j} m e h s) false = root_fires k j m e h s

  module _ (answers : List Bool) (closed : AreClosed asks.TakesNothing t answers) where
    null_marked : {e : Expression} → IsNullable G e → (i : ℕ) → Lies i e → is_set_at answers i ≡ true
    null_marked nullable_str i s = closed i _ s refl
    null_marked nullable_insens i s = closed i _ s refl
    null_marked nullable_soi i s = closed i _ s (end_fires t.roots.items (is_set_at answers) (is_end (codes "SOI")) refl (place_of (codes "SOI")))
    null_marked nullable_eoi i s = closed i _ s (end_fires t.roots.items (is_set_at answers) (is_end (codes "EOI")) refl (place_of (codes "EOI")))
    null_marked (nullable_call {n = n} {r = r} e d) i s = closed i _ s (call_fires asks.TakesNothing (is_set_at answers) n r e (λ j z. null_marked d j z) (place_of n) (sense n) (is_end n))
    null_marked nullable_pos_pred i s = closed i _ s.2 refl
    null_marked nullable_neg_pred i s = closed i _ s.2 refl
    null_marked nullable_opt i s = closed i _ s.2 refl
    null_marked nullable_rep i s = closed i _ s.2 refl
    null_marked nullable_rep_max i s = closed i _ s.2 refl
    null_marked (nullable_seq d f) i s = closed i _ s.4 (and_from (is_set_at answers s.0) (is_set_at answers s.1) (null_marked d s.0 s.5) (null_marked f s.1 s.6))
    null_marked (nullable_left d) i s = closed i _ s.4 (or_left (is_set_at answers s.0) (is_set_at answers s.1) (null_marked d s.0 s.5))
    null_marked (nullable_right d) i s = closed i _ s.4 (or_right (is_set_at answers s.0) (is_set_at answers s.1) (null_marked d s.1 s.6))
    null_marked (nullable_rep_once d) i s = closed i _ s.2 (null_marked d s.0 s.3)
    null_marked (nullable_push d) i s = closed i _ s.2 (null_marked d s.0 s.3)
    null_marked nullable_push_literal i s = closed i _ s refl
    null_marked (nullable_tag d) i s = closed i _ s.2 (null_marked d s.0 s.3)
    null_marked nullable_exact_zero i s = closed i _ s.2 refl
    null_marked (nullable_exact {i = n} d) i s = closed i _ s.2 (counted_holds asks.TakesNothing t.roots.items (is_set_at answers) n s.0 (null_marked d s.0 s.3))
    null_marked nullable_min_zero i s = closed i _ s.2 refl
    null_marked (nullable_min {i = n} d) i s = closed i _ s.2 (repeated_holds asks.TakesNothing t.roots.items (is_set_at answers) n s.0 (null_marked d s.0 s.3))
    null_marked nullable_min_max_zero i s = closed i _ s.2 refl
    null_marked (nullable_min_max {i = n} d) i s = closed i _ s.2 (counted_holds asks.TakesNothing t.roots.items (is_set_at answers) n s.0 (null_marked d s.0 s.3))
    null_marked nullable_skip i s = absurd s
    null_marked (nullable_restore d) i s = absurd s

  module _ (answers : List Bool) (closed : AreClosed asks.CannotFail t answers) where
    sure_marked : {e : Expression} → CannotFail G e → (i : ℕ) → Lies i e → is_set_at answers i ≡ true
    sure_marked cannot_fail_str i s = closed i _ s refl
    sure_marked cannot_fail_insens i s = closed i _ s refl
    sure_marked (cannot_fail_call {n = n} {r = r} e d) i s = closed i _ s (call_fires asks.CannotFail (is_set_at answers) n r e (λ j z. sure_marked d j z) (place_of n) (sense n) (is_end n))
    sure_marked cannot_fail_opt i s = closed i _ s.2 refl
    sure_marked cannot_fail_rep i s = closed i _ s.2 refl
    sure_marked cannot_fail_rep_max i s = closed i _ s.2 refl
    sure_marked (cannot_fail_seq d f) i s = closed i _ s.4 (and_from (is_set_at answers s.0) (is_set_at answers s.1) (sure_marked d s.0 s.5) (sure_marked f s.1 s.6))
    sure_marked (cannot_fail_left d) i s = closed i _ s.4 (or_left (is_set_at answers s.0) (is_set_at answers s.1) (sure_marked d s.0 s.5))
    sure_marked (cannot_fail_right d) i s = closed i _ s.4 (or_right (is_set_at answers s.0) (is_set_at answers s.1) (sure_marked d s.1 s.6))
    sure_marked (cannot_fail_rep_once d) i s = closed i _ s.2 (sure_marked d s.0 s.3)
    sure_marked (cannot_fail_push d) i s = closed i _ s.2 (sure_marked d s.0 s.3)
    sure_marked cannot_fail_push_literal i s = closed i _ s refl
    sure_marked (cannot_fail_tag d) i s = closed i _ s.2 (sure_marked d s.0 s.3)
    sure_marked (cannot_fail_pos_pred d) i s = closed i _ s.2 (sure_marked d s.0 s.3)
    sure_marked cannot_fail_exact_zero i s = closed i _ s.2 refl
    sure_marked (cannot_fail_exact {i = n} d) i s = closed i _ s.2 (counted_holds asks.CannotFail t.roots.items (is_set_at answers) n s.0 (sure_marked d s.0 s.3))
    sure_marked cannot_fail_min_zero i s = closed i _ s.2 refl
    sure_marked (cannot_fail_min {i = n} d) i s = closed i _ s.2 (repeated_holds asks.CannotFail t.roots.items (is_set_at answers) n s.0 (sure_marked d s.0 s.3))
    sure_marked cannot_fail_min_max_zero i s = closed i _ s.2 refl
    sure_marked (cannot_fail_min_max {i = n} d) i s = closed i _ s.2 (counted_holds asks.CannotFail t.roots.items (is_set_at answers) n s.0 (sure_marked d s.0 s.3))
    sure_marked cannot_fail_skip i s = absurd s
    sure_marked (cannot_fail_restore d) i s = absurd s

  pub answered : (q : Question) (answers : List Bool) → AreSound q t answers → AreClosed q t answers → (i : ℕ) (e : Expression) → Lies i e → Decides (is_set_at answers i) (IsTrueOf q G e)
  answered asks.TakesNothing answers s c i e l = ((λ h. asked asks.TakesNothing G place_of t sense (s.right i h) e l), (λ d. null_marked answers c d i l))
  answered asks.CannotFail answers s c i e l = ((λ h. asked asks.CannotFail G place_of t sense (s.right i h) e l), (λ d. sure_marked answers c d i l))

-- 6. the names of rules
pub sense_of : (rules : List ParserRule) (t : KindTable) → IsTableOf rules t → (n : Text) → Sense (grammar_of rules) (kind_in (grammar_of rules)) t n (last_place (grammar_of rules) n)
sense_of rules t table n = go (last_place (grammar_of rules) n) (resolved rules n)
  where
    go : (o : Option ℕ) → Named rules n o → Sense (grammar_of rules) (kind_in (grammar_of rules)) t n o
    go o (absent e) = absent_from e
    go o (named {r = k} rule at e) = let (j, h) = got_alike rules t.roots.items k rule at (sym table.alike) in
        lies_at (rule_said rule) e h (says (kind_in (grammar_of rules)) t.kinds.items j (view rule.node) (table.stand k j rule at h))

pub answers : (rules : List ParserRule) (t : KindTable) → IsTableOf rules t → (q : Question) (flags : List Bool) → AreSound q t flags → AreClosed q t flags → AreAnswers rules t q flags
answers rules t table q flags s c = answered (grammar_of rules) (last_place (grammar_of rules)) t (sense_of rules t table) q flags s c
