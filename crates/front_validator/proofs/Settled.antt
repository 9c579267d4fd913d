-- Flags of the nodes of a rule's body, each by those of its operands, where its calls are settled.
use Rattle.std.proofs.Common.{◌≡◌, ℕ, ◌<◌, ◌≤◌, ◌⊎◌, inl, inr, List, [], ◌∷◌, ◌++◌, Option, Some, None, Bool, true, false, ◌&&◌, ◌||◌, if◌then◌else◌, nat_eq, slice_get, length, refl, sym, ◌∙◌, ap, subst, arith}
use Rattle.std.specs.Bool.{Decides}
use Rattle.std.specs.Cmp.{unsigned_Decides}
use Rattle.std.proofs.lemmas.List.{length_push}
use Rattle.base_language.specs.Language.Text.{Text}
use Rattle.base_language.specs.Language.Expression.{Expression, Str, Insens, Range, Ident, PeekSlice, Seq, Choice, RepOnce, RepExact, RepMin, RepMinMax, Push, Rule, Grammar, rule_of, PushLiteral, NodeTag, last_place}
use Rattle.base_language.specs.Language.WellFormed.{IsNullable, nullable_str, nullable_insens, nullable_soi, nullable_eoi, nullable_call, nullable_pos_pred, nullable_neg_pred, nullable_opt, nullable_rep, nullable_rep_max, nullable_seq, nullable_left, nullable_right, nullable_rep_once, nullable_push, nullable_exact_zero, nullable_exact, nullable_min_zero, nullable_min, nullable_min_max_zero, nullable_min_max, nullable_skip, nullable_restore, nullable_push_literal, nullable_tag}
use Rattle.front_spanned.specs.Erasure.{without_spans}
use Rattle.front_spanned.specs.Nodes.{rule_views}
use Rattle.front_spanned.specs.Spanned as spanned
use Rattle.front_spanned.specs.Spanned.{Span, Spanned, Leaf, One, Two, Unary, SpannedRule}
use Rattle.front_spanned.specs.declared.node.ParserRule.{ParserRule}
use Rattle.base_graphs.specs.Least.{is_set_at}
use Rattle.base_graphs.proofs.FlagLists.{set_before, set_last}
use Rattle.front_validator.specs.Cycles.{rank_at}
use Rattle.front_analysis.specs.Facts.{AreFacts}
use Rattle.front_validator.specs.LeftRecursion.{Means}
use Rattle.front_validator.specs.Levels.{Rests, AllRest, IsSettled, AreSettled, own_answer, own_answer_at}
use Rattle.front_analysis.specs.Names.{grammar_of, is_end}
use Rattle.front_analysis.specs.NameKinds.{kind_in, name_kind}
use Rattle.front_analysis.specs.Nodes.{IsSimple, all_nodes}
use Rattle.front_analysis.specs.Kinds.{Represents, Fits, counted, repeated, wrap_of, wrap_kind, leaf_kind}
use Rattle.front_validator.specs.Regions.{IsNodeOf, ArePassingSoFar}
use Rattle.front_analysis.specs.Roots.{first_of}
use Rattle.front_analysis.specs.KindTable.{at_root}
use Rattle.front_validator.specs.Walk.{without}
use Rattle.front_analysis.specs.declared.facts.Facts.{Facts}
use Rattle.front_analysis.specs.declared.kinds.Wrap.TheVariants as wraps
use Rattle.front_analysis.specs.declared.kind_table.NodeKind.{NodeKind}
use Rattle.front_analysis.proofs.Answering.{Sense, absent_from, lies_at, sense_of, end_null, no_rule, same_rule}
use Rattle.front_analysis.proofs.LayoutLemmas.{some_size}
use Rattle.front_validator.proofs.NoneWalks.{in_rules}
use Rattle.front_validator.proofs.PassingSteps.{Lower, lower, equal, lower_or_equal}
use Rattle.front_validator.proofs.RegionLemmas.{node_inside, node_first, node_second}
use Rattle.front_validator.proofs.Walk.{Compared, same_name, other_name, compared, rule_without, rule_gone, rule_within, null_more}

-- 1. what is known of operands
once_null : {g : Grammar} {e : Expression} → IsNullable g (RepOnce e) → IsNullable g e
once_null (nullable_rep_once d) = d

push_null : {g : Grammar} {e : Expression} → IsNullable g (Push e) → IsNullable g e
push_null (nullable_push d) = d

tag_null : {g : Grammar} {e : Expression} {t : Text} → IsNullable g (NodeTag e t) → IsNullable g e
tag_null (nullable_tag d) = d

exact_null : {g : Grammar} {e : Expression} {n : ℕ} → IsNullable g (RepExact e n) → (n ≡ 0) ⊎ IsNullable g e
exact_null nullable_exact_zero = inl refl
exact_null (nullable_exact d) = inr d

min_null : {g : Grammar} {e : Expression} {n : ℕ} → IsNullable g (RepMin e n) → (n ≡ 0) ⊎ IsNullable g e
min_null nullable_min_zero = inl refl
min_null (nullable_min d) = inr d

min_max_null : {g : Grammar} {e : Expression} {m n : ℕ} → IsNullable g (RepMinMax e m n) → (m ≡ 0) ⊎ IsNullable g e
min_max_null nullable_min_max_zero = inl refl
min_max_null (nullable_min_max d) = inr d

seq_null : {g : Grammar} {a b : Expression} → IsNullable g (Seq a b) → IsNullable g a × IsNullable g b
seq_null (nullable_seq d f) = (d, f)

choice_null : {g : Grammar} {a b : Expression} → IsNullable g (Choice a b) → IsNullable g a ⊎ IsNullable g b
choice_null (nullable_left d) = inl d
choice_null (nullable_right d) = inr d

name_null : {g : Grammar} {n : Text} → is_end n ≡ false → IsNullable g (Ident n) → (r : Rule) × (rule_of g n ≡ Some r) × IsNullable g r.body
name_null h nullable_soi = cc
name_null h nullable_eoi = cc
name_null h (nullable_call {r = r} e d) = (r, e, d)

and_decides : (a b : Bool) (A B C : Type 0) → Decides a A → Decides b B → (A → B → C) → (C → A × B) → Decides (a && b) C
and_decides true b A B C d e f g = ((λ h. f (d.0 refl) (e.0 h)), (λ c. e.1 (g c).1))
and_decides false b A B C d e f g = ((λ h. cc), (λ c. d.1 (g c).0))

or_decides : (a b : Bool) (A B C : Type 0) → Decides a A → Decides b B → (A → C) → (B → C) → (C → A ⊎ B) → Decides (a || b) C
or_decides true b A B C d e f g h = ((λ i. f (d.0 refl)), (λ c. refl))
or_decides false b A B C d e f g h = ((λ i. g (e.0 i)), (λ c. elim (h c) [ inl i ↦ (let x = d.1 i in cc) | inr i ↦ e.1 i ]))

module _ (rules : List ParserRule) (facts : Facts) (right : AreFacts rules facts) (levels : List ℕ) (rest : AllRest facts levels) (v : ℕ) (r : SpannedRule) (at : slice_get (rule_views rules) v ≡ Some r) (means : Means (rule_views rules) r.name v) (root : ℕ) (is_root : slice_get facts.table.roots.items v ≡ Some root) where
  abbrev G : Grammar
  G = grammar_of rules

  abbrev other : Grammar
  other = without r.name (grammar_of rules)

  abbrev Lies : ℕ → Expression → Type 0
  Lies i e = Represents (kind_in (grammar_of rules)) facts.table.kinds.items i e

  -- 2. what lies below the rule does not lead back to it
  down : (a b c : ℕ) → a ≤ b → b < c → a < c
  down a b c h k = omega arith

  of_rule : (n : Text) (q : Rule) (k j : ℕ) (p : Rule) → last_place G n ≡ Some k → rule_of G n ≡ Some q → rule_of G n ≡ Some p → slice_get facts.table.roots.items k ≡ Some j → Lies j p.body → IsNullable G q.body
      → ((j : ℕ) → Lies j q.body → rank_at levels j < rank_at levels root → IsNullable other q.body) → (i : ℕ) → Rests facts levels i (name_kind false (Some k)) → rank_at levels i < rank_at levels root → IsNullable other (Ident n)
  of_rule n q k j p place e f got lies d inner i rests low = go (compared r.name n)
    where
      there : Lies j q.body
      there = subst (λ z. Lies j z.body) (same_rule f e) lies

      lower : rank_at levels j < rank_at levels root
      lower = down (rank_at levels j) (rank_at levels i) (rank_at levels root) (rests j got ((right.nullable j q.body there).1 d)) low

      go : Compared r.name n → IsNullable other (Ident n)
      go (same_name h) =
          let one : last_place G n ≡ Some v = subst (λ z. last_place G z ≡ Some v) h means in
          let same : k ≡ v = (let x = sym place ∙ one in cc) in
          let here : slice_get facts.table.roots.items v ≡ Some j = subst (λ z. slice_get facts.table.roots.items z ≡ Some j) same got in
          let equal : j ≡ root = (let x = sym here ∙ is_root in cc) in
          let ranks = ap (rank_at levels) equal in
          let under = lower in
          absurd (omega arith)
      go (other_name h) = nullable_call (rule_without r.name G n h ∙ e) (inner j there lower)

  by_call : (n : Text) (q : Rule) → rule_of G n ≡ Some q → IsNullable G q.body → ((j : ℕ) → Lies j q.body → rank_at levels j < rank_at levels root → IsNullable other q.body)
      → (i : ℕ) → Rests facts levels i (kind_in G n) → rank_at levels i < rank_at levels root → IsNullable other (Ident n)
  by_call n q e d inner i rests low = go (is_end n) refl (last_place G n) refl (sense_of rules facts.table right.table n) rests
    where
      go : (b : Bool) → is_end n ≡ b → (o : Option ℕ) → last_place G n ≡ o → Sense G (kind_in G) facts.table n o → Rests facts levels i (name_kind b o) → IsNullable other (Ident n)
      go true h o place sense f = end_null other n h
      go false h o place (absent_from a) f = absurd (no_rule (sym a ∙ e))
      go false h (Some k) place (lies_at {j = j} p a got lies) f = of_rule n q k j p place e a got lies d inner i f low

  counted_rests : (i j n : ℕ) → Rests facts levels i (wrap_kind (counted n) j) → (n ≡ 0) ⊎ (rank_at levels j ≤ rank_at levels i)
  counted_rests i j n f = go (nat_eq n 0) refl f
    where
      go : (b : Bool) → nat_eq n 0 ≡ b → Rests facts levels i (wrap_kind (if b then wraps.Free else wraps.Inside) j) → (n ≡ 0) ⊎ (rank_at levels j ≤ rank_at levels i)
      go true h f = inl ((unsigned_Decides n 0).0 h)
      go false h f = inr f

  repeated_rests : (i j n : ℕ) → Rests facts levels i (wrap_kind (repeated n) j) → (n ≡ 0) ⊎ (rank_at levels j ≤ rank_at levels i)
  repeated_rests i j n f = go (nat_eq n 0) refl f
    where
      go : (b : Bool) → nat_eq n 0 ≡ b → Rests facts levels i (wrap_kind (if b then wraps.Again else wraps.OnceAgain) j) → (n ≡ 0) ⊎ (rank_at levels j ≤ rank_at levels i)
      go true h f = inl ((unsigned_Decides n 0).0 h)
      go false h f = inr f

  none_or : (n : ℕ) (A : ℕ → Type 0) → A 0 → (n ≡ 0) ⊎ A n → A n
  none_or n A z (inl h) = subst A (sym h) z
  none_or n A z (inr a) = a

  below : {e : Expression} → IsNullable G e → (i : ℕ) → Lies i e → rank_at levels i < rank_at levels root → IsNullable other e
  below nullable_str i s low = nullable_str
  below nullable_insens i s low = nullable_insens
  below nullable_soi i s low = nullable_soi
  below nullable_eoi i s low = nullable_eoi
  below nullable_pos_pred i s low = nullable_pos_pred
  below nullable_neg_pred i s low = nullable_neg_pred
  below nullable_opt i s low = nullable_opt
  below nullable_rep i s low = nullable_rep
  below nullable_rep_max i s low = nullable_rep_max
  below nullable_exact_zero i s low = nullable_exact_zero
  below nullable_min_zero i s low = nullable_min_zero
  below nullable_min_max_zero i s low = nullable_min_max_zero
  below nullable_skip i s low = nullable_skip
  below (nullable_call {n = n} {r = q} e d) i s low = by_call n q e d (λ j t l. below d j t l) i (rest i _ s) low
  below (nullable_seq a b) i s low = nullable_seq (below a s.0 s.5 (down _ _ _ (rest i _ s.4).0 low)) (below b s.1 s.6 (down _ _ _ (rest i _ s.4).1 low))
  below (nullable_left d) i s low = nullable_left (below d s.0 s.5 (down _ _ _ (rest i _ s.4).0 low))
  below (nullable_right d) i s low = nullable_right (below d s.1 s.6 (down _ _ _ (rest i _ s.4).1 low))
  below (nullable_rep_once d) i s low = nullable_rep_once (below d s.0 s.3 (down _ _ _ (rest i _ s.2) low))
  below (nullable_push d) i s low = nullable_push (below d s.0 s.3 (down _ _ _ (rest i _ s.2) low))
  below nullable_push_literal i s low = nullable_push_literal
  below (nullable_tag d) i s low = nullable_tag (below d s.0 s.3 (down _ _ _ (rest i _ s.2) low))
  below (nullable_exact {e = e} {i = n} d) i s low = none_or n (λ m. IsNullable other (RepExact e m)) nullable_exact_zero (elim (counted_rests i s.0 n (rest i _ s.2)) [ inl h ↦ inl h | inr l ↦ inr (nullable_exact (below d s.0 s.3 (down _ _ _ l low))) ])
  below (nullable_min {e = e} {i = n} d) i s low = none_or n (λ m. IsNullable other (RepMin e m)) nullable_min_zero (elim (repeated_rests i s.0 n (rest i _ s.2)) [ inl h ↦ inl h | inr l ↦ inr (nullable_min (below d s.0 s.3 (down _ _ _ l low))) ])
  below (nullable_min_max {e = e} {i = m} {j = n} d) i s low = none_or m (λ k. IsNullable other (RepMinMax e k n)) nullable_min_max_zero (elim (counted_rests i s.0 m (rest i _ s.2)) [ inl h ↦ inl h | inr l ↦ inr (nullable_min_max (below d s.0 s.3 (down _ _ _ l low))) ])
  below (nullable_restore d) i s low = absurd s

  -- 3. the answer for a node by those for its operands
  module _ (p : ℕ → Bool) where
    abbrev Answers : NodeKind → Expression → Type 0
    Answers k e = Decides (own_answer facts v p k) (IsNullable (without r.name (grammar_of rules)) e)

    of_call : (n : Text) (k j : ℕ) (q : Rule) → is_end n ≡ false → last_place G n ≡ Some k → rule_of G n ≡ Some q → slice_get facts.table.roots.items k ≡ Some j → Lies j q.body → IsSettled facts levels v root (name_kind false (Some k)) → Answers (name_kind false (Some k)) (Ident n)
    of_call n k j q h place e got lies settled = go (nat_eq k v) refl
      where
        gone : k ≡ v → rule_of other n ≡ None
        gone f = let (u, here, name) = in_rules (rule_views rules) n k place in
            let seen : slice_get (rule_views rules) k ≡ Some r = subst (λ z. slice_get (rule_views rules) z ≡ Some r) (sym f) at in
            let same : u ≡ r = (let x = sym here ∙ seen in cc) in
            subst (λ z. rule_of (without r.name G) z ≡ None) (sym (ap (λ z. z.name) same) ∙ name) (rule_gone r.name G)

        apart : (k ≡ v → ⊥) → r.name ≡ n → ⊥
        apart f z = let one : last_place G n ≡ Some v = subst (λ y. last_place G y ≡ Some v) z means in
            f (let x = sym place ∙ one in cc)

        answer : Decides (is_set_at facts.nullable.items j) (IsNullable G q.body)
        answer = right.nullable j q.body lies

        on : (k ≡ v → ⊥) → is_set_at facts.nullable.items j ≡ true → IsNullable other (Ident n)
        on f set = nullable_call (rule_without r.name G n (apart f) ∙ e) (below (answer.0 set) j lies (settled f j got set))

        off : IsNullable other (Ident n) → is_set_at facts.nullable.items j ≡ true
        off d = let (u, f, i) = name_null h d in
            answer.1 (subst (λ z. IsNullable G z.body) (same_rule (rule_within r.name G n u f) e) (null_more G r.name i))

        never : k ≡ v → IsNullable other (Ident n) → ⊥
        never f d = let (u, g, i) = name_null h d in no_rule (sym (gone f) ∙ g)

        go : (b : Bool) → nat_eq k v ≡ b → Decides (if b then false else at_root (is_set_at facts.nullable.items) (slice_get facts.table.roots.items k)) (IsNullable other (Ident n))
        go true f = ((λ z. cc), (λ d. absurd (never ((unsigned_Decides k v).0 f) d)))
        go false f =
            let differ : k ≡ v → ⊥ = (λ z. let x = (unsigned_Decides k v).1 z in let y = sym x ∙ f in cc) in
            let flag = ap (at_root (is_set_at facts.nullable.items)) got in
            ((λ z. on differ (sym flag ∙ z)), (λ d. flag ∙ off d))

    of_name : (n : Text) → IsSettled facts levels v root (kind_in G n) → Answers (kind_in G n) (Ident n)
    of_name n settled = go (is_end n) refl (last_place G n) refl (sense_of rules facts.table right.table n) settled
      where
        go : (b : Bool) → is_end n ≡ b → (o : Option ℕ) → last_place G n ≡ o → Sense G (kind_in G) facts.table n o → IsSettled facts levels v root (name_kind b o) → Answers (name_kind b o) (Ident n)
        go true h None place sense f = ((λ z. end_null other n h), (λ d. refl))
        go true h (Some k) place sense f = ((λ z. end_null other n h), (λ d. refl))
        go false h None place (absent_from a) f = ((λ z. cc), (λ d. let (u, g, i) = name_null h d in absurd (no_rule (sym a ∙ rule_within r.name G n u g))))
        go false h (Some k) place (lies_at {j = j} q e got lies) f = of_call n k j q h place e got lies f

    of_leaf : (e : Expression) → IsSimple e → IsSettled facts levels v root (leaf_kind (kind_in G) e) → Answers (leaf_kind (kind_in G) e) e
    of_leaf (Str []) i s = ((λ z. nullable_str), (λ d. refl))
    of_leaf (Str (c ∷ t)) i s = ((λ z. cc), (λ d. elim d [ ]))
    of_leaf (Insens []) i s = ((λ z. nullable_insens), (λ d. refl))
    of_leaf (Insens (c ∷ t)) i s = ((λ z. cc), (λ d. elim d [ ]))
    of_leaf (Range a b) i s = ((λ z. cc), (λ d. elim d [ ]))
    of_leaf (PeekSlice a b) i s = ((λ z. cc), (λ d. elim d [ ]))
    of_leaf (PushLiteral t) i s = ((λ z. nullable_push_literal), (λ d. refl))
    of_leaf (Ident n) i s = of_name n s
    of_leaf _ i s = absurd i

    of_counted : (n j : ℕ) (A B : Type 0) → Decides (p j) B → (n ≡ 0 → A) → (B → A) → (A → (n ≡ 0) ⊎ B) → Decides (own_answer facts v p (wrap_kind (counted n) j)) A
    of_counted n j A B d none some back = go (nat_eq n 0) refl
      where
        go : (b : Bool) → nat_eq n 0 ≡ b → Decides (own_answer facts v p (wrap_kind (if b then wraps.Free else wraps.Inside) j)) A
        go true h = ((λ z. none ((unsigned_Decides n 0).0 h)), (λ a. refl))
        go false h = ((λ z. some (d.0 z)), (λ a. elim (back a) [ inl e ↦ (let x = (unsigned_Decides n 0).1 e in let y = sym x ∙ h in cc) | inr b ↦ d.1 b ]))

    of_repeated : (n j : ℕ) (A B : Type 0) → Decides (p j) B → (n ≡ 0 → A) → (B → A) → (A → (n ≡ 0) ⊎ B) → Decides (own_answer facts v p (wrap_kind (repeated n) j)) A
    of_repeated n j A B d none some back = go (nat_eq n 0) refl
      where
        go : (b : Bool) → nat_eq n 0 ≡ b → Decides (own_answer facts v p (wrap_kind (if b then wraps.Again else wraps.OnceAgain) j)) A
        go true h = ((λ z. none ((unsigned_Decides n 0).0 h)), (λ a. refl))
        go false h = ((λ z. some (d.0 z)), (λ a. elim (back a) [ inl e ↦ (let x = (unsigned_Decides n 0).1 e in let y = sym x ∙ h in cc) | inr b ↦ d.1 b ]))

    of_one : (f : Unary) (s : Span) (x : Spanned) (j : ℕ) → Decides (p j) (IsNullable other (without_spans x)) → Answers (wrap_kind (wrap_of f) j) (without_spans (One s f x))
    of_one spanned.PosPred s x j d = ((λ z. nullable_pos_pred), (λ a. refl))
    of_one spanned.NegPred s x j d = ((λ z. nullable_neg_pred), (λ a. refl))
    of_one spanned.Opt s x j d = ((λ z. nullable_opt), (λ a. refl))
    of_one spanned.Rep s x j d = ((λ z. nullable_rep), (λ a. refl))
    of_one (spanned.RepMax n) s x j d = ((λ z. nullable_rep_max), (λ a. refl))
    of_one spanned.RepOnce s x j d = ((λ z. nullable_rep_once (d.0 z)), (λ a. d.1 (once_null a)))
    of_one spanned.Push s x j d = ((λ z. nullable_push (d.0 z)), (λ a. d.1 (push_null a)))
    of_one (spanned.Tag t) s x j d = ((λ z. nullable_tag (d.0 z)), (λ a. d.1 (tag_null a)))
    of_one (spanned.RepExact n) s x j d = of_counted n j (IsNullable other (RepExact (without_spans x) n)) (IsNullable other (without_spans x)) d
        (λ h. none_or n (λ m. IsNullable other (RepExact (without_spans x) m)) nullable_exact_zero (inl h)) (λ b. nullable_exact b) (λ a. exact_null a)
    of_one (spanned.RepMin n) s x j d = of_repeated n j (IsNullable other (RepMin (without_spans x) n)) (IsNullable other (without_spans x)) d
        (λ h. none_or n (λ m. IsNullable other (RepMin (without_spans x) m)) nullable_min_zero (inl h)) (λ b. nullable_min b) (λ a. min_null a)
    of_one (spanned.RepMinMax m n) s x j d = of_counted m j (IsNullable other (RepMinMax (without_spans x) m n)) (IsNullable other (without_spans x)) d
        (λ h. none_or m (λ k. IsNullable other (RepMinMax (without_spans x) k n)) nullable_min_max_zero (inl h)) (λ b. nullable_min_max b) (λ a. min_max_null a)

    abbrev nodes : List Spanned
    nodes = all_nodes rules

    abbrev roots : List ℕ
    roots = facts.table.roots.items

    of_node : (i : ℕ) (k : NodeKind) (x : Spanned) → IsNodeOf rules roots v i x → Fits (kind_in G) nodes i k x → IsSettled facts levels v root k
        → ((j : ℕ) (y : Spanned) → IsNodeOf rules roots v j y → j < i → Decides (p j) (IsNullable other (without_spans y))) → Answers k (without_spans x)
    of_node i k (Leaf s e) place fit settled inner = subst (λ z. Answers z e) (sym fit.1) (of_leaf e fit.0 (subst (λ z. IsSettled facts levels v root z) fit.1 settled))
    of_node i k (One s f x) place fit settled inner = subst (λ z. Answers z (without_spans (One s f x))) (sym fit.3)
        (of_one f s x fit.0 (inner fit.0 x (node_inside rules roots right.tabled.roots v i fit.0 s f x place fit.2 fit.4) fit.1))
    of_node i k (Two s spanned.Seq x y) place fit settled inner = subst (λ z. Answers z (Seq (without_spans x) (without_spans y))) (sym fit.6)
        (and_decides (p fit.0) (p fit.1) _ _ _ (inner fit.0 x (node_first rules roots right.tabled.roots v i fit.0 fit.1 s spanned.Seq x y place fit.4 fit.7 fit.8) fit.2)
        (inner fit.1 y (node_second rules roots right.tabled.roots v i fit.1 s spanned.Seq x y place fit.5 fit.7) fit.3) (λ a b. nullable_seq a b) (λ d. seq_null d))
    of_node i k (Two s spanned.Choice x y) place fit settled inner = subst (λ z. Answers z (Choice (without_spans x) (without_spans y))) (sym fit.6)
        (or_decides (p fit.0) (p fit.1) _ _ _ (inner fit.0 x (node_first rules roots right.tabled.roots v i fit.0 fit.1 s spanned.Choice x y place fit.4 fit.7 fit.8) fit.2)
        (inner fit.1 y (node_second rules roots right.tabled.roots v i fit.1 s spanned.Choice x y place fit.5 fit.7) fit.3) (λ a. nullable_left a) (λ b. nullable_right b) (λ d. choice_null d))

-- 4. one flag more
pub own_none : (rules : List ParserRule) (roots : List ℕ) (flags : List Bool) (v : ℕ) → length flags ≡ first_of roots v → ArePassingSoFar rules roots flags v
own_none rules roots flags v e i r x at means node short = let a = node.first in let s = some_size x in absurd (omega arith)

pub own_more : (rules : List ParserRule) (facts : Facts) → AreFacts rules facts → (levels : List ℕ) → AllRest facts levels → (v root first : ℕ) → slice_get facts.table.roots.items v ≡ Some root → AreSettled facts levels v first root
    → (flags : List Bool) (b : Bool) → first ≤ length flags → length flags ≤ root → b ≡ own_answer_at facts v (is_set_at flags) (slice_get facts.table.kinds.items (length flags))
    → ArePassingSoFar rules facts.table.roots.items flags v → ArePassingSoFar rules facts.table.roots.items (flags ++ b ∷ []) v
own_more rules facts right levels rest v root first is_root settled flags b above within is_flag so_far i r x at means node short = go (lower_or_equal i (length flags) (let l = length_push flags b in omega arith))
  where
    go : Lower i (length flags) → Decides (is_set_at (flags ++ b ∷ []) i) (IsNullable (without r.name (grammar_of rules)) (without_spans x))
    go (lower l) = subst (λ z. Decides z (IsNullable (without r.name (grammar_of rules)) (without_spans x))) (sym (set_before flags b i l)) (so_far i r x at means node l)
    go (equal e) =
        let (kind, is_kind, fit) = right.tabled.nodes.fit i x node.node in
        let same : is_set_at (flags ++ b ∷ []) i ≡ own_answer facts v (is_set_at flags) kind =
        ap (is_set_at (flags ++ b ∷ [])) e ∙ (set_last flags b ∙ (is_flag ∙ ap (λ o. own_answer_at facts v (is_set_at flags) o) (ap (slice_get facts.table.kinds.items) (sym e) ∙ is_kind))) in
        subst (λ z. Decides z (IsNullable (without r.name (grammar_of rules)) (without_spans x))) (sym same)
        (of_node rules facts right levels rest v r at means root is_root (is_set_at flags) i kind x node fit (settled i (omega arith) (omega arith) kind is_kind)
        (λ j y place less. so_far j r y at means place (omega arith)))
