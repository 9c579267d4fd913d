-- What is reported by the facts is what is found.
use Rattle.std.proofs.Common.{length, ◌≡◌, ℕ, ◌+◌, ◌<◌, List, [], ◌∷◌, ◌++◌, take, get_or, Option, Some, None, Bool, true, false, if◌then◌else◌, nat_eq, slice_get, refl, sym, ◌∙◌, ap, subst, string_bytes}
use Rattle.std.specs.Option.{option_map}
use Rattle.std.proofs.lemmas.List.{append_assoc, append-nil, take_more, map-append}
use Rattle.std.proofs.lemmas.Option.{slice_get_within, get_or_from_slice_get, slice_get-map}
use Rattle.std.proofs.lemmas.Str.{encodes-chars, IsUtf8-string_bytes}
use Rattle.base_ast.specs.Ast.{text_of}
use Rattle.base_language.specs.Language.Expression as bare
use Rattle.base_language.specs.Language.Expression.{Expression, Grammar, last_place}
use Rattle.base_language.specs.declared.runtime.places.Span as code_span
use Rattle.base_language.proofs.Basics.{clash, got_alike}
use Rattle.front_spanned.specs.Erasure.{without_spans}
use Rattle.front_spanned.specs.Nodes.{view, piece_of, rule_view, rule_views}
use Rattle.front_spanned.specs.Spanned.{Span, span_of, Spanned, Leaf, One, Two, Unary, PosPred, NegPred, Opt, Rep, RepOnce, RepExact, RepMin, RepMax, RepMinMax, Push, Tag, Seq, Choice}
use Rattle.front_spanned.specs.declared.node.ParserRule.{ParserRule}
use Rattle.front_spanned.proofs.Places.{span_at}
use Rattle.base_graphs.specs.Least.{is_set_at}
use Rattle.base_graphs.proofs.LeastLemmas.{item_at}
use Rattle.front_names.specs.Messages.{cannot_fail, non_progressing, repeated_expression, unreachable_choices}
use Rattle.front_analysis.specs.Facts.{AreFacts}
use Rattle.front_validator.specs.Findings.{Finding, found_at, is_skipped_name, last_alternative, Reports, reports_none, reports_at, OfRepeated, never_fails, takes_nothing, goes_on, OfRepetition, repetition, no_repetition, OfChoice, unreachable, reachable, no_choice, OfSkipped, skipped, not_skipped}
use Rattle.front_analysis.specs.Names.{grammar_of, is_end}
use Rattle.front_analysis.specs.NameKinds.{kind_in, name_kind}
use Rattle.front_analysis.specs.Nodes.{all_nodes}
use Rattle.front_analysis.specs.Kinds.{Represents, Fits, leaf_kind, wrap_kind, wrap_of}
use Rattle.front_validator.specs.Reporting.{AreSpans, repeated_at, repetition_at, alternative_of, alternative_at, unreachable_at, choice_at, skipped_at}
use Rattle.front_analysis.specs.declared.facts.Facts.{Facts}
use Rattle.front_analysis.specs.declared.kinds.Wrap.{Wrap}
use Rattle.front_analysis.specs.declared.kinds.Wrap.TheVariants as wraps
use Rattle.front_analysis.specs.declared.kind_table.NodeKind.{NodeKind}
use Rattle.front_analysis.specs.declared.kind_table.NodeKind.TheVariants as is
use Rattle.front_analysis.proofs.Tying.{stands_at, says}

-- 1. one more is looked at
pub reports_more : {X : Type 0} (R : X → List Finding → Type 0) {xs : List X} {fs : List Finding} → Reports R xs fs → (x : X) (gs : List Finding) → R x gs → Reports R (xs ++ x ∷ []) (fs ++ gs)
reports_more R reports_none x gs r = subst (λ z. Reports R (x ∷ []) z) (append-nil gs) (reports_at r reports_none)
reports_more R (reports_at {x = y} {xs = ys} {fs = hs} {gs = ks} h t) x gs r = subst (λ z. Reports R (y ∷ (ys ++ x ∷ [])) z) (sym (append_assoc hs ks gs)) (reports_at h (reports_more R t x gs r))

pub report_step : {X : Type 0} (R : X → List Finding → Type 0) (xs : List X) (i : ℕ) (x : X) (fs gs : List Finding) → slice_get xs i ≡ Some x → Reports R (take i xs) fs → R x gs → Reports R (take (i + 1) xs) (fs ++ gs)
report_step R xs i x fs gs e h r =
    let w = slice_get_within xs i x e in
    let g : get_or xs i x ≡ x = get_or_from_slice_get xs i x x e in
    subst (λ z. Reports R z (fs ++ gs)) (sym (take_more xs i x w ∙ ap (λ y. take i xs ++ y ∷ []) g)) (reports_more R h x gs r)

-- 2. kinds of names and of expressions without operands
name_kinds : (P : NodeKind → Type 0) → P is.Taking → P is.End → ((r : ℕ) → P (is.Call r)) → ((r : ℕ) → P (is.EndCall r)) → (b : Bool) (o : Option ℕ) → P (name_kind b o)
name_kinds P t e c d true None = e
name_kinds P t e c d false None = t
name_kinds P t e c d true (Some r) = d r
name_kinds P t e c d false (Some r) = c r

pub leaf_kinds : (P : NodeKind → Type 0) → P is.Taking → P is.Still → P is.End → ((r : ℕ) → P (is.Call r)) → ((r : ℕ) → P (is.EndCall r)) → (g : Grammar) (e : Expression) → P (leaf_kind (kind_in g) e)
leaf_kinds P t s e c d g (bare.Str []) = s
leaf_kinds P t s e c d g (bare.Str (a ∷ u)) = t
leaf_kinds P t s e c d g (bare.Insens []) = s
leaf_kinds P t s e c d g (bare.Insens (a ∷ u)) = t
leaf_kinds P t s e c d g (bare.Ident n) = name_kinds P t e c d (is_end n) (last_place g n)
leaf_kinds P t s e c d g (bare.Range u v) = t
leaf_kinds P t s e c d g (bare.PeekSlice i j) = t
leaf_kinds P t s e c d g (bare.PosPred x) = t
leaf_kinds P t s e c d g (bare.NegPred x) = t
leaf_kinds P t s e c d g (bare.Seq x y) = t
leaf_kinds P t s e c d g (bare.Choice x y) = t
leaf_kinds P t s e c d g (bare.Opt x) = t
leaf_kinds P t s e c d g (bare.Rep x) = t
leaf_kinds P t s e c d g (bare.RepOnce x) = t
leaf_kinds P t s e c d g (bare.RepExact x n) = t
leaf_kinds P t s e c d g (bare.RepMin x n) = t
leaf_kinds P t s e c d g (bare.RepMax x n) = t
leaf_kinds P t s e c d g (bare.RepMinMax x m n) = t
leaf_kinds P t s e c d g (bare.Skip ts) = t
leaf_kinds P t s e c d g (bare.Push x) = t
leaf_kinds P t s e c d g (bare.PushLiteral u) = s
leaf_kinds P t s e c d g (bare.NodeTag x u) = t
leaf_kinds P t s e c d g (bare.RestoreOnErr x) = t

wrap_kinds : (P : NodeKind → Type 0) → ((j : ℕ) → P (is.Ahead j)) → ((j : ℕ) → P (is.NotAhead j)) → ((j : ℕ) → P (is.Free j)) → ((j : ℕ) → P (is.Inside j)) → ((j : ℕ) → P (is.Again j)) → ((j : ℕ) → P (is.OnceAgain j)) → (w : Wrap) (j : ℕ) → P (wrap_kind w j)
wrap_kinds P a b c d e f wraps.Ahead j = a j
wrap_kinds P a b c d e f wraps.NotAhead j = b j
wrap_kinds P a b c d e f wraps.Free j = c j
wrap_kinds P a b c d e f wraps.Inside j = d j
wrap_kinds P a b c d e f wraps.Again j = e j
wrap_kinds P a b c d e f wraps.OnceAgain j = f j

module _ (rules : List ParserRule) (facts : Facts) (right : AreFacts rules facts) where
  abbrev G : Grammar
  G = grammar_of rules

  abbrev nodes : List Spanned
  nodes = all_nodes rules

  abbrev kinds : List NodeKind
  kinds = facts.table.kinds.items

  pub says_at : (i : ℕ) (x : Spanned) → slice_get nodes i ≡ Some x → Represents (kind_in G) kinds i (without_spans x)
  says_at i x e = says (kind_in G) kinds i x (stands_at (kind_in G) nodes kinds right.tabled.nodes x i e)

  -- 3. repetitions
  repeated_right : (subject : List ℕ) (place : Span) (i : ℕ) (e : Expression) → Represents (kind_in G) kinds i e → OfRepeated G subject place e (repeated_at facts subject place i)
  repeated_right subject place i e s = go (is_set_at facts.certain.items i) refl (is_set_at facts.nullable.items i) refl
    where
      go : (b : Bool) → is_set_at facts.certain.items i ≡ b → (c : Bool) → is_set_at facts.nullable.items i ≡ c → OfRepeated G subject place e (if b then found_at place (cannot_fail subject) ∷ [] else if c then found_at place (non_progressing subject) ∷ [] else [])
      go true h c k = never_fails ((right.certain i e s).0 h)
      go false h true k = takes_nothing (λ d. clash _ ((right.certain i e s).1 d) h) ((right.nullable i e s).0 k)
      go false h false k = goes_on (λ d. clash _ ((right.nullable i e s).1 d) k)

  abbrev AsRepetition : Spanned → NodeKind → Type 0
  AsRepetition x k = OfRepetition G x (repetition_at facts (span_of x) (Some k))

  wrap_repetition : (s : Span) (f : Unary) (x : Spanned) (j : ℕ) → slice_get nodes j ≡ Some x → AsRepetition (One s f x) (wrap_kind (wrap_of f) j)
  wrap_repetition s PosPred x j e = no_repetition refl
  wrap_repetition s NegPred x j e = no_repetition refl
  wrap_repetition s Opt x j e = no_repetition refl
  wrap_repetition s Push x j e = no_repetition refl
  wrap_repetition s (Tag t) x j e = no_repetition refl
  wrap_repetition s (RepMax n) x j e = no_repetition refl
  wrap_repetition s Rep x j e = repetition refl (repeated_right repeated_expression s j (without_spans x) (says_at j x e))
  wrap_repetition s RepOnce x j e = repetition refl (repeated_right repeated_expression s j (without_spans x) (says_at j x e))
  wrap_repetition s (RepExact n) x j e = go (nat_eq n 0)
    where
      go : (b : Bool) → AsRepetition (One s (RepExact n) x) (wrap_kind (if b then wraps.Free else wraps.Inside) j)
      go true = no_repetition refl
      go false = no_repetition refl
  wrap_repetition s (RepMinMax m n) x j e = go (nat_eq m 0)
    where
      go : (b : Bool) → AsRepetition (One s (RepMinMax m n) x) (wrap_kind (if b then wraps.Free else wraps.Inside) j)
      go true = no_repetition refl
      go false = no_repetition refl
  wrap_repetition s (RepMin n) x j e = go (nat_eq n 0)
    where
      go : (b : Bool) → AsRepetition (One s (RepMin n) x) (wrap_kind (if b then wraps.Again else wraps.OnceAgain) j)
      go true = repetition refl (repeated_right repeated_expression s j (without_spans x) (says_at j x e))
      go false = repetition refl (repeated_right repeated_expression s j (without_spans x) (says_at j x e))

  kind_repetition : (i : ℕ) (x : Spanned) (k : NodeKind) → Fits (kind_in G) nodes i k x → AsRepetition x k
  kind_repetition i (Leaf s e) k fit = subst (λ z. AsRepetition (Leaf s e) z) (sym fit.1)
      (subst (λ z. OfRepetition G (Leaf s e) z) (sym (leaf_kinds (λ z. repetition_at facts s (Some z) ≡ []) refl refl refl (λ r. refl) (λ r. refl) G e)) (no_repetition refl))
  kind_repetition i (One s f x) k fit = subst (λ z. AsRepetition (One s f x) z) (sym fit.3) (wrap_repetition s f x fit.0 fit.2)
  kind_repetition i (Two s Seq x y) k fit = subst (λ z. AsRepetition (Two s Seq x y) z) (sym fit.6) (no_repetition refl)
  kind_repetition i (Two s Choice x y) k fit = subst (λ z. AsRepetition (Two s Choice x y) z) (sym fit.6) (no_repetition refl)

  -- 4. choices
  kind_alternative : (j : ℕ) (x : Spanned) (k : NodeKind) → Fits (kind_in G) nodes j k x → slice_get nodes j ≡ Some x → slice_get nodes (alternative_of (Some k) j) ≡ Some (last_alternative x)
  kind_alternative j (Leaf s e) k fit at = subst (λ z. slice_get nodes (alternative_of (Some z) j) ≡ Some (Leaf s e)) (sym fit.1)
      (subst (λ z. slice_get nodes z ≡ Some (Leaf s e)) (sym (leaf_kinds (λ z. alternative_of (Some z) j ≡ j) refl refl refl (λ r. refl) (λ r. refl) G e)) at)
  kind_alternative j (One s f x) k fit at = subst (λ z. slice_get nodes (alternative_of (Some z) j) ≡ Some (One s f x)) (sym fit.3)
      (subst (λ z. slice_get nodes z ≡ Some (One s f x)) (sym (wrap_kinds (λ z. alternative_of (Some z) j ≡ j) (λ i. refl) (λ i. refl) (λ i. refl) (λ i. refl) (λ i. refl) (λ i. refl) (wrap_of f) fit.0)) at)
  kind_alternative j (Two s Seq x y) k fit at = subst (λ z. slice_get nodes (alternative_of (Some z) j) ≡ Some (Two s Seq x y)) (sym fit.6) at
  kind_alternative j (Two s Choice x y) k fit at = subst (λ z. slice_get nodes (alternative_of (Some z) j) ≡ Some y) (sym fit.6) fit.5

  alternative_right : (j : ℕ) (x : Spanned) → slice_get nodes j ≡ Some x → slice_get nodes (alternative_of (slice_get kinds j) j) ≡ Some (last_alternative x)
  alternative_right j x e = let (k, at, fit) = right.tabled.nodes.fit j x e in
      subst (λ o. slice_get nodes (alternative_of o j) ≡ Some (last_alternative x)) (sym at) (kind_alternative j x k fit e)

  module _ (spans : List code_span.Span) (are : AreSpans rules spans) where
    pub span_got : (a : ℕ) (z : Spanned) → slice_get nodes a ≡ Some z → (s : code_span.Span) × (slice_get spans a ≡ Some s) × (piece_of s ≡ span_of z)
    span_got a z e = go (slice_get spans a) refl (sym (slice_get-map piece_of spans a) ∙ (ap (λ l. slice_get l a) are ∙ (slice_get-map span_of nodes a ∙ ap (option_map span_of) e)))
      where
        go : (o : Option code_span.Span) → slice_get spans a ≡ o → option_map piece_of o ≡ Some (span_of z) → (s : code_span.Span) × (slice_get spans a ≡ Some s) × (piece_of s ≡ span_of z)
        go None h f = cc
        go (Some s) h f = (s, h, cc)

    node_got : (a : ℕ) (s : code_span.Span) → slice_get spans a ≡ Some s → (z : Spanned) × (slice_get nodes a ≡ Some z) × (span_of z ≡ piece_of s)
    node_got a s e = go (slice_get nodes a) refl (sym (slice_get-map span_of nodes a) ∙ (ap (λ l. slice_get l a) (sym are) ∙ (slice_get-map piece_of spans a ∙ ap (option_map piece_of) e)))
      where
        go : (o : Option Spanned) → slice_get nodes a ≡ o → option_map span_of o ≡ Some (piece_of s) → (z : Spanned) × (slice_get nodes a ≡ Some z) × (span_of z ≡ piece_of s)
        go None h f = cc
        go (Some z) h f = (z, h, cc)

    unreachable_right : (s : Span) (x y : Spanned) (a : ℕ) → slice_get nodes a ≡ Some (last_alternative x) → OfChoice G (Two s Choice x y) (unreachable_at facts spans a)
    unreachable_right s x y a e = let (p, at, same) = span_got a (last_alternative x) e in
        subst (λ o. OfChoice G (Two s Choice x y) (alternative_at facts a o)) (sym at) (go p same (is_set_at facts.certain.items a) refl)
      where
        go : (p : code_span.Span) → piece_of p ≡ span_of (last_alternative x) → (b : Bool) → is_set_at facts.certain.items a ≡ b → OfChoice G (Two s Choice x y) (if b then found_at (piece_of p) unreachable_choices ∷ [] else [])
        go p same true h = subst (λ z. OfChoice G (Two s Choice x y) (found_at z unreachable_choices ∷ [])) (sym same)
            (unreachable ((right.certain a (without_spans (last_alternative x)) (says_at a (last_alternative x) e)).0 h))
        go p same false h = reachable (λ d. clash _ ((right.certain a (without_spans (last_alternative x)) (says_at a (last_alternative x) e)).1 d) h)

    abbrev AsChoice : Spanned → NodeKind → Type 0
    AsChoice x k = OfChoice G x (choice_at facts spans (Some k))

    kind_choice : (i : ℕ) (x : Spanned) (k : NodeKind) → Fits (kind_in G) nodes i k x → AsChoice x k
    kind_choice i (Leaf s e) k fit = subst (λ z. AsChoice (Leaf s e) z) (sym fit.1)
        (subst (λ z. OfChoice G (Leaf s e) z) (sym (leaf_kinds (λ z. choice_at facts spans (Some z) ≡ []) refl refl refl (λ r. refl) (λ r. refl) G e)) (no_choice refl))
    kind_choice i (One s f x) k fit = subst (λ z. AsChoice (One s f x) z) (sym fit.3)
        (subst (λ z. OfChoice G (One s f x) z) (sym (wrap_kinds (λ z. choice_at facts spans (Some z) ≡ []) (λ j. refl) (λ j. refl) (λ j. refl) (λ j. refl) (λ j. refl) (λ j. refl) (wrap_of f) fit.0)) (no_choice refl))
    kind_choice i (Two s Seq x y) k fit = subst (λ z. AsChoice (Two s Seq x y) z) (sym fit.6) (no_choice refl)
    kind_choice i (Two s Choice x y) k fit = subst (λ z. AsChoice (Two s Choice x y) z) (sym fit.6)
        (unreachable_right s x y (alternative_of (slice_get kinds fit.0) fit.0) (alternative_right fit.0 x fit.4))

    pub repetition_step : (i : ℕ) (s : code_span.Span) (fs : List Finding) → slice_get spans i ≡ Some s → Reports (OfRepetition G) (take i nodes) fs → Reports (OfRepetition G) (take (i + 1) nodes) (fs ++ repetition_at facts (piece_of s) (slice_get kinds i))
    repetition_step i s fs e h = let (x, at, same) = node_got i s e in let (k, is_k, fit) = right.tabled.nodes.fit i x at in
        report_step (OfRepetition G) nodes i x fs _ at h
        (subst (λ o. OfRepetition G x (repetition_at facts (piece_of s) o)) (sym is_k) (subst (λ z. OfRepetition G x (repetition_at facts z (Some k))) same (kind_repetition i x k fit)))

    pub choice_step : (i : ℕ) (fs : List Finding) → i < length spans → Reports (OfChoice G) (take i nodes) fs → Reports (OfChoice G) (take (i + 1) nodes) (fs ++ choice_at facts spans (slice_get kinds i))
    choice_step i fs w h = let (s, e) = item_at spans i w in let (x, at, same) = node_got i s e in let (k, is_k, fit) = right.tabled.nodes.fit i x at in
        report_step (OfChoice G) nodes i x fs _ at h (subst (λ o. OfChoice G x (choice_at facts spans o)) (sym is_k) (kind_choice i x k fit))

  -- 5. rules that are skipped
  skipped_right : (r : ℕ) (rule : ParserRule) → slice_get rules r ≡ Some rule → OfSkipped G (rule_view rule) (skipped_at facts rule (slice_get facts.table.roots.items r))
  skipped_right r rule e = let (i, at) = got_alike rules facts.table.roots.items r rule e (sym right.table.alike) in
      subst (λ o. OfSkipped G (rule_view rule) (skipped_at facts rule o)) (sym at) (go i at (is_skipped_name (text_of rule.name)) refl)
    where
      go : (i : ℕ) → slice_get facts.table.roots.items r ≡ Some i → (b : Bool) → is_skipped_name (text_of rule.name) ≡ b → OfSkipped G (rule_view rule) (if b then repeated_at facts (string_bytes rule.name) (piece_of rule.node.span) i else [])
      go i at false h = not_skipped h
      go i at true h =
          let body = without_spans (view rule.node) in
          let found = repeated_at facts (string_bytes rule.name) (piece_of rule.node.span) i in
          let d = repeated_right (string_bytes rule.name) (piece_of rule.node.span) i body (says (kind_in G) kinds i (view rule.node) (right.table.stand r i rule e at)) in
          skipped h (subst (λ m. OfRepeated G m (span_of (view rule.node)) body found) (sym (encodes-chars (string_bytes rule.name) (IsUtf8-string_bytes rule.name)))
          (subst (λ p. OfRepeated G (string_bytes rule.name) p body found) (sym (span_at (piece_of rule.node.span) rule.node.expr)) d))

  taken_views : (rs : List ParserRule) (i : ℕ) (rule : ParserRule) → slice_get rs i ≡ Some rule → rule_views (take (i + 1) rs) ≡ rule_views (take i rs) ++ rule_view rule ∷ []
  taken_views rs i rule e = ap (λ z. rule_views z) (take_more rs i rule (slice_get_within rs i rule e) ∙ ap (λ y. take i rs ++ y ∷ []) (get_or_from_slice_get rs i rule rule e)) ∙ map-append rule_view (take i rs) (rule ∷ [])

  pub skipped_step : (i : ℕ) (rule : ParserRule) (fs : List Finding) → slice_get rules i ≡ Some rule → Reports (OfSkipped G) (rule_views (take i rules)) fs → Reports (OfSkipped G) (rule_views (take (i + 1) rules)) (fs ++ skipped_at facts rule (slice_get facts.table.roots.items i))
  skipped_step i rule fs e h = subst (λ z. Reports (OfSkipped G) z (fs ++ skipped_at facts rule (slice_get facts.table.roots.items i))) (sym (taken_views rules i rule e))
      (reports_more (OfSkipped G) h (rule_view rule) (skipped_at facts rule (slice_get facts.table.roots.items i)) (skipped_right i rule e))
