-- What is reported of left recursion, rule by rule.
use Rattle.std.proofs.Common.{Bor, ◌≡◌, ◌⊎◌, inl, inr, ℕ, zero, suc, ◌+◌, ◌<◌, ◌≤◌, List, [], ◌∷◌, ◌++◌, Option, Some, None, slice_get, length, string_bytes, refl, sym, ◌∙◌, ap, subst, arith}
use Rattle.std.specs.List.{range_with_len}
use Rattle.std.specs.Option.{option_map}
use Rattle.std.proofs.lemmas.List.{length-map}
use Rattle.std.specs.Slice.{IsItemAt}
use Rattle.std.proofs.lemmas.Option.{slice_get-map, slice_get_past, slice_get_read}
use Rattle.std.proofs.lemmas.Str.{encodes-chars, IsUtf8-string_bytes}
use Rattle.base_graphs.proofs.LeastLemmas.{item_at}
use Rattle.base_language.specs.Language.Text.{Text}
use Rattle.base_language.specs.Language.WellFormed.{Leads}
use Rattle.base_language.specs.Language.Expression.{last_place}
use Rattle.front_spanned.specs.Nodes.{rule_view, rule_views}
use Rattle.front_spanned.specs.Spanned.{Span, SpannedRule}
use Rattle.front_spanned.specs.declared.node.ParserRule.{ParserRule}
use Rattle.front_validator.specs.Findings.{Finding, found_at, Reports, reports_none, reports_at, OfRecursion, recursive, not_recursive, hidden, places}
use Rattle.front_validator.specs.LeftRecursion.{said, Means, Walks, name_at, trail_message}
use Rattle.front_analysis.specs.Names.{grammar_of}
use Rattle.front_validator.proofs.ClosingLemmas.{closing_leads, none_comes}
use Rattle.front_validator.proofs.ReportingLemmas.{reports_more}
use Rattle.front_validator.proofs.SearchLemmas.{same_place, other_place, compared}
use Rattle.front_validator.proofs.Walk.{no_walk}

-- 1. places one after another
range_end : (a n : ℕ) → range_with_len a (suc n) ≡ range_with_len a n ++ (a + n) ∷ []
range_end a zero = ap (λ z. z ∷ []) (let e : a ≡ a + 0 = omega arith in e)
range_end a (suc n) = ap (λ l. a ∷ l) (range_end (a + 1) n ∙ ap (λ z. range_with_len (a + 1) n ++ z ∷ []) (let e : a + 1 + n ≡ a + suc n = omega arith in e))

range_more : (n : ℕ) → range_with_len 0 (n + 1) ≡ range_with_len 0 n ++ n ∷ []
range_more n = ap (λ z. range_with_len 0 z) (let e : n + 1 ≡ suc n = omega arith in e)
    ∙ (range_end 0 n ∙ ap (λ z. range_with_len 0 n ++ z ∷ []) (let e : 0 + n ≡ n = omega arith in e))

pub place_more : (R : ℕ → List Finding → Type 0) (n : ℕ) (fs gs hs : List Finding) → Reports R (range_with_len 0 n) fs → R n gs → hs ≡ fs ++ gs → Reports R (range_with_len 0 (n + 1)) hs
place_more R n fs gs hs h r e = subst (λ z. Reports R z hs) (sym (range_more n)) (subst (λ z. Reports R (range_with_len 0 n ++ n ∷ []) z) (sym e) (reports_more R h n gs r))

none_in_range : (R : ℕ → List Finding → Type 0) (a n : ℕ) → ((k : ℕ) → k < a + n → R k []) → Reports R (range_with_len a n) []
none_in_range R a zero f = reports_none
none_in_range R a (suc n) f = reports_at (f a (omega arith)) (none_in_range R (a + 1) n (λ k h. f k (omega arith)))

pub all_below : (P : ℕ → Type 0) (n : ℕ) → ((k : ℕ) → k < n → P k) → P n → (k : ℕ) → k < n + 1 → P k
all_below P n f p k h = elim (compared k n) [ same_place e ↦ subst P (sym e) p | other_place g ↦ f k (let d = λ (e : k ≡ n). g e in apart_below k n h d) ]
  where
    apart_below : (k n : ℕ) → k < n + 1 → (k ≡ n → ⊥) → k < n
    apart_below zero zero h d = absurd (d refl)
    apart_below zero (suc n) h d = omega arith
    apart_below (suc k) zero h d = absurd (omega arith)
    apart_below (suc k) (suc n) h d = let r = apart_below k n (omega arith) (λ e. d (ap suc e)) in omega arith

-- 2. rules of code
module _ (rules : List ParserRule) where
  abbrev V : List SpannedRule
  V = rule_views rules

  pub as_many : length V ≡ length rules
  as_many = length-map rules rule_view

  means_or_not : (n : Text) (k : ℕ) → Means V n k ⊎ (Means V n k → ⊥)
  means_or_not n k = go (last_place (said V) n) refl
    where
      go : (o : Option ℕ) → last_place (said V) n ≡ o → Means V n k ⊎ (Means V n k → ⊥)
      go None e = inr (λ h. let x = sym e ∙ h in cc)
      go (Some m) e = elim (compared m k) [
        | same_place f ↦ inl (e ∙ ap Some f)
        | other_place f ↦ inr (λ h. let x = sym e ∙ h in f cc)
      ]

  pub view_at : (k : ℕ) → k < length rules → (r : SpannedRule) × (slice_get V k ≡ Some r)
  view_at k h = item_at V k (let e = as_many in omega arith)

  -- the message of code says what is to be said
  pub told_right : (k : ℕ) (r q : SpannedRule) (trail used message : List ℕ) (call here : Span) → slice_get V k ≡ Some r → Means V r.name k → Walks V k (k ∷ []) r.name r.body (Some (record { trail = trail; call = call }))
      → used ≡ trail → q ≡ r → here ≡ call → message ≡ trail_message V q (record { trail = used; call = here }) → OfRecursion V k (found_at here message ∷ [])
  told_right k r q trail used message call here at means w as_used as_rule as_call as_told =
      let walk = subst (λ z. Walks V k (k ∷ []) r.name r.body (Some (record { trail = z; call = here }))) (sym as_used)
      (subst (λ z. Walks V k (k ∷ []) r.name r.body (Some (record { trail = trail; call = z }))) (sym as_call) w) in
      subst (λ z. OfRecursion V k (found_at here z ∷ [])) (sym (as_told ∙ ap (λ z. trail_message V z (record { trail = used; call = here })) as_rule)) (recursive at means walk)

  -- the names of rules
  pub name_there : (k : ℕ) (rule : ParserRule) → slice_get rules k ≡ Some rule → name_at (slice_get V k) ≡ string_bytes rule.name
  name_there k rule at = ap name_at (slice_get-map rule_view rules k ∙ ap (option_map rule_view) at) ∙ encodes-chars (string_bytes rule.name) (IsUtf8-string_bytes rule.name)

  pub no_name : (k : ℕ) → length rules ≤ k → name_at (slice_get V k) ≡ []
  no_name k h = ap name_at (slice_get_past V k (let e = as_many in omega arith))

  pub lent_name : (k : ℕ) (rule : Bor ParserRule) → IsItemAt rules k (Some rule) → string_bytes rule.now.name ≡ name_at (slice_get V k)
  lent_name k rule h = sym (name_there k rule.now (slice_get_read rules (length rules) k rule.now refl h.3.0 h.1))

  -- where left calls have no cycle, nothing is found
  pub none_found : ((n : Text) → Leads (grammar_of rules) n n → ⊥) → Reports (OfRecursion V) (places V) []
  none_found f = none_in_range (OfRecursion V) 0 (length V) (λ k h. let (r, at) = item_at V k (omega arith) in
      elim (means_or_not r.name k) [
        | inl means ↦ not_recursive at means (none_comes rules k r at means (no_walk (grammar_of rules) f r.name))
        | inr out ↦ hidden at out
      ])

  -- what is found is a cycle
  of_cycle : {k : ℕ} {fs : List Finding} → OfRecursion V k fs → (fs ≡ []) ⊎ ((n : Text) × Leads (grammar_of rules) n n)
  of_cycle (recursive {k = k} {r = r} {closed = z} at means w) = inr (closing_leads rules k r z at means w)
  of_cycle (not_recursive at means w) = inl refl
  of_cycle (hidden at out) = inl refl

  pub some_found : {ks : List ℕ} {fs : List Finding} → Reports (OfRecursion V) ks fs → (fs ≡ [] → ⊥) → (n : Text) × Leads (grammar_of rules) n n
  some_found reports_none h = absurd (h refl)
  some_found (reports_at {fs = fs} {gs = gs} d t) h = elim (of_cycle d) [
    | inl e ↦ some_found t (λ g. h (ap (λ z. z ++ gs) e ∙ g))
    | inr c ↦ c
  ]
