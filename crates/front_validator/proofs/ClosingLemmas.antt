-- A walk that closes is a cycle of left calls.
use Rattle.std.proofs.Common.{◌≡◌, inr, ◌<◌, ℕ, List, [], ◌∷◌, Option, Some, None, true, slice_get, length, refl, sym, ◌∙◌, ap, subst, arith}
use Rattle.std.specs.List.{Contains}
use Rattle.std.proofs.Math.ListN.{set}
use Rattle.std.proofs.lemmas.Option.{slice_get_within}
use Rattle.base_language.specs.Language.Text.{Text}
use Rattle.base_language.specs.Language.Expression.{Expression, Ident, Rule, Grammar, rule_of, last_place}
use Rattle.base_language.specs.Language.WellFormed.{Leads}
use Rattle.base_language.proofs.Basics.{one_item}
use Rattle.front_spanned.specs.Erasure.{without_spans, rule_without_spans}
use Rattle.front_spanned.specs.Nodes.{rule_view, rule_views}
use Rattle.front_spanned.specs.Spanned.{Spanned, Seq, Choice, SpannedRule}
use Rattle.front_spanned.specs.declared.node.ParserRule.{ParserRule}
use Rattle.base_graphs.specs.Least.{unset}
use Rattle.front_validator.specs.LeftRecursion.{Closed, Means, Walks, walks_over, walks_closing, walks_outside, walks_again, walks_into, walks_inside, walks_first, walks_second, walks_neither, walks_other}
use Rattle.front_analysis.specs.Names.{grammar_of}
use Rattle.front_validator.specs.Searching.{NeverComesBack}
use Rattle.front_validator.specs.Walk.{Walked, w_name, w_first, w_second, w_left, w_right, WalkLeads, w_at_once, w_by_way}
use Rattle.front_analysis.proofs.Resolved.{Named, absent, named, resolved}
use Rattle.front_validator.proofs.NoneWalks.{walked_round, in_rules, IsFine, flags_more, unset_flags, no_flags, none_walked}
use Rattle.front_validator.proofs.RegionLemmas.{got_rule}
use Rattle.front_validator.proofs.Walk.{leads, no_cycle}
use Rattle.front_validator.proofs.Reports.{begins_at}

module _ (rules : List ParserRule) (start : ℕ) where
  abbrev V : List SpannedRule
  V = rule_views rules

  abbrev G : Grammar
  G = grammar_of rules

  -- a name means the rule at its place
  rule_meant : (n : Text) (k : ℕ) (r : SpannedRule) → Means V n k → slice_get V k ≡ Some r → rule_of G n ≡ Some (rule_without_spans r)
  rule_meant n k r means at = go (last_place G n) means (resolved rules n)
    where
      go : (o : Option ℕ) → o ≡ Some k → Named rules n o → rule_of G n ≡ Some (rule_without_spans r)
      go o h (absent f) = cc
      go o h (named {r = m} rule here f) =
          let same : m ≡ k = cc in
          let (q, got, view) = got_rule rules k r at in
          let one : rule ≡ q = one_item (subst (λ z. slice_get rules z ≡ Some rule) same here) got in
          f ∙ ap (λ z. Some (rule_without_spans z)) (ap rule_view one ∙ view)

  -- the walk over an expression in the body of v comes to a call of the start, at once or by way of others
  data ReachesName (v : Text) (e : Expression) : Type 0 where
    at_once_to : (n : Text) → Walked G v e n → Means V n start → ReachesName v e
    by_way_of : (n m : Text) → Walked G v e n → WalkLeads G n m → Means V m start → ReachesName v e

  further : {v : Text} {a b : Expression} → ((n : Text) → Walked G v a n → Walked G v b n) → ReachesName v a → ReachesName v b
  further f (at_once_to n w m) = at_once_to n (f n w) m
  further f (by_way_of n k w l m) = by_way_of n k (f n w) l m

  through : (v n : Text) (r : SpannedRule) → rule_of G n ≡ Some (rule_without_spans r) → r.name ≡ n → ReachesName r.name (without_spans r.body) → ReachesName v (Ident n)
  through v n r e same (at_once_to k w m) = by_way_of n k w_name (w_at_once e (subst (λ z. Walked G z (without_spans r.body) k) same w)) m
  through v n r e same (by_way_of k j w l m) = by_way_of n j w_name (w_by_way (w_at_once e (subst (λ z. Walked G z (without_spans r.body) k) same w)) l) m

  reaches : {c : List ℕ} {v : Text} {x : Spanned} {o : Option Closed} → Walks V start c v x o → (z : Closed) → o ≡ Some z → ReachesName v (without_spans x)
  reaches (walks_over h) z e = cc
  reaches (walks_closing {n = n} m) z e = at_once_to n w_name m
  reaches (walks_outside h) z e = cc
  reaches (walks_again m a b) z e = cc
  reaches (walks_into {v = v} {n = n} {k = k} {r = r} means apart out at w) z e =
      let (q, got, name) = in_rules V n k means in
      through v n r (rule_meant n k r means at) (ap (λ y. y.name) (one_item at got) ∙ name) (reaches w z e)
  reaches (walks_inside {v = v} {f = f} w) z e = further (λ n d. walked_round V v f d) (reaches w z e)
  reaches (walks_first {f = Seq} w) z e = further (λ n d. w_first d) (reaches w z e)
  reaches (walks_first {f = Choice} w) z e = further (λ n d. w_left d) (reaches w z e)
  reaches (walks_second a p b) z e = further (λ n d. w_second p d) (reaches b z e)
  reaches (walks_neither a b) z e = cc
  reaches (walks_other a b) z e = further (λ n d. w_right d) (reaches b z e)

  -- a name that means the start is its name
  its_name : (r : SpannedRule) → slice_get V start ≡ Some r → (n : Text) → Means V n start → n ≡ r.name
  its_name r at n means = let (q, got, name) = in_rules V n start means in sym name ∙ ap (λ y. y.name) (one_item got at)

  pub closing_leads : (r : SpannedRule) (z : Closed) → slice_get V start ≡ Some r → Means V r.name start → Walks V start (start ∷ []) r.name r.body (Some z) → (n : Text) × Leads G n n
  closing_leads r z at means w = (r.name, leads G (go (reaches w z refl)))
    where
      e : rule_of G r.name ≡ Some (rule_without_spans r)
      e = rule_meant r.name start r means at

      go : ReachesName r.name (without_spans r.body) → WalkLeads G r.name r.name
      go (at_once_to n d m) = subst (λ y. WalkLeads G r.name y) (its_name r at n m) (w_at_once e d)
      go (by_way_of n k d l m) = subst (λ y. WalkLeads G r.name y) (its_name r at k m) (w_by_way (w_at_once e d) l)

  -- where no walk from a rule comes back to it, the walk over its body comes to none
  module _ (r : SpannedRule) (at : slice_get V start ≡ Some r) (means : Means V r.name start) (never : WalkLeads G r.name r.name → ⊥) where
    -- a rule to which the walk from the start leads
    abbrev IsReached : ℕ → Type 0
    IsReached k = (n : Text) × Means V n k × WalkLeads G r.name n

    apart : (n : Text) (k : ℕ) → Means V n k → WalkLeads G r.name n → k ≡ start → ⊥
    apart n k m l e = never (subst (λ z. WalkLeads G r.name z) (its_name r at n (subst (λ z. Means V n z) e m)) l)

    onward : (k : ℕ) (q : SpannedRule) → IsReached k → slice_get V k ≡ Some q → IsFine V start [] IsReached q.name (without_spans q.body)
    onward k q (n, m, l) here j (i, w, d) =
        let (p, got, name) = in_rules V n k m in
        let same : q.name ≡ n = ap (λ y. y.name) (one_item here got) ∙ name in
        let further = w_by_way l (w_at_once (rule_meant n k q m here) (subst (λ z. Walked G z (without_spans q.body) i) same w)) in
        (apart i j d further, inr (i, d, further))

    first : IsFine V start [] IsReached r.name (without_spans r.body)
    first j (i, w, d) = let l = w_at_once (rule_meant r.name start r means at) w in (apart i j d l, inr (i, d, l))

    nowhere : (k : ℕ) → Contains [] k → ⊥
    nowhere k (i, l, e) = omega arith

    pub none_comes : Walks V start (start ∷ []) r.name r.body None
    none_comes =
        let flags = set (unset_flags (length V)) start true in
        let f = flags_more (length V) [] (unset_flags (length V)) start (slice_get_within V start r at) (no_flags (length V)) in
        none_walked V start [] IsReached onward (unset flags) flags (start ∷ []) f (omega arith) (λ k h. absurd (nowhere k h)) r.name r.body first

-- where no walk comes back to its rule, no left calls do
pub none_leads : (rules : List ParserRule) (roots : List ℕ) → ((k : ℕ) → k < length rules → NeverComesBack rules roots k) → (n : Text) → Leads (grammar_of rules) n n → ⊥
none_leads rules roots f n l = no_cycle (grammar_of rules) never n l
  where
    go : (n : Text) (q : Rule) → rule_of (grammar_of rules) n ≡ Some q → WalkLeads (grammar_of rules) n n → (o : Option ℕ) → last_place (grammar_of rules) n ≡ o → Named rules n o → ⊥
    go n q e w o h (absent g) = let x = sym g ∙ e in cc
    go n q e w o h (named {r = k} rule at g) = f k (slice_get_within rules k rule at) n h w

    never : (n : Text) → WalkLeads (grammar_of rules) n n → ⊥
    never n w = let (q, e) = begins_at w in go n q e w (last_place (grammar_of rules) n) refl (resolved rules n)
