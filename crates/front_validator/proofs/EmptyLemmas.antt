-- Where nothing is found, rules are well-formed.
use Rattle.std.proofs.Common.{◌≡◌, ℕ, zero, suc, List, [], ◌∷◌, ◌++◌, Some, Bool, true, false, if◌then◌else◌, nat_eq, slice_get, length, refl, sym, ◌∙◌, ap, subst, arith}
use Rattle.std.proofs.lemmas.Option.{slice_get_within, slice_get-map}
use Rattle.std.specs.Option.{option_map}
use Rattle.base_language.specs.Language.Text.{Text}
use Rattle.base_language.specs.Language.Expression.{Expression, Rule, Grammar, rule_of}
use Rattle.base_language.specs.Language.WellFormed.{IsNullable, Leads, at_once, by_way, IsWellFormed}
use Rattle.base_language.proofs.Basics.{clash}
use Rattle.front_spanned.specs.Erasure.{without_spans}
use Rattle.front_spanned.specs.Nodes.{view, rule_view, rule_views}
use Rattle.front_spanned.specs.Spanned.{Span, Spanned, Leaf, One, Two, Unary, PosPred, NegPred, Opt, Rep, RepOnce, RepExact, RepMin, RepMax, RepMinMax, Push, Tag, Seq, Choice, SpannedRule}
use Rattle.front_spanned.specs.declared.node.ParserRule.{ParserRule}
use Rattle.base_graphs.specs.Least.{is_set_at}
use Rattle.base_graphs.proofs.LeastLemmas.{item_at}
use Rattle.front_validator.specs.Taking.{RepeatedTakes, AllRepeatedTake, SkippedTake}
use Rattle.front_analysis.specs.Facts.{AreFacts}
use Rattle.front_validator.specs.Findings.{Finding, Reports, reports_none, reports_at, OfRepeated, never_fails, takes_nothing, goes_on, OfRepetition, repetition, no_repetition, OfSkipped, skipped, not_skipped, is_endless, is_repetition, is_skipped_name}
use Rattle.front_analysis.specs.Names.{grammar_of}
use Rattle.front_analysis.specs.NameKinds.{kind_in}
use Rattle.front_analysis.specs.Nodes.{all_nodes}
use Rattle.front_analysis.specs.Kinds.{Fits, wrap_kind, wrap_of, Represents}
use Rattle.front_analysis.specs.declared.facts.Facts.{Facts}
use Rattle.front_analysis.specs.declared.kinds.Wrap.TheVariants as wraps
use Rattle.front_analysis.specs.declared.kind_table.NodeKind.{NodeKind}
use Rattle.front_validator.proofs.Accepting.{well_formed}
use Rattle.front_validator.proofs.ReportingLemmas.{leaf_kinds, says_at}
use Rattle.front_analysis.proofs.Tying.{says}

pub empty_first : {A : Type 0} (xs ys : List A) → xs ++ ys ≡ [] → xs ≡ []
empty_first [] ys h = refl
empty_first (x ∷ xs) ys h = cc

pub empty_second : {A : Type 0} (xs ys : List A) → xs ++ ys ≡ [] → ys ≡ []
empty_second [] ys h = h
empty_second (x ∷ xs) ys h = cc

-- where nothing is found of all, nothing is found of each
pub reports_empty : {X : Type 0} (R : X → List Finding → Type 0) {xs : List X} {fs : List Finding} → Reports R xs fs → fs ≡ [] → (i : ℕ) (x : X) → slice_get xs i ≡ Some x → R x []
reports_empty R reports_none e i x g = cc
reports_empty R (reports_at {x = y} {fs = fs} {gs = gs} h t) e zero x g = let same : y ≡ x = cc in subst (λ z. R z []) same (subst (λ z. R y z) (empty_first fs gs e) h)
reports_empty R (reports_at {fs = fs} {gs = gs} h t) e (suc i) x g = reports_empty R t (empty_second fs gs e) i x g

module _ (g : Grammar) where
  pub none_repeated : {subject : List ℕ} {place : Span} {e : Expression} {fs : List Finding} → OfRepeated g subject place e fs → fs ≡ [] → IsNullable g e → ⊥
  none_repeated (never_fails d) h n = cc
  none_repeated (takes_nothing d m) h n = cc
  none_repeated (goes_on f) h n = f n

  pub none_repetition : {x : Spanned} {fs : List Finding} → OfRepetition g x fs → fs ≡ [] → (s : Span) (f : Unary) (y : Spanned) → x ≡ One s f y → is_endless f ≡ true → IsNullable g (without_spans y) → ⊥
  none_repetition (repetition {x = z} h d) e s f y m q n = let same : y ≡ z = cc in none_repeated d e (subst (λ w. IsNullable g (without_spans w)) same n)
  none_repetition (no_repetition h) e s f y m q n = clash (is_endless f) q (ap is_repetition (sym m) ∙ h)

  pub none_skipped : {r : SpannedRule} {fs : List Finding} → OfSkipped g r fs → fs ≡ [] → is_skipped_name r.name ≡ true → IsNullable g (without_spans r.body) → ⊥
  none_skipped (skipped h d) e q n = none_repeated d e n
  none_skipped {r} (not_skipped h) e q n = clash (is_skipped_name r.name) q h

module _ (rules : List ParserRule) (facts : Facts) (right : AreFacts rules facts) where
  abbrev G : Grammar
  G = grammar_of rules

  not_null : (j : ℕ) (e : Expression) → Represents (kind_in G) facts.table.kinds.items j e → (IsNullable G e → ⊥) → is_set_at facts.nullable.items j ≡ false
  not_null j e s f = go (is_set_at facts.nullable.items j) refl
    where
      go : (b : Bool) → is_set_at facts.nullable.items j ≡ b → b ≡ false
      go true h = absurd (f ((right.nullable j e s).0 h))
      go false h = refl

  wrap_takes : (s : Span) (f : Unary) (y : Spanned) (j : ℕ) → slice_get (all_nodes rules) j ≡ Some y → OfRepetition G (One s f y) [] → RepeatedTakes facts (wrap_kind (wrap_of f) j)
  wrap_takes s PosPred y j e d = tt
  wrap_takes s NegPred y j e d = tt
  wrap_takes s Opt y j e d = tt
  wrap_takes s Push y j e d = tt
  wrap_takes s (Tag t) y j e d = tt
  wrap_takes s (RepMax n) y j e d = tt
  wrap_takes s Rep y j e d = not_null j (without_spans y) (says_at rules facts right j y e) (none_repetition G d refl s Rep y refl refl)
  wrap_takes s RepOnce y j e d = not_null j (without_spans y) (says_at rules facts right j y e) (none_repetition G d refl s RepOnce y refl refl)
  wrap_takes s (RepExact n) y j e d = go (nat_eq n 0)
    where
      go : (b : Bool) → RepeatedTakes facts (wrap_kind (if b then wraps.Free else wraps.Inside) j)
      go true = tt
      go false = tt
  wrap_takes s (RepMinMax m n) y j e d = go (nat_eq m 0)
    where
      go : (b : Bool) → RepeatedTakes facts (wrap_kind (if b then wraps.Free else wraps.Inside) j)
      go true = tt
      go false = tt
  wrap_takes s (RepMin n) y j e d = go (nat_eq n 0)
    where
      go : (b : Bool) → RepeatedTakes facts (wrap_kind (if b then wraps.Again else wraps.OnceAgain) j)
      go true = not_null j (without_spans y) (says_at rules facts right j y e) (none_repetition G d refl s (RepMin n) y refl refl)
      go false = not_null j (without_spans y) (says_at rules facts right j y e) (none_repetition G d refl s (RepMin n) y refl refl)

  kind_takes : (i : ℕ) (x : Spanned) (k : NodeKind) → Fits (kind_in G) (all_nodes rules) i k x → OfRepetition G x [] → RepeatedTakes facts k
  kind_takes i (Leaf s e) k fit d = subst (λ z. RepeatedTakes facts z) (sym fit.1) (leaf_kinds (λ z. RepeatedTakes facts z) tt tt tt (λ r. tt) (λ r. tt) G e)
  kind_takes i (One s f y) k fit d = subst (λ z. RepeatedTakes facts z) (sym fit.3) (wrap_takes s f y fit.0 fit.2 d)
  kind_takes i (Two s Seq x y) k fit d = subst (λ z. RepeatedTakes facts z) (sym fit.6) tt
  kind_takes i (Two s Choice x y) k fit d = subst (λ z. RepeatedTakes facts z) (sym fit.6) tt

  all_take : {fs : List Finding} → Reports (OfRepetition G) (all_nodes rules) fs → fs ≡ [] → AllRepeatedTake facts
  all_take h e i k at =
      let w = slice_get_within facts.table.kinds.items i k at in
      let n = right.tabled.nodes.alike in
      let (x, here) = item_at (all_nodes rules) i (omega arith) in
      let (q, is_q, fit) = right.tabled.nodes.fit i x here in
      let same : q ≡ k = (let m = sym is_q ∙ at in cc) in
      subst (λ z. RepeatedTakes facts z) same (kind_takes i x q fit (reports_empty (OfRepetition G) h e i x here))

  skipped_take : {fs : List Finding} → Reports (OfSkipped G) (rule_views rules) fs → fs ≡ [] → SkippedTake rules facts
  skipped_take h e r rule i at root name =
      let here : slice_get (rule_views rules) r ≡ Some (rule_view rule) = slice_get-map rule_view rules r ∙ ap (option_map rule_view) at in
      let d = reports_empty (OfSkipped G) h e r (rule_view rule) here in
      let s = says (kind_in G) facts.table.kinds.items i (view rule.node) (right.table.stand r i rule at root) in
      not_null i (without_spans (view rule.node)) s (none_skipped G d refl name)

  pub empty_well_formed : (fs gs hs ks : List Finding) → Reports (OfRepetition G) (all_nodes rules) fs → Reports (OfSkipped G) (rule_views rules) hs → (ks ≡ [] → (n : Text) → Leads G n n → ⊥) → fs ++ (gs ++ (hs ++ ks)) ≡ [] → IsWellFormed G
  empty_well_formed fs gs hs ks a c d e =
      let u = empty_second fs (gs ++ (hs ++ ks)) e in
      let v = empty_second gs (hs ++ ks) u in
      well_formed rules facts right (all_take a (empty_first fs (gs ++ (hs ++ ks)) e)) (skipped_take c (empty_first hs ks v)) (d (empty_second hs ks v))

starts : {g : Grammar} {n k : Text} → Leads g n k → (r : Rule) × (rule_of g n ≡ Some r)
starts (at_once {r = r} e l) = (r, e)
starts (by_way a b) = starts a

-- without rules there are no left calls
pub no_rules : (rs : List ParserRule) → length rs ≡ 0 → (n : Text) → Leads (grammar_of rs) n n → ⊥
no_rules [] h n l = let (r, e) = starts l in cc
no_rules (x ∷ rs) h n l = absurd (omega arith)
