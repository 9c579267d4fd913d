-- Rules that are read from a text are of that text, and so is what the stack pass reports of them.
use Rattle.std.proofs.Common.{◌≡◌, inl, inr, ℕ, suc, List, [], ◌∷◌, Option, Some, None, refl, subst, arith}
use Rattle.std.specs.Bool.{⊤}
use Rattle.std.proofs.lemmas.List.Elements.{All-nil, All-cons}
use Rattle.std.proofs.lemmas.List.Sorted.{All-permutation}
use Rattle.base_language.specs.Language.State.{Trees}
use Rattle.front_spanned.specs.Erasure.{rules_without_spans}
use Rattle.front_spanned.specs.Spanned.{Span, Spanned, Leaf, One, Two, SpannedRule, placed}
use Rattle.front_reader.specs.Reading.{Category, Postfixed, done, more, Reads, barred, unbarred, one_alternative, choice, one_term, sequence, tagged, pos_pred, neg_pred, bare, grouped, leaf, pushed, literally_pushed, ReadsRule, line_doc, normal, modified, ReadsRules, end_of_input, grammar_doc, documented, defined}
use Rattle.front_stack_loops.specs.Certain.{AreReports, AreFound}
use Rattle.front_stack_domain.specs.Reported.{node_at}
use Rattle.front_stack_domain.specs.Reports.{Route, Here, First, Second, Inner, Turn, SkippingAltersStack}
use Rattle.front_stack_domain.specs.Stack.{In}
use Rattle.front_stack_domain.specs.Turns.{most_stacks}
use Rattle.front_validator.specs.Placed.{IsIn, AreIn, ArePiecesOf}
use Rattle.front_validator.proofs.PlacedLemmas.{at_one, its_span}

module _ (text : List ℕ) where
  placed_in : (s : Span) (x : Spanned) → s.text ≡ text → IsIn text x → IsIn text (placed s x)
  placed_in s (Leaf t e) e' h = e'
  placed_in s (One t f x) e h = (e, h.1)
  placed_in s (Two t f x y) e h = (e, h.1, h.2)

  -- 1. what is read
  postfixed_in : {x : Spanned} {us : Trees} {y : Spanned} → Postfixed text x us y → IsIn text x → IsIn text y
  postfixed_in done h = h
  postfixed_in (more p d) h = postfixed_in d (refl, h)

  read_in : {c : Category} {us : Trees} {x : Spanned} → Reads text c us x → IsIn text x
  read_in (barred d) = read_in d
  read_in (unbarred d) = read_in d
  read_in (one_alternative d) = read_in d
  read_in (choice a b d e) = (refl, read_in d, read_in e)
  read_in (one_term d) = read_in d
  read_in (sequence a b i j d e) = (refl, read_in d, read_in e)
  read_in (tagged d) = (refl, read_in d)
  read_in (pos_pred d) = (refl, read_in d)
  read_in (neg_pred d) = (refl, read_in d)
  read_in (bare d p) = postfixed_in p (read_in d)
  read_in (grouped {x = x} {y = y} d p) =
      let inside = postfixed_in p (placed_in _ x (its_span text x (read_in d)) (read_in d)) in
      placed_in _ y (its_span text y inside) inside
  read_in (leaf t) = refl
  read_in (pushed d) = (refl, read_in d)
  read_in literally_pushed = refl

  abbrev IfRule : Option SpannedRule → Type 0
  IfRule None = ⊤
  IfRule (Some r) = IsIn text r.body

  rule_in : {us : Trees} {o : Option SpannedRule} → ReadsRule text us o → IfRule o
  rule_in line_doc = tt
  rule_in (normal d) = read_in d
  rule_in (modified m d) = read_in d

  pub rules_in : {us : Trees} {rules : List SpannedRule} → ReadsRules text us rules → AreIn text rules
  rules_in end_of_input = All-nil (λ (r : SpannedRule). IsIn text r.body)
  rules_in (grammar_doc d) = rules_in d
  rules_in (documented a d) = rules_in d
  rules_in (defined {r = r} {rs = rs} a d) = All-cons (λ (q : SpannedRule). IsIn text q.body) r rs (rule_in a) (rules_in d)

  -- 2. what is reported
  node_in : (x : Spanned) (route : Route) (y : Spanned) → node_at x route ≡ Some y → IsIn text x → IsIn text y
  node_in (Leaf s e) Here y i h = let same : Leaf s e ≡ y = cc in subst (λ z. IsIn text z) same h
  node_in (One s f x) Here y i h = let same : One s f x ≡ y = cc in subst (λ z. IsIn text z) same h
  node_in (Two s f a b) Here y i h = let same : Two s f a b ≡ y = cc in subst (λ z. IsIn text z) same h
  node_in (Leaf s e) (First r) y i h = cc
  node_in (Leaf s e) (Second r) y i h = cc
  node_in (Leaf s e) (Inner r) y i h = cc
  node_in (Leaf s e) (Turn n r) y i h = cc
  node_in (One s f x) (First r) y i h = cc
  node_in (One s f x) (Second r) y i h = cc
  node_in (One s f x) (Inner r) y i h = node_in x r y i h.1
  node_in (One s f x) (Turn n r) y i h = node_in x r y i h.1
  node_in (Two s f a b) (First r) y i h = node_in a r y i h.1
  node_in (Two s f a b) (Second r) y i h = node_in b r y i h.2
  node_in (Two s f a b) (Inner r) y i h = cc
  node_in (Two s f a b) (Turn n r) y i h = cc

  module _ (rules : List SpannedRule) (are : AreIn text rules) where
    of_report : (spans : List Span) → AreFound rules spans → (s : Span) → In s spans → s.text ≡ text
    of_report spans plain s i = there
      where
        calm : SkippingAltersStack (rules_without_spans rules) → ⊥
        calm k = subst (λ z. In s z) (plain.silent k) i

        there : s.text ≡ text
        there =
            let (r, rule, at, certain) = (plain.plain calm).certain (suc most_stacks) (omega arith) s i in
            subst (λ z. z.text ≡ text) certain.place
            (its_span text certain.node (node_in rule.body certain.route certain.node certain.at (at_one (λ (q : SpannedRule). IsIn text q.body) rules r rule are at)))

    all_of : (spans : List Span) → ((s : Span) → In s spans → s.text ≡ text) → ArePiecesOf text spans
    all_of [] f = All-nil (λ (s : Span). s.text ≡ text)
    all_of (s ∷ spans) f = All-cons (λ (z : Span). z.text ≡ text) s spans (f s (inl refl)) (all_of spans (λ z i. f z (inr i)))

    pub reports_in : (spans : List Span) → AreReports rules spans → ArePiecesOf text spans
    reports_in spans found = All-permutation (λ (s : Span). s.text ≡ text) found.reports spans found.sorted.same (all_of found.reports (of_report found.reports found.plain))
