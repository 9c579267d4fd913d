-- Of rules the stack pass has one list of reports.
use Rattle.std.proofs.Common.{◌≡◌, ◌↔◌, List, [], ◌∷◌, ◌++◌, ◌<◌, ℕ, suc, Bool, true, false, map, length, inl, inr, refl, sym, ◌∙◌, ap, subst, arith}
use Rattle.std.proofs.Math.Path.{fun_ext}
use Rattle.std.proofs.lemmas.List.{nil_from_length}
use Rattle.std.proofs.lemmas.List.Sorted.{length_permutation}
use Rattle.base_language.specs.Language.Text.{Text}
use Rattle.front_spanned.specs.Erasure.{rules_without_spans}
use Rattle.front_spanned.specs.Spanned.{Span, Spanned, Leaf, One, Two, Unary, SpannedRule}
use Rattle.front_stack_loops.specs.Certain.{AreFound, AreRead, AreReports}
use Rattle.front_stack_loops.specs.Visiting.{AllReported}
use Rattle.front_stack_domain.specs.Reading as says
use Rattle.front_stack_domain.specs.Reported.{Own, ReportedFrom, ReportedIn}
use Rattle.front_stack_domain.specs.Reports.{SkippingAltersStack}
use Rattle.front_stack_domain.specs.Stack.{AbstractStack}
use Rattle.front_stack_domain.specs.Turns.{most_stacks}

module _ (limit turns : ℕ) (read : Spanned → AbstractStack → says.Reading) (nullable : Spanned → Bool) where
  own_once : (S : AbstractStack → Type 0) (t : Span) (f : Unary) (x : Spanned) (us ts vs : List Span)
      → Own limit turns read nullable S t f x us ts → Own limit turns read nullable S t f x us vs → ts ≡ vs
  own_once S t f x us ts vs (inl a) (inl b) = a.3 ∙ sym b.3
  own_once S t f x us ts vs (inl a) (inr b) = absurd (b.0 a.0 a.1 a.2)
  own_once S t f x us ts vs (inr a) (inl b) = absurd (a.0 b.0 b.1 b.2)
  own_once S t f x us ts vs (inr a) (inr b) = a.1 ∙ sym b.1

  -- what is reported in a node is one list
  reported_once : (x : Spanned) (S : AbstractStack → Type 0) (ts us : List Span)
      → ReportedIn limit turns read nullable S x ts → ReportedIn limit turns read nullable S x us → ts ≡ us
  reported_once (Leaf t e) S ts us a b = a ∙ sym b
  reported_once (One t f x) S ts us (inside, r, own) (other, q, too) =
      let same = reported_once x _ inside other r q in
      own_once S t f x other ts us (subst (λ z. Own limit turns read nullable S t f x z ts) same own) too
  reported_once (Two t f x y) S ts us (ls, bs, p, q, e) (cs, ds, r, s, g) =
      let first = reported_once x S ls cs p r in
      let second = reported_once y _ bs ds q s in
      e ∙ (ap (λ z. z ++ bs) first ∙ ap (λ z. cs ++ z) second) ∙ sym g

all_once : (R : Spanned → List Span → Type 0) → ((x : Spanned) (ts us : List Span) → R x ts → R x us → ts ≡ us)
    → (xs : List Spanned) (ts us : List Span) → AllReported R xs ts → AllReported R xs us → ts ≡ us
all_once R once [] ts us a b = a ∙ sym b
all_once R once (x ∷ xs) ts us (ls, bs, p, q, e) (cs, ds, r, s, g) =
    let first = once x ls cs p r in
    let second = all_once R once xs bs ds q s in
    e ∙ (ap (λ z. z ++ bs) first ∙ ap (λ z. cs ++ z) second) ∙ sym g

same_test : (a b : Bool) (P : Type 0) → (a ≡ true) ↔ P → (b ≡ true) ↔ P → a ≡ b
same_test true b P h k = sym (k.1 (h.0 refl))
same_test false true P h k = h.1 (k.0 refl)
same_test false false P h k = refl

from_once : (rules : List SpannedRule) (xs ys : List Span) (limit turns : ℕ) (recursive : Text → Bool) (nullable : Spanned → Bool)
    → AllReported (ReportedFrom limit turns recursive (rules_without_spans rules) nullable) (map (λ r. r.body) rules) xs
    → AllReported (ReportedFrom limit turns recursive (rules_without_spans rules) nullable) (map (λ r. r.body) rules) ys
    → xs ≡ ys
from_once rules xs ys limit turns recursive nullable a b =
    all_once (ReportedFrom limit turns recursive (rules_without_spans rules) nullable)
    (λ x ts us h k. reported_once limit turns _ nullable x _ ts us h k) (map (λ r. r.body) rules) xs ys a b

-- if the same names are taken for recursive
read_once : (rules : List SpannedRule) (xs ys : List Span) (a : AreRead rules xs) (b : AreRead rules ys) → a.recursive ≡ b.recursive → xs ≡ ys
read_once rules xs ys a b recursive =
    let enough : most_stacks < suc most_stacks = omega arith in
    let turns : b.turns ≡ a.turns = b.most_searched ∙ sym a.most_searched in
    let nullable : b.nullable ≡ a.nullable = fun_ext (λ x. same_test (b.nullable x) (a.nullable x) _ (b.knows x) (a.knows x)) in
    let R = λ (t : ℕ) (r : Text → Bool) (n : Spanned → Bool). AllReported (ReportedFrom (suc most_stacks) t r (rules_without_spans rules) n) (map (λ r. r.body) rules) ys in
    from_once rules xs ys (suc most_stacks) a.turns a.recursive a.nullable (a.read (suc most_stacks) enough)
    (subst (λ t. R t a.recursive a.nullable) turns
    (subst (λ r. R b.turns r a.nullable) (sym recursive)
    (subst (λ n. R b.turns b.recursive n) nullable (b.read (suc most_stacks) enough))))

pub read_alike : (rules : List SpannedRule) (xs ys : List Span) → AreRead rules xs → AreRead rules ys → xs ≡ ys
read_alike rules xs ys a b =
    read_once rules xs ys a b (fun_ext (λ n. same_test (a.recursive n) (b.recursive n) _ (a.reaches_itself n) (b.reaches_itself n)))

-- if one list of reports is empty, so is another
pub plain_empty : (rules : List SpannedRule) (xs ys : List Span) → AreFound rules xs → AreFound rules ys → xs ≡ [] → ys ≡ []
plain_empty rules xs ys a b none = go ys refl
  where
    go : (zs : List Span) → ys ≡ zs → zs ≡ []
    go [] e = refl
    go (z ∷ zs) e =
        let calm : SkippingAltersStack (rules_without_spans rules) → ⊥ = λ s. let f = sym e ∙ b.silent s in cc in
        let same = read_alike rules xs ys (a.plain calm) (b.plain calm) in
        cc

-- if nothing is reported of rules, nothing else is
pub reports_agree : (rules : List SpannedRule) (spans : List Span) → AreReports rules [] → AreReports rules spans → spans ≡ []
reports_agree rules spans a b =
    let none : a.reports ≡ [] = nil_from_length a.reports (sym (length_permutation a.reports [] a.sorted.same)) in
    let others = plain_empty rules a.reports b.reports a.plain b.plain none in
    nil_from_length spans (let l = length_permutation b.reports spans b.sorted.same in let m = ap (λ z. length z) others in omega arith)
