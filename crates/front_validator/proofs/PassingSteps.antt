-- Flags for one rule more.
use Rattle.std.proofs.Common.{◌≡◌, ℕ, zero, suc, ◌+◌, ◌<◌, ◌≤◌, List, Some, Bool, slice_get, unwrap_or, length, refl, sym, ◌∙◌, ap, subst, arith}
use Rattle.std.specs.Bool.{Decides}
use Rattle.std.proofs.lemmas.Option.{slice_get_within}
use Rattle.base_language.specs.Language.WellFormed.{IsNullable}
use Rattle.front_spanned.specs.Erasure.{without_spans}
use Rattle.front_spanned.specs.Nodes.{rule_views}
use Rattle.front_spanned.specs.Spanned.{Spanned, SpannedRule}
use Rattle.front_spanned.specs.declared.node.ParserRule.{ParserRule}
use Rattle.base_graphs.specs.Least.{is_set_at}
use Rattle.front_analysis.specs.Roots.{AreRoots}
use Rattle.front_validator.specs.LeftRecursion.{said, Means}
use Rattle.front_analysis.specs.Nodes.{all_nodes}
use Rattle.front_validator.specs.Regions.{IsNodeOf, ArePassingSoFar, ArePassingBelow}
use Rattle.front_analysis.specs.Roots.{root_of, first_of}
use Rattle.front_validator.specs.Walk.{without}
use Rattle.front_validator.proofs.RegionLemmas.{rises}
use Rattle.front_analysis.proofs.LayoutLemmas.{some_size}

pub data Lower (k m : ℕ) : Type 0 where
  lower : k < m → Lower k m
  equal : k ≡ m → Lower k m

pub lower_or_equal : (k m : ℕ) → k < m + 1 → Lower k m
lower_or_equal zero zero h = equal refl
lower_or_equal zero (suc m) h = lower (omega arith)
lower_or_equal (suc k) zero h = absurd (omega arith)
lower_or_equal (suc k) (suc m) h = elim (lower_or_equal k m (omega arith)) [ lower l ↦ lower (omega arith) | equal e ↦ equal (ap suc e) ]

module _ (rules : List ParserRule) (roots : List ℕ) (are : AreRoots rules (all_nodes rules) roots) where
  -- flags for one rule more
  pub passing_next : (m root : ℕ) (old new : List Bool) → slice_get roots m ≡ Some root
      → ((i : ℕ) → i < length old → is_set_at new i ≡ is_set_at old i) → (length old ≤ root + 1 → length new ≡ root + 1)
      → (length old ≡ first_of roots m → ArePassingSoFar rules roots new m)
      → (rule : ParserRule) → slice_get rules m ≡ Some rule
      → ArePassingBelow rules roots m old → ArePassingBelow rules roots (m + 1) new
  passing_next m root old new at kept long own rule here below = record {
    long = (let c = is_root in let d = ended in let e : m + 1 ≡ suc m = omega arith in
        d ∙ ((let f : root + 1 ≡ suc (root_of roots m) = omega arith in f) ∙ ap (first_of roots) (sym e)));
    right = λ k l i r x got means node. go k (lower_or_equal k m l) i r x got means node;
  }
    where
      is_root : root_of roots m ≡ root
      is_root = ap (λ o. unwrap_or o 0) at

      ended : length new ≡ root + 1
      ended = let a = are.begin m root rule here at in let b = below.long in long (omega arith)

      go : (k : ℕ) → Lower k m → (i : ℕ) (r : SpannedRule) (x : Spanned) → slice_get (rule_views rules) k ≡ Some r → Means (rule_views rules) r.name k → IsNodeOf rules roots k i x → Decides (is_set_at new i) (IsNullable (without r.name (said (rule_views rules))) (without_spans x))
      go k (lower l) i r x got means node =
          let w = slice_get_within roots m root at in
          let a = rises rules roots are k m l (omega arith) in
          let b = node.last in let c = below.long in
          subst (λ z. Decides z (IsNullable (without r.name (said (rule_views rules))) (without_spans x))) (sym (kept i (omega arith))) (below.right k l i r x got means node)
      go k (equal e) i r x got means node =
          let there : IsNodeOf rules roots m i x = subst (λ z. IsNodeOf rules roots z i x) e node in
          let b = there.last in let c = ended in let d = is_root in
          own below.long i r x (subst (λ z. slice_get (rule_views rules) z ≡ Some r) e got) (subst (λ z. Means (rule_views rules) r.name z) e means) there (omega arith)

  -- flags that are copied for one rule more
  pub passing_more : (m root : ℕ) (from old new : List Bool) → slice_get roots m ≡ Some root
      → ((i : ℕ) → i < length old → is_set_at new i ≡ is_set_at old i) → ((i : ℕ) → length old ≤ i → i ≤ root → is_set_at new i ≡ is_set_at from i) → (length old ≤ root + 1 → length new ≡ root + 1)
      → ((r : SpannedRule) → slice_get (rule_views rules) m ≡ Some r → Means (rule_views rules) r.name m → (i : ℕ) (x : Spanned) → slice_get (all_nodes rules) i ≡ Some x → Decides (is_set_at from i) (IsNullable (without r.name (said (rule_views rules))) (without_spans x)))
      → (rule : ParserRule) → slice_get rules m ≡ Some rule
      → ArePassingBelow rules roots m old → ArePassingBelow rules roots (m + 1) new
  passing_more m root from old new at kept copied long answers rule here below = passing_next m root old new at kept long own rule here below
    where
      own : length old ≡ first_of roots m → ArePassingSoFar rules roots new m
      own e i r x got means node short =
          let a = node.first in let b = node.last in let d = ap (λ o. unwrap_or o 0) at in let s = some_size x in
          subst (λ z. Decides z (IsNullable (without r.name (said (rule_views rules))) (without_spans x))) (sym (copied i (omega arith) (omega arith)))
          (answers r got means i x node.node)
