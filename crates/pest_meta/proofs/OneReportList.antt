-- Of rules that are read from a text the stack pass has one list of reports, in the order of their places.
use Rattle.std.proofs.Common.{Ordering, Less, Equal, Greater, ◌≡◌, ℕ, suc, List, [], ◌∷◌, ◌+◌, ◌<◌, Bool, true, false, cond, not, ◌&&◌, replicate, refl, sym, ap, subst, ◌∙◌, arith, one-add, zero-add}
use Rattle.std.proofs.lemmas.Cmp.{nat_cmp_total, on_total, ranked, then_total}
use Rattle.std.proofs.lemmas.List.Elements.{All-nil, All-head, All-same, All-tail, All-weaker}
use Rattle.std.proofs.lemmas.List.Sorted.{All-permutation, ranks_by, sum_by-IsPermutation}
use Rattle.std.proofs.lemmas.List.Sums.{sum_by-cons}
use Rattle.std.specs.Cmp.{IsStrictWeakOrder, IsTotalOrder}
use Rattle.std.specs.List.{All, filter, sum_by}
use Rattle.std.specs.List.Sorted.{ties}
use Rattle.std.specs.Ordering.{is_lt, nat_cmp, on, ordering_reverse, ordering_then, then_cmp}
use Rattle.front_spanned.specs.Erasure.{rules_without_spans, without_spans}
use Rattle.front_spanned.specs.Spanned.{Span, SpannedRule}
use Rattle.front_stack_loops.specs.Certain.{AreFound, AreRead, AreReports, is_before, IsSorted}
use Rattle.front_stack_domain.specs.Reported.{ReportedFrom}
use Rattle.front_stack_domain.specs.Reports.{reading_in, SkippingAltersStack}
use Rattle.front_stack_domain.specs.Stack.{entry}
use Rattle.front_stack_domain.specs.Turns.{most_stacks}
use Rattle.front_validator.proofs.OneOrder.{AgreeAt, one_order, rises}
use Rattle.pest_meta.proofs.OneText.{all_stand, bodies_stand, InText, StandsIn}
use Rattle.pest_meta.proofs.ReportsAgree.{plain_empty, read_alike}

-- 1. places of one text that tie are one
abbrev place_cmp : Span → Span → Ordering
place_cmp = then_cmp (on (λ (s : Span). s.start) nat_cmp) (on (λ (s : Span). s.end) nat_cmp)

place_total : IsTotalOrder place_cmp
place_total = then_total (on_total (λ (s : Span). s.start) nat_cmp_total) (on_total (λ (s : Span). s.end) nat_cmp_total)

by_place : IsStrictWeakOrder is_before
by_place = ranks_by place_total (λ (s : Span). s)

level : (s u : Span) → ties is_before s u ≡ true → place_cmp s u ≡ Equal
level s u h = go (place_cmp s u) refl
  where
    go : (o : Ordering) → place_cmp s u ≡ o → place_cmp s u ≡ Equal
    go Less e = let k : (not (is_lt (place_cmp s u)) && not (is_lt (place_cmp u s))) ≡ true = h in let f = subst (λ z. (not (is_lt z) && not (is_lt (place_cmp u s))) ≡ true) e k in cc
    go Equal e = e
    go Greater e =
        let back : place_cmp u s ≡ Less = place_total.antisymm u s ∙ ap ordering_reverse e in
        let k : (not (is_lt (place_cmp s u)) && not (is_lt (place_cmp u s))) ≡ true = h in
        let f = subst (λ z. (not (is_lt z) && not (is_lt (place_cmp u s))) ≡ true) e k in
        let g = subst (λ z. (not (is_lt Greater) && not (is_lt z)) ≡ true) back f in cc

same_numbers : (a b c d : ℕ) → ordering_then (nat_cmp a b) (nat_cmp c d) ≡ Equal → (a ≡ b) × (c ≡ d)
same_numbers a b c d h = go (nat_cmp a b) refl
  where
    go : (o : Ordering) → nat_cmp a b ≡ o → (a ≡ b) × (c ≡ d)
    go Less e = let f = subst (λ z. ordering_then z (nat_cmp c d) ≡ Equal) e h in cc
    go Equal e = let f : nat_cmp c d ≡ Equal = subst (λ z. ordering_then z (nat_cmp c d) ≡ Equal) e h in (ranked a b Equal (sym e), ranked c d Equal (sym f))
    go Greater e = let f = subst (λ z. ordering_then z (nat_cmp c d) ≡ Equal) e h in cc

same_place : (text : List ℕ) (s u : Span) → InText text s → InText text u → ties is_before s u ≡ true → u ≡ s
same_place text s u h k t =
    let (start, end) = same_numbers s.start u.start s.end u.end (level s u t) in
    let same : u.text ≡ s.text = k ∙ sym h in
    ap (λ z. record { text = z; start = u.start; end = u.end }) same
    ∙ ap (λ z. record { text = s.text; start = z; end = u.end }) (sym start)
    ∙ ap (λ z. record { text = s.text; start = s.start; end = z }) (sym end)

-- 2. so in their order they are one list
module _ (p : Span → Bool) (s : Span) where
  abbrev one_if : Span → ℕ
  one_if u = cond (p u) 1 0

  kept_alike : (us : List Span) → All (λ u. p u ≡ true → u ≡ s) us → filter p us ≡ replicate (sum_by one_if us) s
  kept_alike [] h = refl
  kept_alike (u ∷ us) h =
      go (p u) refl (kept_alike us (All-tail (λ v. p v ≡ true → v ≡ s) u us h)) ∙ ap (λ n. replicate n s) (sym (sum_by-cons one_if u us))
    where
      go : (b : Bool) → p u ≡ b → filter p us ≡ replicate (sum_by one_if us) s → cond (p u) (u ∷ filter p us) (filter p us) ≡ replicate (cond (p u) 1 0 + sum_by one_if us) s
      go true e k = rw (e, one-add) (ap (λ z. z ∷ filter p us) (All-head (λ v. p v ≡ true → v ≡ s) u us h e) ∙ ap (λ zs. s ∷ zs) k)
      go false e k = rw (e, zero-add) k

module _ (text : List ℕ) where
  one_sorted : (reports spans others : List Span) → All (InText text) reports → IsSorted reports spans → IsSorted reports others → spans ≡ others
  one_sorted reports spans others h a b =
      one_order is_before by_place spans others (rises is_before by_place spans a.rising) (rises is_before by_place others b.rising)
      (All-weaker (InText text) (AgreeAt is_before by_place spans others) agree spans here)
      (All-weaker (InText text) (AgreeAt is_before by_place spans others) agree others there)
    where
      here : All (InText text) spans
      here = All-permutation (InText text) reports spans a.same h

      there : All (InText text) others
      there = All-permutation (InText text) reports others b.same h

      kept : (s : Span) → InText text s → (us : List Span) → All (InText text) us → filter (ties is_before s) us ≡ replicate (sum_by (one_if (ties is_before s) s) us) s
      kept s k us l = kept_alike (ties is_before s) s us (All-weaker (InText text) (λ u. ties is_before s u ≡ true → u ≡ s) (λ u m t. same_place text s u k m t) us l)

      agree : (s : Span) → InText text s → AgreeAt is_before by_place spans others s
      agree s k =
          let count = one_if (ties is_before s) s in
          let same = sum_by-IsPermutation count reports spans a.same ∙ sym (sum_by-IsPermutation count reports others b.same) in
          kept s k spans here ∙ ap (λ n. replicate n s) same ∙ sym (kept s k others there)

  -- 3. what the stack pass reports of what is read
  module _ (rules : List SpannedRule) (stand : All (λ r. StandsIn text r.body) rules) where
    read_in_text : (spans : List Span) → AreRead rules spans → All (InText text) spans
    read_in_text spans a =
        let enough : most_stacks < suc most_stacks = omega arith in
        all_stand text (ReportedFrom (suc most_stacks) a.turns a.recursive (rules_without_spans rules) a.nullable)
        (λ x ts h k. bodies_stand text (suc most_stacks) a.turns (λ y. reading_in (suc most_stacks) a.recursive (rules_without_spans rules) (without_spans y)) a.nullable (λ b. b ≡ entry) x ts h k)
        rules spans stand (a.read (suc most_stacks) enough)

    -- one list, and all of it in the text
    plain_once : (xs ys : List Span) → AreFound rules xs → AreFound rules ys → (xs ≡ ys) × All (InText text) xs
    plain_once xs ys a b = go xs refl
      where
        go : (zs : List Span) → xs ≡ zs → (xs ≡ ys) × All (InText text) xs
        go [] e = (e ∙ sym (plain_empty rules xs ys a b e), All-same (InText text) xs [] e (All-nil (InText text)))
        go (z ∷ zs) e =
            let calm : SkippingAltersStack (rules_without_spans rules) → ⊥ = λ s. let f = sym e ∙ a.silent s in cc in
            (read_alike rules xs ys (a.plain calm) (b.plain calm), read_in_text xs (a.plain calm))

    pub one_list_of_reports : (spans others : List Span) → AreReports rules spans → AreReports rules others → spans ≡ others
    one_list_of_reports spans others a b =
        let (same, inside) = plain_once a.reports b.reports a.plain b.plain in
        one_sorted a.reports spans others inside a.sorted (subst (λ us. IsSorted us others) (sym same) b.sorted)
