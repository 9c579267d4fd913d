-- Plans that grow.
use Rattle.std.proofs.Common.{◌≡◌, refl, sym, ◌∙◌, ap, subst, ℕ, zero, suc, ◌+◌, ◌-◌, ◌<◌, ◌≤◌, List, [], ◌∷◌, ◌++◌, inl, inr, length, get_or, map, arith, append-nil}
use Rattle.std.proofs.Math.ListN.{get_or-append}
use Rattle.std.proofs.Math.Seq.{get_or-append_right, get_or-append_seam}
use Rattle.std.proofs.lemmas.Bool.{cases_lt}
use Rattle.std.proofs.lemmas.List.{length-append, length-map, map-append}
use Rattle.matcher_code.specs.Sets.{KeepsSets}
use Rattle.base_language.specs.Language.Meaning.{Task}
use Rattle.matcher_code.specs.Laid as lay
use Rattle.matcher_code.specs.Laid.{IsPart}
use Rattle.matcher_program.specs.declared.form.Program.{Program}
use Rattle.matcher_compiler.specs.declared.plan.Plan.{Plan}
use Rattle.matcher_compiler.specs.declared.plan.Skips.{Skips}
use Rattle.matcher_compiler.specs.declared.plan.Skips.TheVariants as skips
use Rattle.matcher_compiler.specs.declared.points.Demand.{Demand}
use Rattle.matcher_compiler.specs.declared.points.Point.{Point}
use Rattle.matcher_compiler.specs.Plans.{IsBlankSet, IsBoundPart, IsLater, IsMet, IsPointOf, SkipsAs, task_in}
use Rattle.matcher_sets.specs.Modes.{mode_of}

pub later_twice : (p : Program) (a b c : Plan) → IsLater p a b → IsLater p b c → IsLater p a c
later_twice p a b c x y = record {
  kept = λ i d h. let u = x.kept i d h in let v = y.kept i d u.0 in (v.0, v.1 ∙ u.1);
  met = λ code laid m. x.met code laid (y.met code laid m);
  bound = λ h. y.bound (x.bound h);
  ready = λ h. y.ready (x.ready h);
}

pub later_same : (p : Program) (a : Plan) → IsLater p a a
later_same p a = record { kept = λ i d h. (h, refl); met = λ code laid m. m; bound = λ h. h; ready = λ h. h }

pub part_as : (laid : List lay.Point) {k q : Task} {rank l n w : ℕ} → k ≡ q → IsPart laid rank k l n w → IsPart laid rank q l n w
part_as laid {rank = rank} {l = l} {n = n} {w = w} e x = subst (λ t. IsPart laid rank t l n w) e x

-- a point of the rank before
pub part_below : (p : Program) (laid : List lay.Point) (x : Point) (rank : ℕ) → IsPointOf p laid x → suc x.at.rank ≡ rank
    → IsPart laid rank (task_in p x.part (mode_of x.at.mode)) x.at.label x.at.next x.at.on_fail
part_below p laid x rank h e = record { point = h.point; lower = omega (arith, h.lower, e) }

front : {A : Type 0} (xs ys zs : List A) (i : ℕ) (d : A) → zs ≡ xs ++ ys → i < length xs → (i < length zs) × (get_or zs i d ≡ get_or xs i d)
front xs ys zs i d e h =
    let l : length zs ≡ length xs + length ys = ap length e ∙ length-append xs ys in
    (omega (arith, l, h), ap (λ t. get_or t i d) e ∙ get_or-append xs ys d i h)

pub last_of : {A : Type 0} (xs zs : List A) (x d : A) → zs ≡ xs ++ x ∷ [] → (length xs < length zs) × (get_or zs (length xs) d ≡ x)
last_of xs zs x d e =
    let l : length zs ≡ length xs + 1 = ap length e ∙ length-append xs (x ∷ []) in
    (omega (arith, l), ap (λ t. get_or t (length xs) d) e ∙ get_or-append_seam xs x [] d)

pub no_more : {A : Type 0} (xs ys : List A) → ys ≡ xs → ys ≡ xs ++ []
no_more xs ys e = e ∙ sym (append-nil xs)

pub single : (p : Program) (x : Point) → IsBoundPart p x.part → (i : ℕ) (d : Point) → i < length (x ∷ [])
    → IsBoundPart p (get_or (x ∷ []) i d).part
single p x b zero d h = b
single p x b (suc i) d h = absurd (omega (arith, h))

pub none : (p : Program) (i : ℕ) (d : Point) → i < length {A = Point} [] → IsBoundPart p (get_or [] i d).part
none p i d h = absurd (omega (arith, h))

pub texts_front : {A : Type 0} (f : A → List ℕ) (xs zs : List A) (x : A) → zs ≡ xs ++ x ∷ [] → (i : ℕ) → i < length xs
    → (i < length zs) × (get_or (map f zs) i [] ≡ get_or (map f xs) i [])
texts_front f xs zs x e i h =
    let l : length zs ≡ length xs + 1 = ap length e ∙ length-append xs (x ∷ []) in
    let k : i < length (map f xs) = omega (arith, length-map xs f, h) in
    (omega (arith, l, h), ap (λ t. get_or (map f t) i []) e ∙ (ap (λ t. get_or t i []) (map-append f xs (x ∷ [])) ∙ get_or-append (map f xs) (f x ∷ []) [] i k))

pub texts_last : {A : Type 0} (f : A → List ℕ) (xs zs : List A) (x : A) → zs ≡ xs ++ x ∷ [] → get_or (map f zs) (length xs) [] ≡ f x
texts_last f xs zs x e =
    ap (λ t. get_or (map f t) (length xs) []) e
    ∙ (ap (λ t. get_or t (length xs) []) (map-append f xs (x ∷ []))
    ∙ (ap (λ n. get_or (map f xs ++ f x ∷ []) n []) (sym (length-map xs f)) ∙ get_or-append_seam (map f xs) (f x) [] []))

module _ (p : Program) (old new : Plan) where
  -- the same skipping, in a program with more sets
  blanks_on : length old.sets.ranges.items ≤ length new.sets.ranges.items → KeepsSets old.sets new.sets → (set : ℕ)
      → IsBlankSet p old.sets set → IsBlankSet p new.sets set
  blanks_on l keeps set r = record {
    ranges = r.ranges;
    within = omega (arith, l, r.within);
    is = λ b bs h u. keeps set b bs r.within h ∙ r.is b bs h u;
    blank = r.blank;
  }

  skips_on : length old.sets.ranges.items ≤ length new.sets.ranges.items → KeepsSets old.sets new.sets → (x : Skips)
      → SkipsAs p old.sets x → SkipsAs p new.sets x
  skips_on l keeps skips.Nothing r = r
  skips_on l keeps (skips.Blanks set) r = (r.0, blanks_on l keeps set r.1)
  skips_on l keeps (skips.Comments set) r = blanks_on l keeps set r
  skips_on l keeps (skips.Calls set) r = record {
    within = omega (arith, l, r.within);
    is = λ b bs h u. keeps set b bs r.within h ∙ r.is b bs h u;
  }

  -- more points, demands, sets, texts and lists
  pub grown : (ps : List Point) (ds : List Demand) → new.points.items ≡ old.points.items ++ ps
      → new.demands.items ≡ old.demands.items ++ ds
      → length old.sets.ranges.items ≤ length new.sets.ranges.items → KeepsSets old.sets new.sets
      → ((i : ℕ) → i < length old.texts.items → (i < length new.texts.items)
      × (get_or (map (λ v. v.items) new.texts.items) i [] ≡ get_or (map (λ v. v.items) old.texts.items) i []))
      → ((i : ℕ) → i < length old.lists.items → (i < length new.lists.items)
      × (get_or (map (λ v. v.items) new.lists.items) i [] ≡ get_or (map (λ v. v.items) old.lists.items) i []))
      → new.skips ≡ old.skips
      → ((i : ℕ) (d : Point) → i < length ps → IsBoundPart p (get_or ps i d).part) → IsLater p old new
  grown ps ds e f l keeps texts lists same bound = record {
    kept = λ i d h. front old.points.items ps new.points.items i d e h;
    met = λ code laid m. record {
      fail = m.fail;
      points = λ i d h. let x = front old.points.items ps new.points.items i d e h in subst (IsPointOf p laid) x.1 (m.points i d x.0);
      demands = λ i d h. let x = front old.demands.items ds new.demands.items i d f h in subst (IsMet p code laid) x.1 (m.demands i d x.0);
      sets = λ set b bs h k. m.sets set b bs (omega (arith, h, l)) k ∙ keeps set b bs h k;
      texts = λ i h. let t = texts i h in m.texts i t.0 ∙ t.1;
      lists = λ i h. let t = lists i h in m.lists i t.0 ∙ t.1;
    };
    bound = λ b i d h. elim (cases_lt i (length old.points.items)) [
      | inl k ↦ let x = front old.points.items ps new.points.items i d e k in subst (λ y. IsBoundPart p y.part) (sym x.1) (b i d k)
      | inr k ↦
          let n : length new.points.items ≡ length old.points.items + length ps = ap length e ∙ length-append old.points.items ps in
          let x : get_or new.points.items i d ≡ get_or ps (i - length old.points.items) d = ap (λ t. get_or t i d) e ∙ get_or-append_right old.points.items ps i d k in
          subst (λ y. IsBoundPart p y.part) (sym x) (bound (i - length old.points.items) d (omega (arith, h, k, n)))
    ];
    ready = λ r. subst (SkipsAs p new.sets) (sym same) (skips_on l keeps old.skips r);
  }
