-- The program of a plan.
use Rattle.std.proofs.Common.{◌≡◌, refl, sym, ◌∙◌, ap, ap₂, subst, ℕ, zero, suc, Bool, ◌+◌, ◌*◌, ◌<◌, inl, inr, List, [], ◌∷◌, get_or, length, map, arith}
use Rattle.std.specs.Prelude.{if◌then◌else◌, nat_lt}
use Rattle.std.proofs.lemmas.Bool.{cases_lt}
use Rattle.std.proofs.lemmas.List.{get_or-map, length-map}
use Rattle.base_language.specs.Language.Expression.{Ident}
use Rattle.base_language.specs.Language.Meaning.{Run, Task, skipped}
use Rattle.base_language.specs.Language.State.{Between, Classes, NonAtomicMode}
use Rattle.matcher_code.specs.Lists.{CodeLists, is_covered, lists_of}
use Rattle.matcher_code.specs.declared.code.Code.{Code}
use Rattle.matcher_code.specs.Reading.{char_len, no_characters, wide_len}
use Rattle.matcher_code.specs.Laid as lay
use Rattle.matcher_code.specs.Laid.{IsPoint, Lays, no_point}
use Rattle.matcher_program.specs.declared.form.Program.{Program}
use Rattle.matcher_program.specs.Programs.{name_at, names_of}
use Rattle.matcher_sets.specs.declared.modes.Atomicity.{Atomicity}
use Rattle.matcher_sets.specs.declared.modes.Atomicity.TheVariants as mode
use Rattle.matcher_compiler.specs.declared.plan.Plan.{Plan}
use Rattle.matcher_compiler.specs.declared.points.Demand.{Demand}
use Rattle.matcher_compiler.specs.declared.points.Part.TheVariants as part
use Rattle.matcher_compiler.specs.declared.points.Point.{Point}
use Rattle.matcher_compiler.specs.Compiled.{AreMet, HasEnds, HasEntries, IsCodeOf, IsEmpty}
use Rattle.matcher_sets.specs.Modes.{mode_of}
use Rattle.matcher_compiler.specs.Exact.{is_exact}
use Rattle.matcher_compiler.specs.Names.{number_in}
use Rattle.matcher_sets.specs.Forms.{grammar_in}
use Rattle.matcher_compiler.specs.Plans.{AreBound, IsLater, IsMet, IsPointOf, LaysPoint, Meets, body_in, laid_point, task_in}

pub point_made : (p : Program) (points : List Point) (i : ℕ) (d : Point) → i < length points
    → IsPointOf p (map (laid_point p) points) (get_or points i d)
point_made p points i d h = record {
  point = record {
    place = i;
    rank = (get_or points i d).at.rank;
    within = omega (arith, length-map points (laid_point p), h);
    is = get_or-map (laid_point p) points i d no_point h;
  };
  lower = omega arith;
}

pub meets_plan : (p : Program) (plan : Plan) (code : CodeLists) → HasEnds code → AreMet code plan.points.items plan.demands.items
    → ((set b : ℕ) (bs : List ℕ) → set < length plan.sets.ranges.items → b < 256 → char_len code set (b ∷ bs) ≡ char_len (lists_of plan.sets) set (b ∷ bs))
    → ((i : ℕ) → i < length plan.texts.items → get_or code.texts i [] ≡ get_or (map (λ v. v.items) plan.texts.items) i [])
    → ((i : ℕ) → i < length plan.lists.items → get_or code.lists i [] ≡ get_or (map (λ v. v.items) plan.lists.items) i [])
    → Meets p plan code (map (laid_point p) plan.points.items)
meets_plan p plan code ends met sets texts lists = record {
  fail = ends.fail;
  points = λ i d h. point_made p plan.points.items i d h;
  demands = λ i d h. met p i d h;
  sets = sets;
  texts = texts;
  lists = lists;
}

abbrev some_point : Point
some_point = record { part = part.Trivia; at = record { mode = mode.Atomic; label = 0; next = 0; on_fail = 0; rank = 0; around = 0 } }

-- the same point
laid_as : (exact : Bool) (p : Program) (classes : Classes) (code : CodeLists) (laid : List lay.Point) (x : Point) (k : Task) (l n w rank : ℕ)
    → laid_point p x ≡ record { task = k; label = l; next = n; on_fail = w; rank = rank }
    → Lays exact (grammar_in p) classes code (number_in (grammar_in p)) laid x.at.rank (task_in p x.part (mode_of x.at.mode)) x.at.label x.at.next x.at.on_fail
    → Lays exact (grammar_in p) classes code (number_in (grammar_in p)) laid rank k l n w
laid_as exact p classes code laid x k l n w rank e y =
    let P : lay.Point → Type 0 = λ q. Lays exact (grammar_in p) classes code (number_in (grammar_in p)) laid q.rank q.task q.label q.next q.on_fail in
    subst P e y

pub code_of : (p : Program) (plan : Plan) (code : CodeLists) → HasEnds code → Meets p plan code (map (laid_point p) plan.points.items)
    → ((i : ℕ) (d : Point) → i < length plan.points.items → LaysPoint p plan (get_or plan.points.items i d))
    → HasEntries p plan (length p.rules.items) → IsCodeOf (is_exact code) p code
code_of p plan code ends m lays entries = record {
  ends = ends;
  points = map (laid_point p) plan.points.items;
  laid = λ classes fits k l n w x.
      let h : x.place < length plan.points.items = omega (arith, length-map plan.points.items (laid_point p), x.within) in
      let y = get_or plan.points.items x.place some_point in
      let e = get_or-map (laid_point p) plan.points.items x.place some_point no_point h in
      laid_as (is_exact code) p classes code (map (laid_point p) plan.points.items) y k l n w x.rank (sym e ∙ x.is)
      (lays x.place some_point h classes fits code (map (laid_point p) plan.points.items) m);
  entries = λ i h. entries code (map (laid_point p) plan.points.items) m i h;
}

pub none_bound : (p : Program) (plan : Plan) → IsEmpty plan → AreBound p plan
none_bound p plan e i d h =
    let l : length plan.points.items ≡ 0 = ap length e.points in
    absurd (omega (arith, l, h))

pub entries_more : (p : Program) (old new : Plan) (n : ℕ) → IsLater p old new → HasEntries p old n
    → ((code : CodeLists) (laid : List lay.Point) → Meets p new code laid
    → IsPoint laid (Run NonAtomicMode (Ident (name_at (names_of p.rules.items) n))) (n + 3) 1 2) → HasEntries p new (n + 1)
entries_more p old new n later has one code laid m i h = elim (cases_lt i n) [
  | inl k ↦ has code laid (later.met code laid m) i k
  | inr k ↦
      let e : n ≡ i = omega (arith, h, k) in
      subst (λ j. IsPoint laid (Run NonAtomicMode (Ident (name_at (names_of p.rules.items) j))) (j + 3) 1 2) e (one code laid m)
]

same_default : (xs : List Point) (j : ℕ) (a b : Point) → j < length xs → get_or xs j a ≡ get_or xs j b
same_default [] j a b l = absurd (omega (arith, l))
same_default (x ∷ xs) zero a b l = refl
same_default (x ∷ xs) (suc j) a b l = same_default xs j a b (omega (arith, l))

pub laid_more : (p : Program) (old new : Plan) (n : ℕ) (x : Point) → IsLater p old new → n < length old.points.items
    → x ≡ get_or old.points.items n x
    → ((i : ℕ) (d : Point) → i < n → i < length old.points.items → LaysPoint p old (get_or old.points.items i d))
    → LaysPoint p new x → (i : ℕ) (d : Point) → i < n + 1 → i < length new.points.items → LaysPoint p new (get_or new.points.items i d)
laid_more p old new n x later within is lays one i d h k = elim (cases_lt i n) [
  | inl a ↦
      let b : i < length old.points.items = omega (arith, a, within) in
      let f = lays i d a b in
      let P : Point → Type 0 = λ y. LaysPoint p new y in
      let g : LaysPoint p new (get_or old.points.items i d) = λ classes fits code laid m. f classes fits code laid (later.met code laid m) in
      subst P (sym (later.kept i d b).1) g
  | inr a ↦
      let e : n ≡ i = omega (arith, h, a) in
      let P : Point → Type 0 = λ y. LaysPoint p new y in
      let z : x ≡ get_or new.points.items n d = is ∙ (same_default old.points.items n x d within ∙ sym (later.kept n d within).1) in
      subst (λ j. LaysPoint p new (get_or new.points.items j d)) e (subst P z one)
]

pub body_made : (p : Program) (points : List Point) (i : ℕ) (x : Point) {k rule : ℕ} {m : Atomicity} {first last : ℕ} → i < length points
    → x ≡ get_or points i x → x.part ≡ part.Body k → k ≡ rule → x.at.mode ≡ m → x.at.label ≡ first → x.at.next ≡ last → x.at.on_fail ≡ 0
    → IsPoint (map (laid_point p) points) (Run (mode_of m) (body_in p rule)) first last 0
body_made p points i x {k} {rule} {m} {first} {last} h is part_is rule_is mode_is first_is last_is way_is =
    let laid = map (laid_point p) points in
    let y = point_made p points i x h in
    let P : Point → Type 0 = λ z. IsPointOf p laid z in
    let a : IsPoint laid (task_in p x.part (mode_of x.at.mode)) x.at.label x.at.next x.at.on_fail = (subst P (sym is) y).point in
    let b = subst (λ q. IsPoint laid (task_in p q (mode_of x.at.mode)) x.at.label x.at.next x.at.on_fail) part_is a in
    let d = subst (λ r. IsPoint laid (Run (mode_of x.at.mode) (body_in p r)) x.at.label x.at.next x.at.on_fail) rule_is b in
    let e = subst (λ r. IsPoint laid (Run (mode_of r) (body_in p rule)) x.at.label x.at.next x.at.on_fail) mode_is d in
    let f = subst (λ n. IsPoint laid (Run (mode_of m) (body_in p rule)) n x.at.next x.at.on_fail) first_is e in
    let g = subst (λ n. IsPoint laid (Run (mode_of m) (body_in p rule)) first n x.at.on_fail) last_is f in
    subst (λ n. IsPoint laid (Run (mode_of m) (body_in p rule)) first last n) way_is g

pub skipping_made : (p : Program) (points : List Point) (i : ℕ) (x : Point) {first last : ℕ} → i < length points
    → x ≡ get_or points i x → x.part ≡ part.Skipped → x.at.label ≡ first → x.at.next ≡ last → x.at.on_fail ≡ 0
    → IsPoint (map (laid_point p) points) (Run Between skipped) first last 0
skipping_made p points i x {first} {last} h is part_is first_is last_is way_is =
    let laid = map (laid_point p) points in
    let y = point_made p points i x h in
    let P : Point → Type 0 = λ z. IsPointOf p laid z in
    let a : IsPoint laid (task_in p x.part (mode_of x.at.mode)) x.at.label x.at.next x.at.on_fail = (subst P (sym is) y).point in
    let b = subst (λ q. IsPoint laid (task_in p q (mode_of x.at.mode)) x.at.label x.at.next x.at.on_fail) part_is a in
    let f = subst (λ n. IsPoint laid (Run Between skipped) n x.at.next x.at.on_fail) first_is b in
    let g = subst (λ n. IsPoint laid (Run Between skipped) first n x.at.on_fail) last_is f in
    subst (λ n. IsPoint laid (Run Between skipped) first last n) way_is g

same_demand : (xs : List Demand) (j : ℕ) (a b : Demand) → j < length xs → get_or xs j a ≡ get_or xs j b
same_demand [] j a b l = absurd (omega (arith, l))
same_demand (x ∷ xs) zero a b l = refl
same_demand (x ∷ xs) (suc j) a b l = same_demand xs j a b (omega (arith, l))

pub one_demand : (code : CodeLists) (points : List Point) (demands : List Demand) (n : ℕ) (x : Demand) → (n < length demands)
    → ((p : Program) (i : ℕ) (d : Demand) → i < n → IsMet p code (map (laid_point p) points) (get_or demands i d))
    → ((p : Program) → IsMet p code (map (laid_point p) points) (get_or demands n x))
    → (p : Program) (i : ℕ) (d : Demand) → i < n + 1 → IsMet p code (map (laid_point p) points) (get_or demands i d)
one_demand code points demands n x within before here p i d h = elim (cases_lt i n) [
  | inl k ↦ before p i d k
  | inr k ↦
      let e : n ≡ i = omega (arith, h, k) in
      subst (λ j. IsMet p code (map (laid_point p) points) (get_or demands j d)) e
      (subst (IsMet p code (map (laid_point p) points)) (same_demand demands n x d within) (here p))
]
