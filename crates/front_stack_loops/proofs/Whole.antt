-- All rules: what is reported in their bodies, and that it is certain.
use Rattle.std.proofs.Common.{◌≡◌, ℕ, suc, ◌⊎◌, inl, inr, List, [], ◌∷◌, ◌++◌, ◌<◌, Option, Some, None, Bool, true, false, slice_get, length, map, refl, sym, ◌∙◌, ap, subst, arith, append-nil, append_assoc}
use Rattle.std.specs.List.{filter}
use Rattle.std.specs.Option.{option_map}
use Rattle.std.proofs.lemmas.Option.{slice_get-map}
use Rattle.std.proofs.lemmas.List.{length-map}
use Rattle.base_language.specs.Language.Expression.{Grammar}
use Rattle.base_language.specs.Language.Text.{Text}
use Rattle.base_language.specs.declared.runtime.places.Span as code_span
use Rattle.base_language.proofs.Basics.{got_alike}
use Rattle.base_graphs.specs.Least.{is_set_at}
use Rattle.front_spanned.specs.Erasure.{rules_without_spans, without_spans}
use Rattle.front_spanned.specs.Nodes.{piece_of, view, rule_views}
use Rattle.front_spanned.specs.Spanned.{Span, Spanned, SpannedRule}
use Rattle.front_spanned.specs.declared.node.ParserRule.{ParserRule}
use Rattle.front_stack_domain.specs.Stack.{AbstractStack, In, entry}
use Rattle.front_stack_domain.specs.Reading as says
use Rattle.front_stack_domain.specs.Reading.{reading, name_reading}
use Rattle.front_stack_domain.specs.Reported.{KnowsNullable, ReportedIn, ReportedFrom, IsCertainAt}
use Rattle.front_stack_domain.specs.Reports.{SkippingAltersStack}
use Rattle.front_stack_domain.specs.Turns.{most_stacks}
use Rattle.front_stack_domain.proofs.AnyLimit.{reported_same}
use Rattle.front_stack_domain.proofs.Routes.{reported_is_certain}
use Rattle.front_stack_domain.specs.declared.stack.Stack.{Stack}
use Rattle.front_stack_loops.specs.Certain.{AreCertain, AreFound, IsTableOf}
use Rattle.front_stack_loops.specs.Expressions.{may_stay, name_flag}
use Rattle.front_stack_loops.specs.Following.{seen_stacks}
use Rattle.front_stack_loops.specs.Memory.{Meaning, IsRight}
use Rattle.front_analysis.specs.Names.{grammar_of}
use Rattle.front_stack_loops.specs.Names.{kind_in}
use Rattle.front_stack_loops.specs.Kinds.{AreTabled}
use Rattle.front_stack_loops.specs.Reportable.{AreReportable, AreSilent, FindsMore}
use Rattle.front_stack_loops.specs.Table.{IsMeaning}
use Rattle.front_stack_loops.specs.Told.{is_flagged}
use Rattle.front_stack_loops.specs.Visiting.{AllReported, FindsAll, FindsIn, RootsRepresent, Represents}
use Rattle.front_stack_loops.specs.declared.memory.Memory.{Memory}
use Rattle.front_stack_loops.specs.declared.table.PassNode.{PassNode}
use Rattle.front_stack_loops.specs.declared.table.Table.{Table}
use Rattle.front_stack_loops.proofs.Answered.{recursive, recursive_reaches}
use Rattle.front_stack_loops.proofs.Nullable.{decided, is_null, knows_nullable, null_at, settled_null}
use Rattle.front_stack_loops.proofs.Reached.{flagged_reaches}
use Rattle.front_stack_loops.proofs.Reporting.{told_otherwise}
use Rattle.front_stack_loops.proofs.Silence.{silent}
use Rattle.front_stack_loops.proofs.Tied as tied

all_mapped : (R S : Spanned → List Span → Type 0) → ((x : Spanned) (ts : List Span) → R x ts → S x ts) → (xs : List Spanned) (ts : List Span) → AllReported R xs ts → AllReported S xs ts
all_mapped R S f [] ts h = h
all_mapped R S f (x ∷ xs) ts (us, vs, p, q, e) = (us, vs, f x us p, all_mapped R S f xs vs q, e)

-- what is reported with the limit of the code is reported with any other that is never met
with_limit : (m : ℕ) → m ≡ suc most_stacks → (n : ℕ) → most_stacks < n → (turns : ℕ) (recursive : Text → Bool) (g : Grammar) (nullable : Spanned → Bool) (xs : List Spanned) (ts : List Span)
    → AllReported (ReportedFrom m turns recursive g nullable) xs ts → AllReported (ReportedFrom n turns recursive g nullable) xs ts
with_limit m e n h turns recursive g nullable =
    all_mapped (ReportedFrom m turns recursive g nullable) (ReportedFrom n turns recursive g nullable) (reported_same m n (omega (arith, e)) h turns recursive g nullable)

reported_more : (R : Spanned → List Span → Type 0) (ys : List Spanned) (x : Spanned) (us ts : List Span) → AllReported R ys us → R x ts → AllReported R (ys ++ x ∷ []) (us ++ ts)
reported_more R [] x us ts h r = (ts, [], r, refl, ap (λ z. z ++ ts) h ∙ sym (append-nil ts))
reported_more R (y ∷ ys) x us ts (vs, ws, q, h, e) r = (vs, ws ++ ts, q, reported_more R ys x ws ts h r, ap (λ z. z ++ ts) e ∙ append_assoc vs ws ts)

roots_split : (t : Table) (meaning : Meaning) (read : Spanned → AbstractStack → says.Reading) (nullable : Spanned → Bool) (is : List ℕ) (i : ℕ) (xs : List Spanned) → RootsRepresent t meaning read nullable (is ++ i ∷ []) xs
    → (ys : List Spanned) × (x : Spanned) × (xs ≡ ys ++ x ∷ []) × RootsRepresent t meaning read nullable is ys × Represents t meaning read nullable i x
roots_split t meaning read nullable [] i [] h = absurd h
roots_split t meaning read nullable [] i (x ∷ []) h = ([], x, refl, tt, h.0)
roots_split t meaning read nullable [] i (x ∷ y ∷ xs) h = absurd h.1
roots_split t meaning read nullable (j ∷ is) i [] h = absurd h
roots_split t meaning read nullable (j ∷ is) i (x ∷ xs) h =
    let (ys, z, e, r, s) = roots_split t meaning read nullable is i xs h.1 in
    (x ∷ ys, z, ap (λ l. x ∷ l) e, (h.0, r), s)

pub all_none : (t : Table) → FindsAll t [] []
all_none t = record { value = λ meaning h read nullable xs st. go meaning read nullable xs st }
  where
    go : (meaning : Meaning) (read : Spanned → AbstractStack → says.Reading) (nullable : Spanned → Bool) (xs : List Spanned) → RootsRepresent t meaning read nullable [] xs
        → AllReported (ReportedIn t.limit t.turns read nullable (λ a. a ≡ entry)) xs []
    go meaning read nullable [] st = refl
    go meaning read nullable (x ∷ xs) st = absurd st

only_entry : (a : AbstractStack) → In a (entry ∷ []) → a ≡ entry
only_entry a (inl e) = e
only_entry a (inr h) = absurd h

all_more : (t : Table) (is : List ℕ) (i : ℕ) (old new : Memory) (ss : List Stack) (before after : List code_span.Span) → ((meaning : Meaning) → IsMeaning t meaning → IsRight meaning old)
    → seen_stacks ss ≡ entry ∷ [] → FindsAll t is before → FindsIn t old new i ss before after → FindsAll t (is ++ i ∷ []) after
all_more t is i old new ss before after right start h f = record {
  value = λ meaning m read nullable xs st.
      let (ys, x, e, rs, sx) = roots_split t meaning read nullable is i xs st in
      let (ts, r, a) = f.value meaning m (right meaning m) read nullable x sx in
      let R = ReportedIn t.limit t.turns read nullable (λ a. a ≡ entry) in
      let own : R x ts = told_otherwise t.limit t.turns read nullable x (λ a. In a (seen_stacks ss)) (λ a. a ≡ entry) ts
      (λ b w. only_entry b (subst (In b) start w)) (λ b w. subst (In b) (sym start) (inl w)) r in
      subst (λ z. AllReported R z (map piece_of after)) (sym e)
      (subst (λ z. AllReported R (ys ++ x ∷ []) z) (sym a) (reported_more R ys x (map piece_of before) ts (h.value meaning m read nullable ys rs) own));
}

-- the body at one more node, if something may be reported there
pub more_none : (t : Table) (flags : List Bool) (i : ℕ) (old : Memory) (found : List code_span.Span) → is_set_at flags i ≡ false → FindsMore t flags old i found found
more_none t flags i old found off is right h = rw off (subst (λ z. FindsAll t z found) (sym (append-nil is)) h)

pub more_found : (t : Table) (flags : List Bool) (i : ℕ) (old new : Memory) (ss : List Stack) (before after : List code_span.Span) → is_set_at flags i ≡ true → seen_stacks ss ≡ entry ∷ []
    → FindsIn t old new i ss before after → FindsMore t flags old i before after
more_found t flags i old new ss before after on start f is right h = rw on (all_more t is i old new ss before after right start h f)

-- the bodies at some nodes that are chosen
abbrev pick : Bool → Spanned → List Spanned → List Spanned
pick true x xs = x ∷ xs
pick false x xs = xs

abbrev chosen : (ℕ → Bool) → List ℕ → List Spanned → List Spanned
chosen p [] xs = []
chosen p (i ∷ is) [] = []
chosen p (i ∷ is) (x ∷ xs) = pick (p i) x (chosen p is xs)

chosen_stand : (t : Table) (meaning : Meaning) (read : Spanned → AbstractStack → says.Reading) (nullable : Spanned → Bool) (p : ℕ → Bool) (is : List ℕ) (xs : List Spanned)
    → RootsRepresent t meaning read nullable is xs → RootsRepresent t meaning read nullable (filter p is) (chosen p is xs)
chosen_stand t meaning read nullable p [] xs h = tt
chosen_stand t meaning read nullable p (i ∷ is) [] h = absurd h
chosen_stand t meaning read nullable p (i ∷ is) (x ∷ xs) h = go (p i) refl (chosen_stand t meaning read nullable p is xs h.1)
  where
    go : (b : Bool) → p i ≡ b → RootsRepresent t meaning read nullable (filter p is) (chosen p is xs) → RootsRepresent t meaning read nullable (filter p (i ∷ is)) (chosen p (i ∷ is) (x ∷ xs))
    go true e r = rw e (h.0, r)
    go false e r = rw e r

-- where nothing is reported in the others, the reports in those that are chosen are all
others_silent : (R : Spanned → List Span → Type 0) (p : ℕ → Bool) (is : List ℕ) (xs : List Spanned) → length is ≡ length xs
    → ((r i : ℕ) (x : Spanned) → slice_get is r ≡ Some i → slice_get xs r ≡ Some x → p i ≡ false → R x []) → (us : List Span) → AllReported R (chosen p is xs) us → AllReported R xs us
others_silent R p [] [] l f us h = h
others_silent R p [] (x ∷ xs) l f us h = absurd (omega arith)
others_silent R p (i ∷ is) [] l f us h = absurd (omega arith)
others_silent R p (i ∷ is) (x ∷ xs) l f us h = go (λ vs. others_silent R p is xs (omega arith) (λ r j y a b. f (suc r) j y a b) vs) (p i) refl h
  where
    go : ((vs : List Span) → AllReported R (chosen p is xs) vs → AllReported R xs vs) → (b : Bool) → p i ≡ b → AllReported R (pick b x (chosen p is xs)) us → AllReported R (x ∷ xs) us
    go k true e (ts, vs, q, r, s) = (ts, vs, q, k vs r, s)
    go k false e r = ([], us, f 0 i x refl refl e, k us r, refl)

all_silent : (R : Spanned → List Span → Type 0) (xs : List Spanned) → ((r : ℕ) (x : Spanned) → slice_get xs r ≡ Some x → R x []) → AllReported R xs []
all_silent R [] f = refl
all_silent R (x ∷ xs) f = ([], [], f 0 x refl, all_silent R xs (λ r y e. f (suc r) y e), refl)

in_sides : (s : Span) (ys zs : List Span) → In s (ys ++ zs) → In s ys ⊎ In s zs
in_sides s [] zs h = inr h
in_sides s (y ∷ ys) zs (inl e) = inl (inl e)
in_sides s (y ∷ ys) zs (inr i) = elim (in_sides s ys zs i) [ inl j ↦ inl (inr j) | inr j ↦ inr j ]

-- a report is one of some body
reported_at : (R : Spanned → List Span → Type 0) (xs : List Spanned) (us : List Span) → AllReported R xs us → (s : Span) → In s us → (r : ℕ) × (x : Spanned) × (ts : List Span) × (slice_get xs r ≡ Some x) × R x ts × In s ts
reported_at R [] us h s i = absurd (subst (In s) h i)
reported_at R (x ∷ xs) us (ts, vs, q, h, e) s i = elim (in_sides s ts vs (subst (In s) e i)) [
  | inl j ↦ (0, x, ts, refl, q, j)
  | inr j ↦ let d = reported_at R xs vs h s j in (suc d.0, d.1, d.2, d.3, d.4, d.5)
]

rule_at : (rules : List SpannedRule) (r : ℕ) (x : Spanned) → slice_get (map (λ (q : SpannedRule). q.body) rules) r ≡ Some x → (rule : SpannedRule) × (slice_get rules r ≡ Some rule) × (rule.body ≡ x)
rule_at rules r x e = go (slice_get rules r) refl (sym (slice_get-map (λ (q : SpannedRule). q.body) rules r) ∙ e)
  where
    go : (o : Option SpannedRule) → slice_get rules r ≡ o → option_map (λ q. q.body) o ≡ Some x → (rule : SpannedRule) × (slice_get rules r ≡ Some rule) × (rule.body ≡ x)
    go None a b = cc
    go (Some q) a b = (q, a, cc)

-- what is reported in the bodies of rules is certain
reports_certain : (limit turns : ℕ) (recursive : Text → Bool) (rules : List SpannedRule) (nullable : Spanned → Bool) → KnowsNullable (rules_without_spans rules) nullable → (SkippingAltersStack (rules_without_spans rules) → ⊥)
    → (spans : List Span) → AllReported (ReportedFrom limit turns recursive (rules_without_spans rules) nullable) (map (λ (r : SpannedRule). r.body) rules) spans → AreCertain limit turns recursive rules spans
reports_certain limit turns recursive rules nullable knows calm spans h s i =
    let g = rules_without_spans rules in
    let (r, x, ts, at, q, j) = reported_at (ReportedFrom limit turns recursive g nullable) (map (λ (r : SpannedRule). r.body) rules) spans h s i in
    let (rule, here, e) = rule_at rules r x at in
    (r, rule, here, subst (λ z. IsCertainAt limit turns recursive g z s) (sym e) (reported_is_certain limit turns recursive g nullable knows calm x ts q s j))

-- the bodies of rules
abbrev bodies : List ParserRule → List Spanned
bodies rules = map (λ r. view r.node) rules

roots_stand : (t : Table) (meaning : Meaning) (read : Spanned → AbstractStack → says.Reading) (nullable : Spanned → Bool) (is : List ℕ) (xs : List Spanned) → length is ≡ length xs
    → ((r i : ℕ) (x : Spanned) → slice_get is r ≡ Some i → slice_get xs r ≡ Some x → Represents t meaning read nullable i x) → RootsRepresent t meaning read nullable is xs
roots_stand t meaning read nullable [] [] l f = tt
roots_stand t meaning read nullable (i ∷ is) (x ∷ xs) l f = (f 0 i x refl refl, roots_stand t meaning read nullable is xs (omega arith) (λ r j y a b. f (suc r) j y a b))
roots_stand t meaning read nullable [] (x ∷ xs) l f = absurd (omega arith)
roots_stand t meaning read nullable (i ∷ is) [] l f = absurd (omega arith)

body_at : (rules : List ParserRule) (r : ℕ) (x : Spanned) → slice_get (bodies rules) r ≡ Some x → (rule : ParserRule) × (slice_get rules r ≡ Some rule) × (view rule.node ≡ x)
body_at rules r x e = go (slice_get rules r) refl (sym (slice_get-map (λ (q : ParserRule). view q.node) rules r) ∙ e)
  where
    go : (o : Option ParserRule) → slice_get rules r ≡ o → option_map (λ q. view q.node) o ≡ Some x → (rule : ParserRule) × (slice_get rules r ≡ Some rule) × (view rule.node ≡ x)
    go None a b = cc
    go (Some q) a b = (q, a, cc)

-- the same bodies, in other words
same_bodies : (rs : List ParserRule) → bodies rs ≡ map (λ (r : SpannedRule). r.body) (rule_views rs)
same_bodies [] = refl
same_bodies (r ∷ rs) = ap (λ z. view r.node ∷ z) (same_bodies rs)

module _ (rules : List ParserRule) (t : Table) (h : IsTableOf rules t) (flags : List Bool) (others : AreSilent rules t.roots.items flags) where
  abbrev p : ℕ → Bool
  p = is_set_at flags

  abbrev named : List ℕ → Bool
  named n = name_flag (grammar_of rules) t.roots.items t.nullable.items n

  abbrev nullable : Spanned → Bool
  nullable x = may_stay named (without_spans x)

  abbrev meaning : Meaning
  meaning = tied.meaning rules t h.tabled h.ordered

  abbrev read : Spanned → AbstractStack → says.Reading
  read = tied.read rules t h.tabled h.ordered

  stand : RootsRepresent t meaning read nullable t.roots.items (bodies rules)
  stand = roots_stand t meaning read nullable t.roots.items (bodies rules) (h.tabled.roots.alike ∙ sym (length-map rules (λ (q : ParserRule). view q.node)))
      (λ r i x a b. let (rule, at, e) = body_at rules r x b in
      subst (λ z. Represents t meaning read nullable i z) e
      (tied.stands rules t h.tabled h.ordered nullable (λ j y g. null_at rules t.roots.items h.tabled.roots t.nullable.items h.nullable y j g) (view rule.node) i (h.tabled.roots.lie r i rule at a)))

  abbrev Reports : Spanned → List Span → Type 0
  Reports = ReportedFrom t.limit t.turns (is_flagged (grammar_of rules) t.recursive.items) (grammar_of rules) nullable

  -- what is found is what the direct reading reports
  reported : (found : List code_span.Span) → FindsAll t (filter p t.roots.items) found → AllReported Reports (bodies rules) (map piece_of found)
  reported found f =
      let xs = chosen p t.roots.items (bodies rules) in
      others_silent Reports p t.roots.items (bodies rules) (h.tabled.roots.alike ∙ sym (length-map rules (λ (q : ParserRule). view q.node)))
      (λ r i x a b off. let (rule, at, e) = body_at rules r x b in
      subst (λ z. Reports z []) e (others r i rule at a off t.limit t.turns (is_flagged (grammar_of rules) t.recursive.items) nullable))
      (map piece_of found)
      (subst (λ k. AllReported (ReportedIn t.limit t.turns (λ y a. reading t.limit k (name_reading t.limit k (is_flagged (grammar_of rules) t.recursive.items) (grammar_of rules) (length (grammar_of rules))) (without_spans y) a) nullable (λ a. a ≡ entry)) xs (map piece_of found)) h.skips
      (f.value meaning (tied.is_meaning rules t h.tabled h.ordered) read nullable xs (chosen_stand t meaning read nullable p t.roots.items (bodies rules) stand)))

  read_to : (found : List code_span.Span) → FindsAll t (filter p t.roots.items) found → (limit : ℕ) → most_stacks < limit
      → AllReported (ReportedFrom limit t.turns (is_flagged (grammar_of rules) t.recursive.items) (grammar_of rules) nullable) (map (λ (r : SpannedRule). r.body) (rule_views rules)) (map piece_of found)
  read_to found f limit k =
      with_limit t.limit h.limit limit k t.turns (is_flagged (grammar_of rules) t.recursive.items) (grammar_of rules) nullable _ _
      (subst (λ z. AllReported Reports z (map piece_of found)) (same_bodies rules) (reported found f))

  -- what is found is what the direct reading reports, in other words
  pub all_plain : (found : List code_span.Span) → FindsAll t (filter p t.roots.items) found → AreFound (rule_views rules) (map piece_of found)
  all_plain found f = record {
    silent = λ s. absurd (h.calm s);
    plain = λ n. record {
      recursive = is_flagged (grammar_of rules) t.recursive.items;
      reaches_itself = flagged_reaches rules t h;
      nullable = nullable;
      knows = λ x. decided rules t.roots.items h.tabled.roots t.nullable.items h.nullable (without_spans x);
      turns = t.turns;
      most_searched = h.turns;
      read = read_to found f;
      certain = λ limit k. reports_certain limit t.turns (is_flagged (grammar_of rules) t.recursive.items) (rule_views rules) nullable
          (knows_nullable rules t.roots.items h.tabled.roots t.nullable.items h.nullable) h.calm (map piece_of found) (read_to found f limit k);
    };
  }

-- where nothing may be reported in any body, nothing is
module _ (rules : List ParserRule) (ns : List PassNode) (roots : List ℕ) (tabled : AreTabled rules (kind_in (grammar_of rules)) ns roots) (flags : List Bool) (may : AreReportable ns roots flags)
    (off : (r i : ℕ) → slice_get roots r ≡ Some i → is_set_at flags i ≡ false) where
  abbrev takes_nothing : Spanned → Bool
  takes_nothing x = may_stay (is_null rules) (without_spans x)

  abbrev none_in : Spanned → List Span → Type 0
  none_in = ReportedFrom (suc most_stacks) 64 (recursive rules ns roots tabled) (grammar_of rules) takes_nothing

  body_silent : (r : ℕ) (x : Spanned) → slice_get (bodies rules) r ≡ Some x → none_in x []
  body_silent r x e =
      let (rule, at, same) = body_at rules r x e in
      let (i, root) = got_alike rules roots r rule at (sym tabled.roots.alike) in
      subst (λ z. none_in z []) same (silent rules ns roots tabled flags may r i rule at root (off r i root) (suc most_stacks) 64 (recursive rules ns roots tabled) takes_nothing)

  pub plain_none : AreFound (rule_views rules) []
  plain_none = record {
    silent = λ s. refl;
    plain = λ n. record {
      recursive = recursive rules ns roots tabled;
      reaches_itself = recursive_reaches rules ns roots tabled;
      nullable = takes_nothing;
      knows = λ x. settled_null rules (without_spans x);
      turns = 64;
      most_searched = refl;
      certain = λ limit k s i. absurd i;
      read = λ limit k. with_limit (suc most_stacks) refl limit k 64 (recursive rules ns roots tabled) (grammar_of rules) takes_nothing _ _
          (subst (λ z. AllReported none_in z []) (same_bodies rules) (all_silent none_in (bodies rules) body_silent));
    };
  }
