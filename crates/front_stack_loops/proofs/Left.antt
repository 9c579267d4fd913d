-- Nodes that are still to be visited, and what is reported in them.
use Rattle.std.proofs.Common.{◌≡◌, ◌∙◌, sym, ap, subst, refl, arith, ℕ, ◌+◌, ◌<◌, List, [], ◌∷◌, ◌++◌, Bool, map, append_assoc, append-nil, length}
use Rattle.front_spanned.specs.Nodes.{piece_of}
use Rattle.front_spanned.specs.Spanned.{Span, Spanned}
use Rattle.front_stack_domain.specs.Stack.{AbstractStack, In}
use Rattle.front_stack_domain.specs.Reading as says
use Rattle.front_stack_domain.specs.Reported.{ReportedIn}
use Rattle.front_stack_loops.specs.Table.{HasParts, Inside, copies, level, nodes_of}
use Rattle.front_stack_loops.specs.Memory.{Meaning}
use Rattle.front_stack_loops.specs.Following.{seen_stacks}
use Rattle.front_stack_loops.specs.Visiting.{Collects, IsAfter, IsStartOf, IsReportedWhereItLoops, FindsIn, Represents, PendingRepresent, ReportedLeft, AreLeftLow, VisitsNodes, VisitsOn, effort_left}
use Rattle.front_stack_loops.specs.Waiting.{IsLow, effort_of}
use Rattle.front_stack_loops.specs.declared.table.Parts.TheVariants as parts
use Rattle.front_stack_loops.specs.declared.table.Table.{Table}
use Rattle.front_stack_loops.specs.declared.memory.Memory.{Memory}
use Rattle.front_stack_loops.specs.declared.visits.Pending.{Pending}
use Rattle.base_language.specs.declared.runtime.places.Span as code_span
use Rattle.front_stack_loops.proofs.Awaiting.{level_inside, more_effort, some_effort}
use Rattle.front_stack_loops.proofs.Reporting.{none_reports, both_reports, inside_reports}

module _ (t : Table) (meaning : Meaning) (read : Spanned → AbstractStack → says.Reading) (nullable : Spanned → Bool) where
  abbrev Stand : List Pending → List Spanned → Type 0
  Stand vs xs = PendingRepresent t meaning read nullable vs xs

  abbrev Told : List Pending → List Spanned → List Span → Type 0
  Told vs xs us = ReportedLeft t meaning read nullable vs xs us

  abbrev Own : Pending → Spanned → List Span → Type 0
  Own v x ts = ReportedIn t.limit t.turns read nullable (λ a. In a (seen_stacks v.stacks.items)) x ts

  stand_push : (vs : List Pending) (xs : List Spanned) (v : Pending) (x : Spanned) → Stand vs xs → Represents t meaning read nullable v.node x → Stand (vs ++ v ∷ []) (xs ++ x ∷ [])
  stand_push [] [] v x h s = (s, tt)
  stand_push [] (y ∷ ys) v x h s = absurd h
  stand_push (w ∷ vs) [] v x h s = absurd h
  stand_push (w ∷ vs) (y ∷ ys) v x h s = (h.0, stand_push vs ys v x h.1 s)

  stand_pop : (vs : List Pending) (xs : List Spanned) (v : Pending) → Stand (vs ++ v ∷ []) xs → (ys : List Spanned) × (x : Spanned) × (xs ≡ ys ++ x ∷ []) × Stand vs ys × Represents t meaning read nullable v.node x
  stand_pop [] [] v h = absurd h
  stand_pop [] (x ∷ []) v h = ([], x, refl, tt, h.0)
  stand_pop [] (x ∷ y ∷ xs) v h = absurd h.1
  stand_pop (w ∷ vs) [] v h = absurd h
  stand_pop (w ∷ vs) (x ∷ xs) v h = let (ys, z, e, r, s) = stand_pop vs xs v h.1 in (x ∷ ys, z, ap (λ l. x ∷ l) e, (h.0, r), s)

  told_push : (vs : List Pending) (xs : List Spanned) (v : Pending) (x : Spanned) (us ts : List Span) → Told vs xs us → Own v x ts → Told (vs ++ v ∷ []) (xs ++ x ∷ []) (ts ++ us)
  told_push [] [] v x us ts h r = (ts, [], r, refl, ap (λ z. ts ++ z) h ∙ append-nil ts)
  told_push [] (y ∷ ys) v x us ts h r = absurd h
  told_push (w ∷ vs) [] v x us ts h r = absurd h
  told_push (w ∷ vs) (y ∷ ys) v x us ts (u, rest, q, l, e) r = (u, ts ++ rest, q, told_push vs ys v x rest ts l r, ap (λ z. ts ++ z) e ∙ sym (append_assoc ts rest u))

  told_pop : (vs : List Pending) (xs : List Spanned) (v : Pending) (x : Spanned) (us : List Span) → Stand vs xs → Told (vs ++ v ∷ []) (xs ++ x ∷ []) us
      → (ts : List Span) × (rest : List Span) × Own v x ts × Told vs xs rest × (us ≡ ts ++ rest)
  told_pop [] [] v x us s (ts, rest, r, e, q) = (ts, [], r, refl, q ∙ (ap (λ z. z ++ ts) e ∙ sym (append-nil ts)))
  told_pop [] (y ∷ ys) v x us s h = absurd s
  told_pop (w ∷ vs) [] v x us s h = absurd s
  told_pop (w ∷ vs) (y ∷ ys) v x us s (u, rest, q, l, e) =
      let (ts, more, r, m, f) = told_pop vs ys v x rest s.1 l in (ts, more ++ u, r, (u, more, q, m, refl), e ∙ (ap (λ z. z ++ u) f ∙ append_assoc ts more u))

effort_last : (t : Table) (vs : List Pending) (v : Pending) → effort_left t (vs ++ v ∷ []) ≡ effort_left t vs + effort_of t v.node
effort_last t [] v = omega arith
effort_last t (w ∷ vs) v = let e = effort_last t vs v in omega arith

low_last : (t : Table) (l : ℕ) (vs : List Pending) (v : Pending) → AreLeftLow t l vs → IsLow t l v.node → AreLeftLow t l (vs ++ v ∷ [])
low_last t l [] v h a = (a, tt)
low_last t l (w ∷ vs) v h a = (h.0, low_last t l vs v h.1 a)

pub low_first : (t : Table) (l : ℕ) (vs : List Pending) (v : Pending) → AreLeftLow t l (vs ++ v ∷ []) → AreLeftLow t l vs × IsLow t l v.node
low_first t l [] v h = (tt, h.0)
low_first t l (w ∷ vs) v h = let z = low_first t l vs v h.1 in ((h.0, z.0), z.1)

lower : (t : Table) (l i j : ℕ) → Inside t i j → IsLow t l i → IsLow t l j
lower t l i j h a = record { within = h.within; low = (let b = level_inside t i j h in let c = a.low in omega arith) }

-- a node without operands
pub visits_none : (t : Table) (m : Memory) (ws : List Pending) (v : Pending) (found : List code_span.Span) → HasParts t v.node parts.Nothing → VisitsOn t m m (ws ++ v ∷ []) found ws found
visits_none t m ws v found has = record {
  visits = record {
    kept = λ meaning h i. i;
    value = λ meaning h i read nullable xs st.
        let (ys, x, e, s, sx) = stand_pop t meaning read nullable ws xs v st in (
          ys,
          s,
          λ us r. (
            us,
            subst (λ z. ReportedLeft t meaning read nullable (ws ++ v ∷ []) z us) (sym e)
                (told_push t meaning read nullable ws ys v x us [] r (none_reports t v.node v.stacks.items meaning read nullable has x sx)),
            refl,
          ),
        );
  };
  less = let e = effort_last t ws v in let f = some_effort t v.node in omega arith;
  low = λ l a. (low_first t l ws v a).0;
}

-- a node with two operands
pub visits_both : (t : Table) (a b : Memory) (ws vs : List Pending) (v w u : Pending) (choice : Bool) (found : List code_span.Span) → HasParts t v.node (parts.Both u.node w.node choice)
    → Collects t a b (λ meaning. IsAfter (meaning u.node) choice) v.stacks.items w.stacks.items → u.stacks.items ≡ v.stacks.items → Inside t v.node u.node × Inside t v.node w.node
    → vs ≡ (ws ++ w ∷ []) ++ u ∷ [] → VisitsOn t a b (ws ++ v ∷ []) found vs found
visits_both t a b ws vs v w u choice found has n same inside items = record {
  visits = record {
    kept = n.kept;
    value = λ meaning h i read nullable xs st.
        let (ys, x, e, s, sx) = stand_pop t meaning read nullable ws xs v st in
        let (y, z, sy, sz, all) = both_reports t v.node v.stacks.items meaning read nullable a b u.node w.node choice w.stacks.items has n h i x sx in
        let sw = stand_push t meaning read nullable ws ys w z s sz in (
          (ys ++ z ∷ []) ++ y ∷ [],
          subst (λ l. PendingRepresent t meaning read nullable l ((ys ++ z ∷ []) ++ y ∷ [])) (sym items) (stand_push t meaning read nullable (ws ++ w ∷ []) (ys ++ z ∷ []) u y sw sy),
          λ us r.
              let (u1, rest, r1, l1, e1) = told_pop t meaning read nullable (ws ++ w ∷ []) (ys ++ z ∷ []) u y us sw (subst (λ l. ReportedLeft t meaning read nullable l ((ys ++ z ∷ []) ++ y ∷ []) us) items r) in
              let (u2, more, r2, l2, e2) = told_pop t meaning read nullable ws ys w z rest s l1 in
              let own = all u1 u2 (subst (λ ss. ReportedIn t.limit t.turns read nullable (λ a. In a (seen_stacks ss)) y u1) same r1) r2 in (
                (u1 ++ u2) ++ more,
                subst (λ l. ReportedLeft t meaning read nullable (ws ++ v ∷ []) l ((u1 ++ u2) ++ more)) (sym e) (told_push t meaning read nullable ws ys v x more (u1 ++ u2) l2 own),
                ap (λ l. map piece_of found ++ l) (append_assoc u1 u2 more ∙ (sym (ap (λ l. u1 ++ l) e2) ∙ sym e1)),
              ),
        );
  };
  less =
      let e = effort_last t ws v in
      let f = ap (effort_left t) items ∙ effort_last t (ws ++ w ∷ []) u in
      let g = effort_last t ws w in
      let h = more_effort t v.node u.node (level_inside t v.node u.node inside.0) in
      let i = more_effort t v.node w.node (level_inside t v.node w.node inside.1) in omega arith;
  low = λ l p.
      let z = low_first t l ws v p in
      subst (AreLeftLow t l) (sym items) (low_last t l (ws ++ w ∷ []) u (low_last t l ws w z.0 (lower t l v.node w.node inside.1 z.1)) (lower t l v.node u.node inside.0 z.1));
}

-- a node with one operand
pub visits_inside : (t : Table) (a b c : Memory) (ws vs : List Pending) (v w : Pending) (required optional : ℕ) (endless : Bool) (before after : List code_span.Span)
    → HasParts t v.node (parts.Inside w.node required optional endless) → IsReportedWhereItLoops t a b v.node w.node endless v.stacks.items before after
    → Collects t b c (λ meaning. IsStartOf t.limit (meaning w.node) (copies required optional endless)) v.stacks.items w.stacks.items → Inside t v.node w.node
    → vs ≡ ws ++ w ∷ [] → VisitsOn t a c (ws ++ v ∷ []) before vs after
visits_inside t a b c ws vs v w required optional endless before after has l n inside items = record {
  visits = record {
    kept = λ meaning h i. n.kept meaning h (l.kept meaning h i);
    value = λ meaning h i read nullable xs st.
        let (ys, x, e, s, sx) = stand_pop t meaning read nullable ws xs v st in
        let (y, sy, all) = inside_reports t v.node v.stacks.items meaning read nullable a b c w.node required optional endless w.stacks.items before after has l n h i x sx in (
          ys ++ y ∷ [],
          subst (λ l. PendingRepresent t meaning read nullable l (ys ++ y ∷ [])) (sym items) (stand_push t meaning read nullable ws ys w y s sy),
          λ us r.
              let (u1, rest, r1, l1, e1) = told_pop t meaning read nullable ws ys w y us s (subst (λ l. ReportedLeft t meaning read nullable l (ys ++ y ∷ []) us) items r) in
              let (ts, own, q) = all u1 r1 in (
                ts ++ rest,
                subst (λ l. ReportedLeft t meaning read nullable (ws ++ v ∷ []) l (ts ++ rest)) (sym e) (told_push t meaning read nullable ws ys v x rest ts l1 own),
                sym (append_assoc (map piece_of before) ts rest) ∙ (ap (λ l. l ++ rest) q ∙ (append_assoc (map piece_of after) u1 rest ∙ ap (λ l. map piece_of after ++ l) (sym e1))),
              ),
        );
  };
  less =
      let e = effort_last t ws v in
      let f = ap (effort_left t) items ∙ effort_last t ws w in
      let h = more_effort t v.node w.node (level_inside t v.node w.node inside) in omega arith;
  low = λ k p. let z = low_first t k ws v p in subst (AreLeftLow t k) (sym items) (low_last t k ws w z.0 (lower t k v.node w.node inside z.1));
}

-- a node is visited so far
pub record VisitedSoFar (t : Table) (old now : Memory) (v : Pending) (before : List code_span.Span) (ws : List Pending) (found : List code_span.Span) : Type 0 where
  pub visits : VisitsNodes t old now (v ∷ []) before ws found
  pub low : AreLeftLow t (level t v.node) ws

pub visit_begun : (t : Table) (m : Memory) (v : Pending) (found : List code_span.Span) (ws : List Pending) → ws ≡ v ∷ [] → v.node < length (nodes_of t) → VisitedSoFar t m m v found ws found
visit_begun t m v found ws e within = record {
  visits = subst (λ l. VisitsNodes t m m (v ∷ []) found l found) (sym e) (record { kept = λ meaning h i. i; value = λ meaning h i read nullable xs st. (xs, st, λ us r. (us, r, refl)) });
  low = subst (AreLeftLow t (level t v.node)) (sym e) (record { within = within; low = omega arith }, tt);
}

pub visit_on : (t : Table) (old now new : Memory) (v : Pending) (before middle after : List code_span.Span) (ws vs : List Pending) → VisitedSoFar t old now v before ws middle → VisitsOn t now new ws middle vs after
    → VisitedSoFar t old new v before vs after
visit_on t old now new v before middle after ws vs p q = record {
  visits = record {
    kept = λ meaning h i. q.visits.kept meaning h (p.visits.kept meaning h i);
    value = λ meaning h i read nullable xs st.
        let (ys, s, f) = p.visits.value meaning h i read nullable xs st in
        let (zs, k, g) = q.visits.value meaning h (p.visits.kept meaning h i) read nullable ys s in
        (zs, k, λ us r. let (m, l, e) = g us r in let (ts, o, d) = f m l in (ts, o, d ∙ e));
  };
  low = q.low (level t v.node) p.low;
}

pub visited_all : (t : Table) (old new : Memory) (v : Pending) (before after : List code_span.Span) (ws : List Pending) → ws ≡ [] → VisitedSoFar t old new v before ws after → FindsIn t old new v.node v.stacks.items before after
visited_all t old new v before after ws none p = record {
  kept = p.visits.kept;
  value = λ meaning h i read nullable x st.
      let (ys, s, f) = p.visits.value meaning h i read nullable (x ∷ []) (st, tt) in
      go meaning read nullable x ys (subst (λ l. PendingRepresent t meaning read nullable l ys) none s)
      (λ us r. f us (subst (λ l. ReportedLeft t meaning read nullable l ys us) (sym none) r));
}
  where
    go : (meaning : Meaning) (read : Spanned → AbstractStack → says.Reading) (nullable : Spanned → Bool) (x : Spanned) (ys : List Spanned) → PendingRepresent t meaning read nullable [] ys
        → ((us : List Span) → ReportedLeft t meaning read nullable [] ys us → (ts : List Span) × ReportedLeft t meaning read nullable (v ∷ []) (x ∷ []) ts × (map piece_of before ++ ts ≡ map piece_of after ++ us))
        → (ts : List Span) × ReportedIn t.limit t.turns read nullable (λ a. In a (seen_stacks v.stacks.items)) x ts × (map piece_of after ≡ map piece_of before ++ ts)
    go meaning read nullable x [] s f =
        let (ts, (own, rest, r, e, q), d) = f [] refl in
        (own, r, sym (append-nil (map piece_of after)) ∙ (sym d ∙ ap (λ l. map piece_of before ++ l) (q ∙ ap (λ l. l ++ own) e)))
    go meaning read nullable x (y ∷ ys) s f = absurd s
