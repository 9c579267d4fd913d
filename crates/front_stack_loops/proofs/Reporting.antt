-- What is reported in a node, from what is reported in its operands.
use Rattle.std.proofs.Common.{◌≡◌, ℕ, List, [], ◌∷◌, ◌++◌, Some, Bool, inl, inr, slice_get, map, refl, sym, ◌∙◌, ap, subst, append_assoc}
use Rattle.std.proofs.lemmas.List.{map_push}
use Rattle.base_graphs.specs.Least.{is_set_at}
use Rattle.front_spanned.specs.Nodes.{piece_of}
use Rattle.front_spanned.specs.Spanned.{Span, Spanned, Leaf, One, Two}
use Rattle.front_stack_domain.specs.Stack.{AbstractStack, In}
use Rattle.front_stack_domain.specs.Reading as says
use Rattle.front_stack_domain.specs.Reading.{loops}
use Rattle.front_stack_domain.specs.Walks.{next_after}
use Rattle.front_stack_domain.specs.Reported.{starts, copies_of, is_endless, is_choice, ReportedIn, SomeLoop}
use Rattle.front_stack_loops.specs.Table.{IsMeaning, HasParts, copies, nodes_of, parts_of}
use Rattle.front_stack_loops.specs.Memory.{Meaning, IsRight}
use Rattle.front_stack_loops.specs.Following.{seen_stacks}
use Rattle.front_stack_loops.specs.Visiting.{Collects, IsAfter, IsStartOf, IsReportedWhereItLoops, SomeLoops, Represents}
use Rattle.front_stack_domain.specs.declared.stack.Stack.{Stack}
use Rattle.front_stack_loops.specs.declared.table.PassNode.{PassNode}
use Rattle.front_stack_loops.specs.declared.table.Parts.{Parts}
use Rattle.front_stack_loops.specs.declared.table.Parts.TheVariants as parts
use Rattle.front_stack_loops.specs.declared.table.Table.{Table}
use Rattle.front_stack_loops.specs.declared.memory.Memory.{Memory}
use Rattle.base_language.specs.declared.runtime.places.Span as code_span

-- reports depend on which stacks there are, and not on how these are told
module _ (limit turns : ℕ) (read : Spanned → AbstractStack → says.Reading) (nullable : Spanned → Bool) where
  pub told_otherwise : (x : Spanned) (S T : AbstractStack → Type 0) (ts : List Span) → ((a : AbstractStack) → S a → T a) → ((a : AbstractStack) → T a → S a) → ReportedIn limit turns read nullable S x ts → ReportedIn limit turns read nullable T x ts
  told_otherwise (Leaf t e) S T ts f g h = h
  told_otherwise (One t k x) S T ts f g (us, r, own) = (
    us,
    told_otherwise x _ _ us (λ b s. (s.0, f s.0 s.1, s.2)) (λ b s. (s.0, g s.0 s.1, s.2)) r,
    elim own [
      | inl p ↦ inl (p.0, p.1, (p.2.0, f p.2.0 p.2.1, p.2.2), p.3)
      | inr p ↦ inr (λ e n l. p.0 e n (l.0, g l.0 l.1, l.2), p.1)
    ],
  )
  told_otherwise (Two t k x y) S T ts f g (us, vs, r, q, e) =
      (us, vs, told_otherwise x S T us f g r, told_otherwise y _ _ vs (λ b s. (s.0, f s.0 s.1, s.2)) (λ b s. (s.0, g s.0 s.1, s.2)) q, e)

same_parts : (t : Table) (i : ℕ) (ps : Parts) (n : PassNode) → HasParts t i ps → slice_get (nodes_of t) i ≡ Some n → parts_of n.kind ≡ ps
same_parts t i ps n h g = let e : Some h.node ≡ Some n = sym h.at ∙ g in let f : h.node ≡ n = cc in ap (λ n. parts_of n.kind) (sym f) ∙ h.parts

module _ (t : Table) (node : ℕ) (ss : List Stack) (meaning : Meaning) (read : Spanned → AbstractStack → says.Reading) (nullable : Spanned → Bool) where
  abbrev Reports : List Stack → Spanned → List Span → Type 0
  Reports stacks x ts = ReportedIn t.limit t.turns read nullable (λ a. In a (seen_stacks stacks)) x ts

  pub none_reports : HasParts t node parts.Nothing → (x : Spanned) → Represents t meaning read nullable node x → Reports ss x []
  none_reports has (Leaf s e) st = refl
  none_reports has (One s f x) st = let e : parts.Inside st.1 st.2 st.3 (is_endless f) ≡ parts.Nothing = sym st.5 ∙ same_parts t node parts.Nothing st.0 has st.4 in cc
  none_reports has (Two s f x y) st = let e : parts.Both st.1 st.2 (is_choice f) ≡ parts.Nothing = sym st.4 ∙ same_parts t node parts.Nothing st.0 has st.3 in cc

  pub both_reports : (a b : Memory) (first second : ℕ) (choice : Bool) (next : List Stack) → HasParts t node (parts.Both first second choice)
      → Collects t a b (λ meaning. IsAfter (meaning first) choice) ss next → IsMeaning t meaning → IsRight meaning a → (x : Spanned) → Represents t meaning read nullable node x
      → (y : Spanned) × (z : Spanned) × Represents t meaning read nullable first y × Represents t meaning read nullable second z
      × ((us vs : List Span) → Reports ss y us → Reports next z vs → Reports ss x (us ++ vs))
  both_reports a b first second choice next has n h i (Leaf s e) (m, g, p) = let q : parts.Nothing ≡ parts.Both first second choice = sym p ∙ same_parts t node (parts.Both first second choice) m has g in cc
  both_reports a b first second choice next has n h i (One s f x) st =
      let q : parts.Inside st.1 st.2 st.3 (is_endless f) ≡ parts.Both first second choice = sym st.5 ∙ same_parts t node (parts.Both first second choice) st.0 has st.4 in cc
  both_reports a b first second choice next has n h i (Two s f x y) (m, j, k, g, p, does, sx, sy) =
      let q : parts.Both j k (is_choice f) ≡ parts.Both first second choice = sym p ∙ same_parts t node (parts.Both first second choice) m has g in
      let ej : j ≡ first = cc in
      let ek : k ≡ second = cc in
      let ec : is_choice f ≡ choice = cc in
      let same : (a b : AbstractStack) → next_after choice (meaning first a) a ≡ next_after (is_choice f) (read x a) a = λ a b.
      ap (λ c. next_after c (meaning first a) a) (sym ec) ∙ ap (λ z. next_after (is_choice f) (z a) a) (ap meaning (sym ej) ∙ does.reads) in (
        x,
        y,
        subst (λ j. Represents t meaning read nullable j x) ej sx,
        subst (λ k. Represents t meaning read nullable k y) ek sy,
        λ us vs u v. (
          us,
          vs,
          u,
          told_otherwise t.limit t.turns read nullable y (λ a. In a (seen_stacks next)) (λ b. (a : AbstractStack) × In a (seen_stacks ss) × (next_after (is_choice f) (read x a) a ≡ Some b)) vs
              (λ b w. let z = n.sound meaning h i b w in (z.0, z.1, sym (same z.0 b) ∙ z.2))
              (λ b w. n.complete meaning h i w.0 b w.1 (same w.0 b ∙ w.2)) v,
          refl,
        ),
      )

  pub inside_reports : (a b c : Memory) (body required optional : ℕ) (endless : Bool) (next : List Stack) (before after : List code_span.Span)
      → HasParts t node (parts.Inside body required optional endless) → IsReportedWhereItLoops t a b node body endless ss before after
      → Collects t b c (λ meaning. IsStartOf t.limit (meaning body) (copies required optional endless)) ss next → IsMeaning t meaning → IsRight meaning a
      → (x : Spanned) → Represents t meaning read nullable node x
      → (y : Spanned) × Represents t meaning read nullable body y
      × ((us : List Span) → Reports next y us → (ts : List Span) × Reports ss x ts × (map piece_of before ++ ts ≡ map piece_of after ++ us))
  inside_reports a b c body required optional endless next before after has l n h i (Leaf s e) (m, g, p) =
      let q : parts.Nothing ≡ parts.Inside body required optional endless = sym p ∙ same_parts t node (parts.Inside body required optional endless) m has g in cc
  inside_reports a b c body required optional endless next before after has l n h i (Two s f x y) st =
      let q : parts.Both st.1 st.2 (is_choice f) ≡ parts.Inside body required optional endless = sym st.4 ∙ same_parts t node (parts.Inside body required optional endless) st.0 has st.3 in cc
  inside_reports a b c body required optional endless next before after has l n h i (One s f x) (m, j, r, o, g, p, ec, es, does, sx) =
      let q : parts.Inside j r o (is_endless f) ≡ parts.Inside body required optional endless = sym p ∙ same_parts t node (parts.Inside body required optional endless) m has g in
      let ej : j ≡ body = cc in
      let er : r ≡ required = cc in
      let eo : o ≡ optional = cc in
      let ee : is_endless f ≡ endless = cc in
      let cs : copies required optional endless ≡ copies_of f = ap (λ z. copies z optional endless) (sym er) ∙ (ap (λ z. copies r z endless) (sym eo) ∙ (ap (λ z. copies r o z) (sym ee) ∙ ec)) in
      let step : meaning body ≡ read x = ap meaning (sym ej) ∙ does.reads in
      let i1 = l.kept meaning h i in
      let same : (a : AbstractStack) → starts t.limit (meaning body) (copies required optional endless) (Some a) ≡ starts t.limit (read x) (copies_of f) (Some a) = λ a.
      ap (λ z. starts t.limit z (copies required optional endless) (Some a)) step ∙ ap (λ z. starts t.limit (read x) z (Some a)) cs in
      let own = l.value meaning h i m g in
      let null : is_set_at t.nullable.items body ≡ nullable x = ap (is_set_at t.nullable.items) (sym ej) ∙ does.null in
      let Starts : AbstractStack → Type 0 = λ b. (a : AbstractStack) × In a (seen_stacks ss) × In b (starts t.limit (read x) (copies_of f) (Some a)) in
      let inner : (us : List Span) → Reports next x us → ReportedIn t.limit t.turns read nullable Starts x us = λ us v.
      told_otherwise t.limit t.turns read nullable x (λ a. In a (seen_stacks next)) Starts us
      (λ b w. let z = n.sound meaning h i1 b w in (z.0, z.1, subst (In b) (same z.0) z.2))
      (λ b w. n.complete meaning h i1 w.0 b w.1 (subst (In b) (sym (same w.0)) w.2)) v in
      let loop_there : SomeLoops t meaning body ss → SomeLoop t.limit t.turns read nullable (λ a. In a (seen_stacks ss)) x = λ w. (w.0, w.1, ap (λ z. loops t.turns z w.0) (sym step) ∙ w.2) in
      let loop_here : SomeLoop t.limit t.turns read nullable (λ a. In a (seen_stacks ss)) x → SomeLoops t meaning body ss = λ w. (w.0, w.1, ap (λ z. loops t.turns z w.0) step ∙ w.2) in (
        x,
        subst (λ j. Represents t meaning read nullable j x) ej sx,
        λ us v. elim own [
          | inl w ↦ (
            s ∷ us,
            (us, inner us v, inl (ee ∙ w.0, sym null ∙ w.1, loop_there w.2, refl)),
            sym (ap (λ z. map piece_of z ++ us) w.3 ∙ (ap (λ z. z ++ us) (map_push piece_of before m.span.now ∙ ap (λ z. map piece_of before ++ z ∷ []) es) ∙ append_assoc (map piece_of before) (s ∷ []) us)),
          )
          | inr w ↦ (us, (us, inner us v, inr (λ e z k. w.0 (sym ee ∙ e) (null ∙ z) (loop_here k), refl)), sym (ap (λ z. map piece_of z ++ us) w.1))
        ],
      )
