-- What the search does at a node.
use Rattle.std.proofs.Common.{◌≡◌, inl, inr, ℕ, zero, suc, ◌+◌, ◌<◌, List, [], ◌∷◌, ◌++◌, Option, Some, None, Bool, true, false, if◌then◌else◌, slice_get, length, refl, sym, ◌∙◌, ap, subst, arith}
use Rattle.std.proofs.lemmas.List.{append_assoc, append-nil}
use Rattle.std.specs.List.{Contains}
use Rattle.std.proofs.Math.ListN.{set}
use Rattle.base_language.specs.Language.Text.{Text}
use Rattle.base_language.specs.Language.Expression as bare
use Rattle.base_language.specs.Language.Expression.{Expression, Ident, Grammar, last_place}
use Rattle.base_language.specs.Language.WellFormed.{IsNullable}
use Rattle.front_spanned.specs.Erasure.{without_spans}
use Rattle.front_spanned.specs.Nodes.{rule_views}
use Rattle.front_spanned.specs.Spanned.{Span, Spanned, Leaf, One, Two, Seq, Choice, SpannedRule}
use Rattle.front_spanned.specs.declared.node.ParserRule.{ParserRule}
use Rattle.base_graphs.specs.Least.{is_set_at}
use Rattle.front_analysis.specs.Facts.{AreFacts}
use Rattle.front_validator.specs.LeftRecursion.{IsNoName, said, Means, Passes}
use Rattle.front_analysis.specs.Names.{grammar_of, is_end}
use Rattle.front_analysis.specs.NameKinds.{kind_in, name_kind}
use Rattle.front_analysis.specs.Nodes.{IsSimple, all_nodes, size}
use Rattle.front_analysis.specs.Kinds.{Fits, leaf_kind, wrap_kind, wrap_of, both_kind}
use Rattle.front_validator.specs.Regions.{IsNodeOf, ArePassing}
use Rattle.front_validator.specs.Searching.{ordered, called_in, inside_of, size_at, cost, unentered, name_of, last_name, IsSearch}
use Rattle.front_validator.specs.Walk.{without}
use Rattle.front_analysis.specs.declared.facts.Facts.{Facts}
use Rattle.front_analysis.specs.declared.kinds.Wrap.{Wrap}
use Rattle.front_analysis.specs.declared.shapes.Joint.TheVariants as joints
use Rattle.front_analysis.specs.declared.kinds.Wrap.TheVariants as wraps
use Rattle.front_validator.specs.declared.recursions.Task.{Task}
use Rattle.front_validator.specs.declared.recursions.Task.TheVariants.{Visit, Leave}
use Rattle.front_analysis.specs.declared.kind_table.NodeKind.{NodeKind}
use Rattle.base_language.proofs.CannotFailIsNullable.{nullable_of}
use Rattle.front_analysis.proofs.LayoutLemmas.{some_size}
use Rattle.front_validator.proofs.NoneWalks.{at_end, in_rules, sort, Sort, of_name, of_no_name}
use Rattle.front_validator.proofs.RegionLemmas.{node_inside, node_first, node_second}
use Rattle.front_validator.proofs.SearchLemmas.{inside, first_only, of_choice, of_sequence}
use Rattle.front_validator.proofs.SearchCalls.{over_leaf, over_undefined}
use Rattle.std.specs.Bool.{Decides}

-- 1. kinds
leaf_none : (g : Grammar) (passing : List Bool) (e : Expression) → IsSimple e → IsNoName e → (called_in (Some (leaf_kind (kind_in g) e)) ≡ None) × (inside_of passing (Some (leaf_kind (kind_in g) e)) ≡ [])
leaf_none g passing (bare.Str []) s h = (refl, refl)
leaf_none g passing (bare.Str (c ∷ t)) s h = (refl, refl)
leaf_none g passing (bare.Insens []) s h = (refl, refl)
leaf_none g passing (bare.Insens (c ∷ t)) s h = (refl, refl)
leaf_none g passing (bare.Range a b) s h = (refl, refl)
leaf_none g passing (bare.PushLiteral t) s h = (refl, refl)
leaf_none g passing (bare.PeekSlice i j) s h = (refl, refl)
leaf_none g passing (Ident n) s h = absurd h
leaf_none g passing _ s h = absurd s

name_calls : (b : Bool) (t : ℕ) → called_in (Some (name_kind b (Some t))) ≡ Some t
name_calls true t = refl
name_calls false t = refl

name_none : (passing : List Bool) (b : Bool) → (called_in (Some (name_kind b None)) ≡ None) × (inside_of passing (Some (name_kind b None)) ≡ [])
name_none passing true = (refl, refl)
name_none passing false = (refl, refl)

wrap_in : (passing : List Bool) (w : Wrap) (j : ℕ) → (called_in (Some (wrap_kind w j)) ≡ None) × (inside_of passing (Some (wrap_kind w j)) ≡ Visit j ∷ [])
wrap_in passing wraps.Ahead j = (refl, refl)
wrap_in passing wraps.NotAhead j = (refl, refl)
wrap_in passing wraps.Free j = (refl, refl)
wrap_in passing wraps.Inside j = (refl, refl)
wrap_in passing wraps.Again j = (refl, refl)
wrap_in passing wraps.OnceAgain j = (refl, refl)

-- 2. costs
pub cost-append : (nodes : List Spanned) (ts us : List Task) → cost nodes (ts ++ us) ≡ cost nodes ts + cost nodes us
cost-append nodes [] us = omega arith
cost-append nodes (Leave ∷ ts) us = let h = cost-append nodes ts us in omega arith
cost-append nodes (Visit i ∷ ts) us = let h = cost-append nodes ts us in omega arith

pub cost_visit : (nodes : List Spanned) (ts : List Task) (i : ℕ) (x : Spanned) → slice_get nodes i ≡ Some x → cost nodes (ts ++ Visit i ∷ []) ≡ cost nodes ts + size x
cost_visit nodes ts i x e = let h = cost-append nodes ts (Visit i ∷ []) in let s = ap size_at e in omega arith

pub unentered_set : (entered : List Bool) (rules : List SpannedRule) (t : ℕ) (r : SpannedRule) → length entered ≡ length rules → slice_get rules t ≡ Some r → is_set_at entered t ≡ false
    → unentered (set entered t true) rules + (size r.body + 2) ≡ unentered entered rules
unentered_set entered [] t r l at off = cc
unentered_set [] (q ∷ rules) t r l at off = absurd (omega arith)
unentered_set (false ∷ entered) (q ∷ rules) zero r l at off = let e : size q.body ≡ size r.body = (let same : q ≡ r = cc in ap (λ z. size z.body) same) in omega arith
unentered_set (true ∷ entered) (q ∷ rules) zero r l at off = cc
unentered_set (false ∷ entered) (q ∷ rules) (suc t) r l at off = let h = unentered_set entered rules t r (omega arith) at off in omega arith
unentered_set (true ∷ entered) (q ∷ rules) (suc t) r l at off = unentered_set entered rules t r (omega arith) at off

module _ (rules : List ParserRule) (facts : Facts) (right : AreFacts rules facts) (passing : List Bool) (are : ArePassing rules facts.table.roots.items passing) (start : ℕ) (entered : List Bool) where
  abbrev roots : List ℕ
  roots = facts.table.roots.items

  abbrev V : List SpannedRule
  V = rule_views rules

  abbrev G : Grammar
  G = grammar_of rules

  pub data Step (node : ℕ) (todo : List Task) (k : ℕ) (path : List ℕ) (called : Option ℕ) (inner : List Task) : Type 0 where
    calls : (t : ℕ) (s : Span) (n : Text) → called ≡ Some t → slice_get (all_nodes rules) node ≡ Some (Leaf s (Ident n)) → Means V n t → Step node todo k path called inner
    goes_in : (new : List Task) → called ≡ None → ordered todo ++ inner ≡ ordered new → IsSearch rules roots start entered new (k ∷ path)
        → cost (all_nodes rules) (ordered todo ++ inner) < cost (all_nodes rules) (ordered todo ++ Visit node ∷ []) → Step node todo k path called inner

  passes_right : (k : ℕ) (path : List ℕ) (todo : List Task) → IsSearch rules roots start entered todo (k ∷ path) → (j : ℕ) (x : Spanned) → IsNodeOf rules roots k j x
      → Decides (is_set_at passing j) (IsNullable (without (last_name rules roots start (k ∷ path)) (said V)) (without_spans x))
  passes_right k path todo state j x place =
      let means = state.last_ones k at_last in
      let (r, at, named) = in_rules V (name_of rules roots start (slice_get V k)) k means in
      subst (λ z. Decides (is_set_at passing j) (IsNullable (without z (said V)) (without_spans x))) named
      (are k j r x at (subst (λ z. Means V z k) (sym named) means) place)
    where
      at_last : Contains (ordered (k ∷ path)) k
      at_last = at_end (ordered path) k

  module _ (node : ℕ) (todo : List Task) (k : ℕ) (path : List ℕ) (state : IsSearch rules roots start entered (Visit node ∷ todo) (k ∷ path)) where
    abbrev At : Option NodeKind → Type 0
    At o = Step node todo k path (called_in o) (inside_of passing o)

    abbrev nodes : List Spanned
    nodes = all_nodes rules

    nothing_in : (x : Spanned) → slice_get nodes node ≡ Some x → (o : Option NodeKind) → called_in o ≡ None → inside_of passing o ≡ [] → IsSearch rules roots start entered todo (k ∷ path) → At o
    nothing_in x here o c i next = goes_in todo c (ap (λ z. ordered todo ++ z) i ∙ append-nil (ordered todo)) next
        (let a = ap (λ z. cost nodes (ordered todo ++ z)) i in let b = ap (λ z. cost nodes z) (append-nil (ordered todo)) in let d = cost_visit nodes (ordered todo) node x here in let e = some_size x in omega arith)

    one_in : (x y : Spanned) (j : ℕ) → slice_get nodes node ≡ Some x → slice_get nodes j ≡ Some y → size y < size x → (o : Option NodeKind) → called_in o ≡ None → inside_of passing o ≡ Visit j ∷ [] → IsSearch rules roots start entered (Visit j ∷ todo) (k ∷ path) → At o
    one_in x y j here inner less o c i next = goes_in (Visit j ∷ todo) c (ap (λ z. ordered todo ++ z) i) next
        (let a = ap (λ z. cost nodes (ordered todo ++ z)) i in let d = cost_visit nodes (ordered todo) node x here in let b = cost_visit nodes (ordered todo) j y inner in omega arith)

    two_in : (x y z : Spanned) (j l : ℕ) → slice_get nodes node ≡ Some x → slice_get nodes j ≡ Some y → slice_get nodes l ≡ Some z → size y + size z < size x → (o : Option NodeKind) → called_in o ≡ None → inside_of passing o ≡ Visit l ∷ Visit j ∷ []
        → IsSearch rules roots start entered (Visit j ∷ Visit l ∷ todo) (k ∷ path) → At o
    two_in x y z j l here first second less o c i next = goes_in (Visit j ∷ Visit l ∷ todo) c same next
        (let a = ap (λ w. cost nodes w) same in let d = cost_visit nodes (ordered todo) node x here in
        let b = cost_visit nodes (ordered todo ++ Visit l ∷ []) j y first in let e = cost_visit nodes (ordered todo) l z second in omega arith)
      where
        same : ordered todo ++ inside_of passing o ≡ ordered (Visit j ∷ Visit l ∷ todo)
        same = ap (λ w. ordered todo ++ w) i ∙ sym (append_assoc (ordered todo) (Visit l ∷ []) (Visit j ∷ []))

    at_name : (s : Span) (n : Text) → slice_get nodes node ≡ Some (Leaf s (Ident n)) → (o : Option ℕ) → last_place G n ≡ o → At (Some (name_kind (is_end n) o))
    at_name s n here None e = let (a, b) = name_none passing (is_end n) in nothing_in (Leaf s (Ident n)) here (Some (name_kind (is_end n) None)) a b (over_undefined rules roots start entered node s n todo k path here e state)
    at_name s n here (Some t) e = calls t s n (name_calls (is_end n) t) here e

    at_leaf : (s : Span) (e : Expression) → slice_get nodes node ≡ Some (Leaf s e) → IsSimple e → Sort V e → At (Some (leaf_kind (kind_in G) e))
    at_leaf s e here simple (of_name n h) = subst (λ z. At (Some (leaf_kind (kind_in G) z))) (sym h) (at_name s n (here ∙ ap (λ z. Some (Leaf s z)) h) (last_place G n) refl)
    at_leaf s e here simple (of_no_name h) = let (a, b) = leaf_none G passing e simple h in nothing_in (Leaf s e) here (Some (leaf_kind (kind_in G) e)) a b (over_leaf rules roots start entered node s e todo k path here simple h state)

    at_seq : (s : Span) (x y : Spanned) (j l : ℕ) → slice_get nodes node ≡ Some (Two s Seq x y) → IsNodeOf rules roots k j x → IsNodeOf rules roots k l y → At (Some (both_kind joints.Sequence j l))
    at_seq s x y j l here first second = go (is_set_at passing j) refl
      where
        d : Decides (is_set_at passing j) (IsNullable (without (last_name rules roots start (k ∷ path)) (said V)) (without_spans x))
        d = passes_right k path (Visit node ∷ todo) state j x first

        stops : is_set_at passing j ≡ false → Passes V (last_name rules roots start (k ∷ path)) x → ⊥
        stops h (inl p) = let e = sym (d.1 p) ∙ h in cc
        stops h (inr p) = let e = sym (d.1 (nullable_of (without (last_name rules roots start (k ∷ path)) (said V)) p)) ∙ h in cc

        go : (b : Bool) → is_set_at passing j ≡ b → At (Some (both_kind joints.Sequence j l))
        go true h = two_in (Two s Seq x y) x y j l here first.node second.node (omega arith) (Some (both_kind joints.Sequence j l)) refl (ap (λ b. if b then Visit l ∷ Visit j ∷ [] else Visit j ∷ []) h)
            (of_sequence rules roots start entered node j l s x y todo k path here first second (inl (d.0 h)) state)
        go false h = one_in (Two s Seq x y) x j here first.node (omega arith) (Some (both_kind joints.Sequence j l)) refl (ap (λ b. if b then Visit l ∷ Visit j ∷ [] else Visit j ∷ []) h)
            (first_only rules roots start entered node j s x y todo k path here first (stops h) state)

    at_node : (x : Spanned) (kind : NodeKind) → IsNodeOf rules roots k node x → Fits (kind_in G) nodes node kind x → At (Some kind)
    at_node (Leaf s e) kind place fit = subst (λ z. At (Some z)) (sym fit.1) (at_leaf s e place.node fit.0 (sort V e))
    at_node (One s f x) kind place fit = subst (λ z. At (Some z)) (sym fit.3)
        (let (a, b) = wrap_in passing (wrap_of f) fit.0 in
        let inner = node_inside rules roots right.tabled.roots k node fit.0 s f x place fit.2 fit.4 in
        one_in (One s f x) x fit.0 place.node fit.2 (omega arith) (Some (wrap_kind (wrap_of f) fit.0)) a b (inside rules roots start entered node fit.0 s f x todo k path place.node inner state))
    at_node (Two s Seq x y) kind place fit = subst (λ z. At (Some z)) (sym fit.6)
        (at_seq s x y fit.0 fit.1 place.node (node_first rules roots right.tabled.roots k node fit.0 fit.1 s Seq x y place fit.4 fit.7 fit.8) (node_second rules roots right.tabled.roots k node fit.1 s Seq x y place fit.5 fit.7))
    at_node (Two s Choice x y) kind place fit = subst (λ z. At (Some z)) (sym fit.6)
        (let first = node_first rules roots right.tabled.roots k node fit.0 fit.1 s Choice x y place fit.4 fit.7 fit.8 in
        let second = node_second rules roots right.tabled.roots k node fit.1 s Choice x y place fit.5 fit.7 in
        two_in (Two s Choice x y) x y fit.0 fit.1 place.node fit.4 fit.5 (omega arith) (Some (both_kind joints.Choice fit.0 fit.1)) refl refl (of_choice rules roots start entered node fit.0 fit.1 s x y todo k path place.node first second state))

    pub stepped_at : At (slice_get facts.table.kinds.items node)
    stepped_at = let ((x, place), others) = state.placed in
        let (kind, at, fit) = right.tabled.nodes.fit node x place.node in
        subst (λ z. At z) (sym at) (at_node x kind place fit)
