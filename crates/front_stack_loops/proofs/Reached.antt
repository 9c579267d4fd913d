-- Rules that reach themselves, by names and by numbers.
use Rattle.std.proofs.Common.{◌≡◌, ◌↔◌, ℕ, zero, suc, ◌⊎◌, inl, inr, List, [], ◌∷◌, Option, Some, None, Bool, true, false, if◌then◌else◌, bytes_eq, slice_get, refl, sym, ◌∙◌, ap, subst, ℤ, pos, negsuc}
use Rattle.std.proofs.lemmas.Slice.Eq.{bytes_eq-Decides}
use Rattle.base_language.specs.Language.Text.{Text}
use Rattle.base_language.specs.Language.Builtins.{Builtin, One, Property, Newline, Soi, Eoi, Peek, Pop, Drop, PeekAll, PopAll, builtin_of}
use Rattle.base_language.specs.Language.Expression as bare
use Rattle.base_language.specs.Language.Expression.{Expression, Ident, Rule, Grammar, rule_of, Part, whole, of_pos_pred, of_neg_pred, of_seq_left, of_seq_right, of_choice_left, of_choice_right, of_opt, of_rep, of_rep_once, of_rep_exact, of_rep_min, of_rep_max, of_rep_min_max, of_push, of_tag, last_place}
use Rattle.base_language.proofs.Basics.{got_alike}
use Rattle.base_graphs.specs.Least.{is_set_at}
use Rattle.front_spanned.specs.Erasure.{without_spans, round, between}
use Rattle.front_spanned.specs.Nodes.{view}
use Rattle.front_spanned.specs.Spanned as spanned
use Rattle.front_spanned.specs.Spanned.{Spanned, Leaf, Unary, PosPred, NegPred, Opt, Rep, RepOnce, RepExact, RepMin, RepMax, RepMinMax, Push, Tag, Binary, Seq, Choice}
use Rattle.front_spanned.specs.declared.node.ParserRule.{ParserRule}
use Rattle.front_stack_domain.specs.Recursion.{ReachesByCalls, by_call, by_calls}
use Rattle.front_analysis.specs.Shapes.{sign_of, joint_of}
use Rattle.front_stack_loops.specs.Answers.{at_place}
use Rattle.front_stack_loops.specs.Certain.{IsTableOf}
use Rattle.front_stack_loops.specs.Leading.{IsOperandOf, LeadsToCall, to_call, by_body, by_operand, LeadsBack}
use Rattle.front_analysis.specs.Names.{grammar_of, rule_said}
use Rattle.front_stack_loops.specs.Names.{kind_in, name_kind, builtin_kind}
use Rattle.front_analysis.specs.Nodes.{IsSimple, all_nodes}
use Rattle.front_stack_loops.specs.Kinds.{AreTabled, Fits, leaf_kind, text_kind, slice_kind, wrap_kind, both_kind}
use Rattle.front_stack_loops.specs.Table.{called_by, nodes_of, parts_of}
use Rattle.front_stack_loops.specs.Told.{is_flagged}
use Rattle.front_stack_loops.specs.declared.table.NodeKind.TheVariants as is
use Rattle.front_stack_loops.specs.declared.table.PassNode.{PassNode}
use Rattle.front_stack_loops.specs.declared.table.Table.{Table}
use Rattle.front_stack_loops.proofs.LeadingLemmas.{both_operands, set_place, wrap_operand}
use Rattle.front_analysis.proofs.Resolved.{Named, absent, named, resolved, same_item}
use Rattle.front_stack_loops.proofs.Tied.{inner_part, leaf_parts, side_part, simple_part}

-- 1. a place has one name
abbrev next : Bool → Option ℕ → Option ℕ
next b q = elim q [ Some k ↦ Some (suc k) | None ↦ if b then Some 0 else None ]

pub place_name : (g : Grammar) (n : Text) (r : ℕ) → last_place g n ≡ Some r → (q : Rule) × (slice_get g r ≡ Some q) × (q.name ≡ n)
place_name [] n r h = cc
place_name (q ∷ g) n r h = go (λ k l. place_name g n k l) (last_place g n) refl (bytes_eq q.name n) refl h
  where
    go : ((k : ℕ) → last_place g n ≡ Some k → (p : Rule) × (slice_get g k ≡ Some p) × (p.name ≡ n)) → (o : Option ℕ) → last_place g n ≡ o → (b : Bool) → bytes_eq q.name n ≡ b → next b o ≡ Some r
        → (p : Rule) × (slice_get (q ∷ g) r ≡ Some p) × (p.name ≡ n)
    go f (Some k) l b e h =
        let (p, at, name) = f k l in
        let k_is : suc k ≡ r = cc in
        (p, subst (λ m. slice_get (q ∷ g) m ≡ Some p) k_is at, name)
    go f None l true e h =
        let r_is : 0 ≡ r = cc in
        (q, subst (λ m. slice_get (q ∷ g) m ≡ Some q) r_is refl, (bytes_eq-Decides q.name n).0 e)
    go f None l false e h = cc

one_name : (g : Grammar) (n c : Text) (r : ℕ) → last_place g n ≡ Some r → last_place g c ≡ Some r → c ≡ n
one_name g n c r h k =
    let (q, at, e) = place_name g n r h in
    let (p, is, d) = place_name g c r k in
    sym d ∙ (ap (λ z. z.name) (same_item (slice_get g r) p q is at) ∙ e)

-- 2. kinds that call
by_called : (q : Option Builtin) → called_by (builtin_kind q) ≡ None
by_called (Some Peek) = refl
by_called (Some Pop) = refl
by_called (Some Drop) = refl
by_called (Some PeekAll) = refl
by_called (Some PopAll) = refl
by_called (Some (One f)) = refl
by_called (Some (Property n)) = refl
by_called (Some Newline) = refl
by_called (Some Soi) = refl
by_called (Some Eoi) = refl
by_called None = refl

name_called : (n : Text) (o : Option ℕ) → called_by (name_kind n o) ≡ o
name_called n None = by_called (builtin_of n)
name_called n (Some r) = refl

text_called : (t : Text) → called_by (text_kind t) ≡ None
text_called [] = refl
text_called (c ∷ t) = refl

slice_called : (i : ℤ) (j : Option ℤ) → called_by (slice_kind i j) ≡ None
slice_called (pos zero) None = refl
slice_called (pos zero) (Some (pos zero)) = refl
slice_called (pos zero) (Some (pos (suc k))) = refl
slice_called (pos zero) (Some (negsuc k)) = refl
slice_called (pos (suc k)) j = refl
slice_called (negsuc k) j = refl

wrap_called : (f : Unary) (j : ℕ) → called_by (wrap_kind (sign_of f) j) ≡ None
wrap_called PosPred j = refl
wrap_called NegPred j = refl
wrap_called Opt j = refl
wrap_called Push j = refl
wrap_called (Tag t) j = refl
wrap_called Rep j = refl
wrap_called RepOnce j = refl
wrap_called (RepExact n) j = refl
wrap_called (RepMin n) j = refl
wrap_called (RepMax n) j = refl
wrap_called (RepMinMax m n) j = refl

both_called : (f : Binary) (j k : ℕ) → called_by (both_kind (joint_of f) j k) ≡ None
both_called Seq j k = refl
both_called Choice j k = refl

not_called : (o : Option ℕ) (r : ℕ) → o ≡ None → o ≡ Some r → ⊥
not_called o r e h = let f : None ≡ Some r = sym e ∙ h in cc

pub only_operand : (f : Unary) (j k : ℕ) → IsOperandOf k (parts_of (wrap_kind (sign_of f) j)) → k ≡ j
only_operand PosPred j k h = h
only_operand NegPred j k h = h
only_operand Opt j k h = h
only_operand Push j k h = h
only_operand (Tag t) j k h = h
only_operand Rep j k h = h
only_operand RepOnce j k h = h
only_operand (RepExact n) j k h = h
only_operand (RepMin n) j k h = h
only_operand (RepMax n) j k h = h
only_operand (RepMinMax m n) j k h = h

pub either_operand : (f : Binary) (i j k : ℕ) → IsOperandOf k (parts_of (both_kind (joint_of f) i j)) → (k ≡ i) ⊎ (k ≡ j)
either_operand Seq i j k h = h
either_operand Choice i j k h = h

-- 3. parts
up_one : (f : Unary) (e : Expression) (c : Text) → Part e (Ident c) → Part (round f e) (Ident c)
up_one PosPred e c p = of_pos_pred p
up_one NegPred e c p = of_neg_pred p
up_one Opt e c p = of_opt p
up_one Push e c p = of_push p
up_one (Tag t) e c p = of_tag p
up_one Rep e c p = of_rep p
up_one RepOnce e c p = of_rep_once p
up_one (RepExact n) e c p = of_rep_exact p
up_one (RepMin n) e c p = of_rep_min p
up_one (RepMax n) e c p = of_rep_max p
up_one (RepMinMax m n) e c p = of_rep_min_max p

up_first : (f : Binary) (d e : Expression) (c : Text) → Part d (Ident c) → Part (between f d e) (Ident c)
up_first Seq d e c p = of_seq_left p
up_first Choice d e c p = of_choice_left p

up_second : (f : Binary) (d e : Expression) (c : Text) → Part e (Ident c) → Part (between f d e) (Ident c)
up_second Seq d e c p = of_seq_right p
up_second Choice d e c p = of_choice_right p

-- 4. the table of rules
module _ (rules : List ParserRule) (ns : List PassNode) (roots : List ℕ) (tabled : AreTabled rules (kind_in (grammar_of rules)) ns roots) where
  abbrev G : Grammar
  G = grammar_of rules

  abbrev all : List Spanned
  all = all_nodes rules

  -- the rule of that place, or one that reaches it
  abbrev Ends : Text → ℕ → Type 0
  Ends c s = (last_place G c ≡ Some s) ⊎ ((d : Text) × ReachesByCalls G c d × (last_place G d ≡ Some s))

  -- some name is called whose rule is the one of that place, or reaches it
  abbrev Found : Expression → ℕ → Type 0
  Found e s = (c : Text) × Part e (Ident c) × Ends c s

  fits_at : (i : ℕ) (n : PassNode) (x : Spanned) → slice_get ns i ≡ Some n → slice_get all i ≡ Some x → Fits (kind_in G) all i n.kind x
  fits_at i n x at here =
      let (m, is, fit) = tabled.nodes.fit i x here in
      subst (λ z. Fits (kind_in G) all i z.kind x) (same_item (slice_get ns i) m n is at) fit.fits

  leaf_call : (e : Expression) (r : ℕ) → IsSimple e → called_by (leaf_kind (kind_in G) e) ≡ Some r → (c : Text) × (e ≡ Ident c) × (last_place G c ≡ Some r)
  leaf_call (bare.Str t) r s h = absurd (not_called _ r (text_called t) h)
  leaf_call (bare.Insens t) r s h = absurd (not_called _ r (text_called t) h)
  leaf_call (bare.Ident n) r s h = (n, refl, sym (name_called n (last_place G n)) ∙ h)
  leaf_call (bare.PeekSlice i j) r s h = absurd (not_called _ r (slice_called i j) h)
  leaf_call (bare.Range a b) r s h = cc
  leaf_call (bare.PushLiteral t) r s h = cc
  leaf_call _ r s h = absurd s

  -- a node that calls a rule is a name
  node_call : (i r : ℕ) (n : PassNode) (x : Spanned) → slice_get ns i ≡ Some n → n.kind ≡ is.Call r → slice_get all i ≡ Some x → (c : Text) × (without_spans x ≡ Ident c) × (last_place G c ≡ Some r)
  node_call i r n (Leaf s e) at k here = let f = fits_at i n (Leaf s e) at here in leaf_call e r f.0 (ap called_by (sym f.1 ∙ k))
  node_call i r n (spanned.One s g x) at k here =
      let f = fits_at i n (spanned.One s g x) at here in absurd (not_called _ r (wrap_called g f.0) (ap called_by (sym f.3 ∙ k)))
  node_call i r n (spanned.Two s g x y) at k here =
      let f = fits_at i n (spanned.Two s g x y) at here in absurd (not_called _ r (both_called g f.0 f.1) (ap called_by (sym f.6 ∙ k)))

  by_name : (x : Spanned) (c : Text) → without_spans x ≡ Ident c → Part (without_spans x) (Ident c)
  by_name x c e = subst (λ z. Part z (Ident c)) (sym e) whole

  ends_on : (c d : Text) (q : Rule) (s : ℕ) → rule_of G c ≡ Some q → Part q.body (Ident d) → Ends d s → Ends c s
  ends_on c d q s e p (inl l) = inr (d, by_call e p, l)
  ends_on c d q s e p (inr (b, r, l)) = inr (b, by_calls e p r, l)

  -- where a node leads to a call of a rule, its expression does
  found : {i s : ℕ} → LeadsToCall ns roots i s → (x : Spanned) → slice_get all i ≡ Some x → Found (without_spans x) s
  found (to_call {i = i} {r = r} {n = n} at k) x here =
      let (c, e, l) = node_call i r n x at k here in (c, by_name x c e, inl l)
  found (by_body {i = i} {j = j} {r = r} {s = s} {n = n} at k root more) x here =
      let (c, e, l) = node_call i r n x at k here in
      (c, by_name x c e, go c (λ y w. found more y w) (subst (Named rules c) l (resolved rules c)))
    where
      go : (c : Text) → ((y : Spanned) → slice_get all j ≡ Some y → Found (without_spans y) s) → Named rules c (Some r) → Ends c s
      go c f (named rule at e) =
          let (d, p, ends) = f (view rule.node) (tabled.roots.lie r j rule at root) in
          ends_on c d (rule_said rule) s e p ends
  found (by_operand {i = i} {j = j} {s = s} {n = n} at o more) (Leaf t e) here =
      let f = fits_at i n (Leaf t e) at here in
      absurd (subst (IsOperandOf j) (ap parts_of f.1 ∙ leaf_parts G e f.0) o)
  found (by_operand {i = i} {j = j} {s = s} {n = n} at o more) (spanned.One t g x) here =
      let f = fits_at i n (spanned.One t g x) at here in
      let same = only_operand g f.0 j (subst (λ k. IsOperandOf j (parts_of k)) f.3 o) in
      let (c, p, ends) = found more x (ap (slice_get all) same ∙ f.2) in
      (c, up_one g (without_spans x) c p, ends)
  found (by_operand {i = i} {j = j} {s = s} {n = n} at o more) (spanned.Two t g x y) here =
      let f = fits_at i n (spanned.Two t g x y) at here in
      elim (either_operand g f.0 f.1 j (subst (λ k. IsOperandOf j (parts_of k)) f.6 o)) [
        | inl same ↦ let (c, p, ends) = found more x (ap (slice_get all) same ∙ f.4) in (c, up_first g (without_spans x) (without_spans y) c p, ends)
        | inr same ↦ let (c, p, ends) = found more y (ap (slice_get all) same ∙ f.5) in (c, up_second g (without_spans x) (without_spans y) c p, ends)
      ]

  -- what leads on from the name that is called in an expression leads on from its node
  reach : (x : Spanned) (i : ℕ) → slice_get all i ≡ Some x → (c : Text) → Part (without_spans x) (Ident c) → (s : ℕ)
      → ((k : ℕ) (n : PassNode) → slice_get ns k ≡ Some n → n.kind ≡ name_kind c (last_place G c) → LeadsToCall ns roots k s) → LeadsToCall ns roots i s
  reach (Leaf t e) i here c p s f =
      let (n, at, fit) = tabled.nodes.fit i (Leaf t e) here in
      f i n at (fit.fits.1 ∙ ap (leaf_kind (kind_in G)) (simple_part e c fit.fits.0 p))
  reach (spanned.One t g x) i here c p s f =
      let (n, at, fit) = tabled.nodes.fit i (spanned.One t g x) here in
      let j = fit.fits.0 in
      by_operand at (subst (λ k. IsOperandOf j (parts_of k)) (sym fit.fits.3) (wrap_operand j g)) (reach x j fit.fits.2 c (inner_part g (without_spans x) c p) s f)
  reach (spanned.Two t g x y) i here c p s f =
      let (n, at, fit) = tabled.nodes.fit i (spanned.Two t g x y) here in
      let j = fit.fits.0 in
      let k = fit.fits.1 in
      let both = both_operands j k g in
      elim (side_part g (without_spans x) (without_spans y) c p) [
        | inl q ↦ by_operand at (subst (λ z. IsOperandOf j (parts_of z)) (sym fit.fits.6) both.0) (reach x j fit.fits.4 c q s f)
        | inr q ↦ by_operand at (subst (λ z. IsOperandOf k (parts_of z)) (sym fit.fits.6) both.1) (reach y k fit.fits.5 c q s f)
      ]

  starts : {n d : Text} → ReachesByCalls G n d → (q : Rule) × (rule_of G n ≡ Some q)
  starts (by_call {r = q} e p) = (q, e)
  starts (by_calls {r = q} e p more) = (q, e)

  place_of : (n : Text) (q : Rule) → rule_of G n ≡ Some q → (r : ℕ) × (last_place G n ≡ Some r)
  place_of n q e = go (last_place G n) refl (resolved rules n)
    where
      go : (o : Option ℕ) → last_place G n ≡ o → Named rules n o → (r : ℕ) × (last_place G n ≡ Some r)
      go o l (absent f) = let z = sym e ∙ f in cc
      go o l (named {r = r} rule at f) = (r, l)

  abbrev LeadsFrom : ℕ → ℕ → Type 0
  LeadsFrom r s = (j : ℕ) × (slice_get roots r ≡ Some j) × LeadsToCall ns roots j s

  from_body : (n c : Text) (q : Rule) (r s : ℕ) → rule_of G n ≡ Some q → last_place G n ≡ Some r → Part q.body (Ident c)
      → ((k : ℕ) (m : PassNode) → slice_get ns k ≡ Some m → m.kind ≡ name_kind c (last_place G c) → LeadsToCall ns roots k s) → LeadsFrom r s
  from_body n c q r s e l p f = go (subst (Named rules n) l (resolved rules n))
    where
      go : Named rules n (Some r) → LeadsFrom r s
      go (named rule at d) =
          let (j, root) = got_alike rules roots r rule at (sym tabled.roots.alike) in
          let same : q ≡ rule_said rule = same_item (rule_of G n) q (rule_said rule) e d in
          (j, root, reach (view rule.node) j (tabled.roots.lie r j rule at root) c (subst (λ z. Part z.body (Ident c)) same p) s f)

  -- where a rule reaches another, its body leads to a call of that
  leads : {n d : Text} → ReachesByCalls G n d → (r s : ℕ) → last_place G n ≡ Some r → last_place G d ≡ Some s → LeadsFrom r s
  leads (by_call {n = n} {c = c} {r = q} e p) r s l m = from_body n c q r s e l p (λ k x at kind. to_call at (kind ∙ ap (name_kind c) m))
  leads (by_calls {n = n} {c = c} {r = q} e p more) r s l m =
      let (o, f) = starts more in
      let (b, h) = place_of c o f in
      let (j, root, inner) = leads more b s h m in
      from_body n c q r s e l p (λ k x at kind. by_body at (kind ∙ ap (name_kind c) h) root inner)

  -- by names and by numbers the same rules reach themselves
  pub back : (n : Text) (r : ℕ) → last_place G n ≡ Some r → LeadsBack ns roots r → ReachesByCalls G n n
  back n r l (j, root, more) = go (subst (Named rules n) l (resolved rules n))
    where
      go : Named rules n (Some r) → ReachesByCalls G n n
      go (named rule at e) =
          let (c, p, ends) = found more (view rule.node) (tabled.roots.lie r j rule at root) in
          elim ends [
            | inl m ↦ by_call e (subst (λ z. Part (rule_said rule).body (Ident z)) (one_name G n c r l m) p)
            | inr (d, reaches, m) ↦ by_calls e p (subst (λ z. ReachesByCalls G c z) (one_name G n d r l m) reaches)
          ]

  pub leads_back : (n : Text) → ReachesByCalls G n n → (r : ℕ) × (last_place G n ≡ Some r) × LeadsBack ns roots r
  leads_back n h =
      let (q, e) = starts h in
      let (r, l) = place_of n q e in
      (r, l, leads h r r l l)

-- the flags of the table are set just at the names that reach themselves
pub flagged_reaches : (rules : List ParserRule) (t : Table) → IsTableOf rules t → (n : Text) → (is_flagged (grammar_of rules) t.recursive.items n ≡ true) ↔ ReachesByCalls (grammar_of rules) n n
flagged_reaches rules t h n = (
  (λ f. let (r, l, on) = set_place (is_set_at t.recursive.items) (last_place (grammar_of rules) n) f in back rules (nodes_of t) t.roots.items h.tabled n r l ((h.exact r).0 on)),
  (λ k. let (r, l, b) = leads_back rules (nodes_of t) t.roots.items h.tabled n k in ap (at_place (is_set_at t.recursive.items)) l ∙ (h.exact r).1 b),
)
