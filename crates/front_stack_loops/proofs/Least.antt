-- A node that changes the stack, as the least answer, has an expression that does.
use Rattle.std.proofs.Common.{◌≡◌, ℕ, zero, suc, List, [], ◌∷◌, Option, Some, None, Bool, true, false, inl, inr, slice_get, refl, sym, ◌∙◌, ap, subst, ℤ, pos, negsuc}
use Rattle.std.proofs.lemmas.Bool.{both_ways, or_cases}
use Rattle.base_language.specs.Language.Text.{Text}
use Rattle.base_language.specs.Language.Builtins.{Builtin, One, Property, Newline, Soi, Eoi, Peek, Pop, Drop, PeekAll, PopAll, builtin_of}
use Rattle.base_language.specs.Language.Expression as bare
use Rattle.base_language.specs.Language.Expression.{Expression, Ident, Grammar, rule_of, last_place}
use Rattle.base_language.proofs.Basics.{got_alike}
use Rattle.base_graphs.specs.Least.{follows, is_set_at}
use Rattle.front_spanned.specs.Erasure.{without_spans, round, between}
use Rattle.front_spanned.specs.Nodes.{view}
use Rattle.front_spanned.specs.Spanned as spanned
use Rattle.front_spanned.specs.Spanned.{Spanned, Leaf, Unary, PosPred, NegPred, Opt, Rep, RepOnce, RepExact, RepMin, RepMax, RepMinMax, Push, Tag, Binary, Seq, Choice}
use Rattle.front_spanned.specs.declared.node.ParserRule.{ParserRule}
use Rattle.front_stack_domain.specs.Reports.{AltersStack, by_push, by_push_literal, in_tag, by_builtin, by_rule, in_left, in_right, in_first, in_second, in_opt, in_rep, in_rep_once, in_rep_exact, in_rep_min, in_rep_max, in_rep_min_max}
use Rattle.front_analysis.specs.Shapes.{sign_of, joint_of}
use Rattle.front_stack_loops.specs.Answers.{at_place, changing_kind, Holds, AreSound}
use Rattle.front_stack_loops.specs.Expressions.{body_flag, name_flag}
use Rattle.front_analysis.specs.Names.{grammar_of, rule_said}
use Rattle.front_stack_loops.specs.Names.{kind_in, name_kind, builtin_kind}
use Rattle.front_analysis.specs.Nodes.{IsSimple, all_nodes}
use Rattle.front_stack_loops.specs.Kinds.{AreTabled, IsNode, leaf_kind, text_kind, slice_kind, wrap_kind, both_kind}
use Rattle.front_stack_loops.specs.declared.table.PassNode.{PassNode}
use Rattle.front_stack_loops.specs.declared.facts.Question.TheVariants as asks
use Rattle.front_analysis.proofs.Resolved.{Named, absent, named, resolved, same_item}

module _ (rules : List ParserRule) (ns : List PassNode) (roots : List ℕ) (tabled : AreTabled rules (kind_in (grammar_of rules)) ns roots) where
  abbrev G : Grammar
  G = grammar_of rules

  abbrev all : List Spanned
  all = all_nodes rules

  -- p: what is taken for true of nodes; each of them changes the stack
  abbrev Right : (ℕ → Bool) → Type 0
  Right p = (j : ℕ) → p j ≡ true → (y : Spanned) → slice_get all j ≡ Some y → AltersStack G (without_spans y)

  -- a rule's body changes the stack, where p is true of it
  body_changes : (p : ℕ → Bool) → Right p → (r : ℕ) (rule : ParserRule) → slice_get rules r ≡ Some rule → at_place p (slice_get roots r) ≡ true → AltersStack G (rule_said rule).body
  body_changes p k r rule at h =
      let (j, root) = got_alike rules roots r rule at (sym tabled.roots.alike) in
      k j (ap (at_place p) (sym root) ∙ h) (view rule.node) (tabled.roots.lie r j rule at root)

  builtin_changes : (p : ℕ → Bool) (n : Text) (o : Option Builtin) → rule_of G n ≡ None → builtin_of n ≡ o → changing_kind roots p (builtin_kind o) ≡ true → AltersStack G (Ident n)
  builtin_changes p n (Some Pop) e b h = by_builtin e b tt
  builtin_changes p n (Some Drop) e b h = by_builtin e b tt
  builtin_changes p n (Some PopAll) e b h = by_builtin e b tt
  builtin_changes p n (Some Peek) e b h = cc
  builtin_changes p n (Some PeekAll) e b h = cc
  builtin_changes p n (Some (One f)) e b h = cc
  builtin_changes p n (Some (Property m)) e b h = cc
  builtin_changes p n (Some Newline) e b h = cc
  builtin_changes p n (Some Soi) e b h = cc
  builtin_changes p n (Some Eoi) e b h = cc
  builtin_changes p n None e b h = cc

  name_changes : (p : ℕ → Bool) → Right p → (n : Text) → changing_kind roots p (kind_in G n) ≡ true → AltersStack G (Ident n)
  name_changes p k n h = go (last_place G n) refl (resolved rules n)
    where
      go : (o : Option ℕ) → last_place G n ≡ o → Named rules n o → AltersStack G (Ident n)
      go o l (absent e) = builtin_changes p n (builtin_of n) e refl (sym (ap (λ q. changing_kind roots p (name_kind n q)) l) ∙ h)
      go o l (named {r = r} rule at e) = by_rule e (body_changes p k r rule at (sym (ap (λ q. changing_kind roots p (name_kind n q)) l) ∙ h))

  text_changing : (p : ℕ → Bool) (t : Text) → changing_kind roots p (text_kind t) ≡ false
  text_changing p [] = refl
  text_changing p (c ∷ t) = refl

  slice_changing : (p : ℕ → Bool) (i : ℤ) (j : Option ℤ) → changing_kind roots p (slice_kind i j) ≡ false
  slice_changing p (pos zero) None = refl
  slice_changing p (pos zero) (Some (pos zero)) = refl
  slice_changing p (pos zero) (Some (pos (suc k))) = refl
  slice_changing p (pos zero) (Some (negsuc k)) = refl
  slice_changing p (pos (suc k)) j = refl
  slice_changing p (negsuc k) j = refl

  leaf_changes : (p : ℕ → Bool) → Right p → (e : Expression) → IsSimple e → changing_kind roots p (leaf_kind (kind_in G) e) ≡ true → AltersStack G e
  leaf_changes p k (bare.Str t) s h = absurd (both_ways (changing_kind roots p (text_kind t)) (text_changing p t) h)
  leaf_changes p k (bare.Insens t) s h = absurd (both_ways (changing_kind roots p (text_kind t)) (text_changing p t) h)
  leaf_changes p k (bare.Ident n) s h = name_changes p k n h
  leaf_changes p k (bare.PeekSlice i j) s h = absurd (both_ways (changing_kind roots p (slice_kind i j)) (slice_changing p i j) h)
  leaf_changes p k (bare.Range a b) s h = cc
  leaf_changes p k (bare.PushLiteral t) s h = by_push_literal
  leaf_changes p k _ s h = absurd s

  unary_changes : (p : ℕ → Bool) (f : Unary) (e : Expression) (j : ℕ) → (p j ≡ true → AltersStack G e) → changing_kind roots p (wrap_kind (sign_of f) j) ≡ true → AltersStack G (round f e)
  unary_changes p PosPred e j k h = cc
  unary_changes p NegPred e j k h = cc
  unary_changes p Opt e j k h = in_opt (k h)
  unary_changes p Push e j k h = by_push
  unary_changes p (Tag t) e j k h = in_tag (k h)
  unary_changes p Rep e j k h = in_rep (k h)
  unary_changes p RepOnce e j k h = in_rep_once (k h)
  unary_changes p (RepExact n) e j k h = in_rep_exact (k h)
  unary_changes p (RepMin n) e j k h = in_rep_min (k h)
  unary_changes p (RepMax n) e j k h = in_rep_max (k h)
  unary_changes p (RepMinMax m n) e j k h = in_rep_min_max (k h)

  binary_changes : (p : ℕ → Bool) (f : Binary) (d e : Expression) (i j : ℕ) → (p i ≡ true → AltersStack G d) → (p j ≡ true → AltersStack G e) → changing_kind roots p (both_kind (joint_of f) i j) ≡ true → AltersStack G (between f d e)
  binary_changes p Seq d e i j k l h = elim (or_cases (p i) (p j) h) [ inl a ↦ in_left (k a) | inr b ↦ in_right (l b) ]
  binary_changes p Choice d e i j k l h = elim (or_cases (p i) (p j) h) [ inl a ↦ in_first (k a) | inr b ↦ in_second (l b) ]

  node_changes : (p : ℕ → Bool) → Right p → (i : ℕ) (n : PassNode) (x : Spanned) → IsNode (kind_in G) all i n x → changing_kind roots p n.kind ≡ true → AltersStack G (without_spans x)
  node_changes p k i n (Leaf s e) fit h = leaf_changes p k e fit.fits.0 (sym (ap (changing_kind roots p) fit.fits.1) ∙ h)
  node_changes p k i n (spanned.One s f x) fit h = unary_changes p f (without_spans x) fit.fits.0 (λ w. k fit.fits.0 w x fit.fits.2) (sym (ap (changing_kind roots p) fit.fits.3) ∙ h)
  node_changes p k i n (spanned.Two s f x y) fit h =
      binary_changes p f (without_spans x) (without_spans y) fit.fits.0 fit.fits.1 (λ w. k fit.fits.0 w x fit.fits.4) (λ w. k fit.fits.1 w y fit.fits.5) (sym (ap (changing_kind roots p) fit.fits.6) ∙ h)

  -- a node that changes the stack has an expression that does
  pub least : {i : ℕ} → Holds asks.AltersStack ns roots i → (x : Spanned) → slice_get all i ≡ Some x → AltersStack G (without_spans x)
  least (follows {i = i} {a = n} p at f g) x here =
      let (m, is, fit) = tabled.nodes.fit i x here in
      node_changes p (λ j h y e. least (g j h) y e) i m x fit (subst (λ z. changing_kind roots p z.kind ≡ true) (same_item (slice_get ns i) n m at is) f)

  -- flags that are right
  pub changes_name : (flags : List Bool) → AreSound asks.AltersStack ns roots flags → (n : Text) → name_flag G roots flags n ≡ true → AltersStack G (Ident n)
  changes_name flags sound n h = go (last_place G n) refl (resolved rules n)
    where
      go : (o : Option ℕ) → last_place G n ≡ o → Named rules n o → AltersStack G (Ident n)
      go o l (absent e) = let z : false ≡ true = sym (ap (body_flag roots flags) l) ∙ h in cc
      go o l (named {r = r} rule at e) = by_rule e (body_changes (is_set_at flags) (λ j set y f. least (sound.right j set) y f) r rule at (sym (ap (body_flag roots flags) l) ∙ h))
