-- Flags that are answers for all nodes say the same of their expressions.
use Rattle.std.proofs.Common.{◌≡◌, ℕ, zero, suc, List, [], ◌∷◌, Option, Some, None, Bool, true, false, ◌||◌, slice_get, refl, sym, ◌∙◌, ap, ap₂, ℤ, pos, negsuc, inl, inr}
use Rattle.std.proofs.lemmas.Bool.{both_ways, or_left, or_right}
use Rattle.base_language.specs.Language.Text.{Text}
use Rattle.base_language.specs.Language.Builtins.{Builtin, Pop, Drop, PopAll, builtin_of}
use Rattle.base_language.specs.Language.Expression as bare
use Rattle.base_language.specs.Language.Expression.{Expression, Ident, Rule, Grammar, rule_of, whitespace, comment, last_place}
use Rattle.base_language.proofs.Basics.{got_alike}
use Rattle.base_graphs.specs.Least.{is_set_at}
use Rattle.front_spanned.specs.Erasure.{without_spans, round, between}
use Rattle.front_spanned.specs.Nodes.{view}
use Rattle.front_spanned.specs.Spanned as spanned
use Rattle.front_spanned.specs.Spanned.{Spanned, Leaf, Unary, PosPred, NegPred, Opt, Rep, RepOnce, RepExact, RepMin, RepMax, RepMinMax, Push, Tag, Binary, Seq, Choice}
use Rattle.front_spanned.specs.declared.node.ParserRule.{ParserRule}
use Rattle.front_stack_domain.specs.Reports.{TakesEntries, AltersStack, by_push, by_builtin, by_rule, in_left, in_right, in_first, in_second, in_opt, in_rep, in_rep_once, in_rep_exact, in_rep_min, in_rep_max, in_rep_min_max, in_restore, SkippingAltersStack, by_push_literal, in_tag}
use Rattle.front_analysis.specs.Shapes.{sign_of, joint_of}
use Rattle.front_stack_loops.specs.Answers.{AreAnswers, at_place, changing_kind}
use Rattle.front_stack_loops.specs.Expressions.{body_flag, name_flag, may_change}
use Rattle.front_analysis.specs.Names.{grammar_of, rule_said}
use Rattle.front_stack_loops.proofs.Builtins.{comment_kind, whitespace_kind}
use Rattle.front_stack_loops.specs.Names.{kind_in, name_kind, builtin_kind}
use Rattle.front_analysis.specs.Nodes.{IsSimple, all_nodes}
use Rattle.front_stack_loops.specs.Kinds.{AreTabled, leaf_kind, text_kind, slice_kind, wrap_kind, both_kind}
use Rattle.front_stack_loops.specs.declared.table.NodeKind.TheVariants as is
use Rattle.front_stack_loops.specs.declared.table.PassNode.{PassNode}
use Rattle.front_stack_loops.specs.declared.facts.Question.TheVariants as asks
use Rattle.front_analysis.proofs.Resolved.{Named, absent, named, resolved, same_item}

module _ (rules : List ParserRule) (ns : List PassNode) (roots : List ℕ) (tabled : AreTabled rules (kind_in (grammar_of rules)) ns roots) (flags : List Bool) where
  abbrev G : Grammar
  G = grammar_of rules

  abbrev all : List Spanned
  all = all_nodes rules

  abbrev P : ℕ → Bool
  P = is_set_at flags

  abbrev flag : Text → Bool
  flag n = name_flag G roots flags n

  -- what changes the stack
  abbrev changes : Text → Bool
  changes n = changing_kind roots P (kind_in G n)

  text_changing : (t : Text) → changing_kind roots P (text_kind t) ≡ false
  text_changing [] = refl
  text_changing (c ∷ t) = refl

  slice_changing : (i : ℤ) (j : Option ℤ) → changing_kind roots P (slice_kind i j) ≡ false
  slice_changing (pos zero) None = refl
  slice_changing (pos zero) (Some (pos zero)) = refl
  slice_changing (pos zero) (Some (pos (suc k))) = refl
  slice_changing (pos zero) (Some (negsuc k)) = refl
  slice_changing (pos (suc k)) j = refl
  slice_changing (negsuc k) j = refl

  leaf_changing : (e : Expression) → IsSimple e → changing_kind roots P (leaf_kind (kind_in G) e) ≡ may_change changes e
  leaf_changing (bare.Str t) s = text_changing t
  leaf_changing (bare.Insens t) s = text_changing t
  leaf_changing (bare.Ident n) s = refl
  leaf_changing (bare.PeekSlice i j) s = slice_changing i j
  leaf_changing (bare.Range a b) s = refl
  leaf_changing (bare.PushLiteral t) s = refl
  leaf_changing _ s = absurd s

  unary_changing : (f : Unary) (e : Expression) (j : ℕ) → P j ≡ may_change changes e → changing_kind roots P (wrap_kind (sign_of f) j) ≡ may_change changes (round f e)
  unary_changing PosPred e j h = refl
  unary_changing NegPred e j h = refl
  unary_changing Opt e j h = h
  unary_changing Push e j h = refl
  unary_changing (Tag t) e j h = h
  unary_changing Rep e j h = h
  unary_changing RepOnce e j h = h
  unary_changing (RepExact n) e j h = h
  unary_changing (RepMin n) e j h = h
  unary_changing (RepMax n) e j h = h
  unary_changing (RepMinMax m n) e j h = h

  binary_changing : (f : Binary) (d e : Expression) (j k : ℕ) → P j ≡ may_change changes d → P k ≡ may_change changes e → changing_kind roots P (both_kind (joint_of f) j k) ≡ may_change changes (between f d e)
  binary_changing Seq d e j k h l = ap₂ (λ y z. y || z) h l
  binary_changing Choice d e j k h l = ap₂ (λ y z. y || z) h l

  module _ (right : AreAnswers asks.AltersStack ns roots flags) where
    changing_at : (x : Spanned) (i : ℕ) → slice_get all i ≡ Some x → P i ≡ may_change changes (without_spans x)
    changing_at (Leaf s e) i here =
        let (n, at, fit) = tabled.nodes.fit i (Leaf s e) here in
        right i n at ∙ (ap (changing_kind roots P) fit.fits.1 ∙ leaf_changing e fit.fits.0)
    changing_at (spanned.One s f x) i here =
        let (n, at, fit) = tabled.nodes.fit i (spanned.One s f x) here in
        right i n at ∙ (ap (changing_kind roots P) fit.fits.3 ∙ unary_changing f (without_spans x) fit.fits.0 (changing_at x fit.fits.0 fit.fits.2))
    changing_at (spanned.Two s f x y) i here =
        let (n, at, fit) = tabled.nodes.fit i (spanned.Two s f x y) here in
        right i n at ∙ (ap (changing_kind roots P) fit.fits.6
        ∙ binary_changing f (without_spans x) (without_spans y) fit.fits.0 fit.fits.1 (changing_at x fit.fits.0 fit.fits.4) (changing_at y fit.fits.1 fit.fits.5))

    -- what flags say of the rule that a name means
    flag_of : (n : Text) (q : Rule) → rule_of G n ≡ Some q → flag n ≡ may_change changes q.body
    flag_of n q e = go (last_place G n) refl (resolved rules n)
      where
        go : (o : Option ℕ) → last_place G n ≡ o → Named rules n o → flag n ≡ may_change changes q.body
        go o l (absent f) = let z = sym e ∙ f in cc
        go o l (named {r = r} rule at f) =
            let (j, root) = got_alike rules roots r rule at (sym tabled.roots.alike) in
            let same : rule_said rule ≡ q = same_item (rule_of G n) (rule_said rule) q f e in
            ap (body_flag roots flags) l ∙ (ap (at_place P) root ∙ (changing_at (view rule.node) j (tabled.roots.lie r j rule at root) ∙ ap (λ z. may_change changes z.body) same))

    changes_rule : (n : Text) (q : Rule) → rule_of G n ≡ Some q → changes n ≡ may_change changes q.body
    changes_rule n q e = go (last_place G n) refl (resolved rules n) ∙ flag_of n q e
      where
        go : (o : Option ℕ) → last_place G n ≡ o → Named rules n o → changes n ≡ flag n
        go o l (absent f) = let z = sym e ∙ f in cc
        go o l (named {r = r} rule at f) = ap (λ q. changing_kind roots P (name_kind n q)) l ∙ sym (ap (body_flag roots flags) l)

    changes_builtin : (n : Text) (b : Builtin) → rule_of G n ≡ None → builtin_of n ≡ Some b → TakesEntries b → changes n ≡ true
    changes_builtin n b e is a = go (last_place G n) refl (resolved rules n)
      where
        alters : (b : Builtin) → TakesEntries b → changing_kind roots P (builtin_kind (Some b)) ≡ true
        alters Pop h = refl
        alters Drop h = refl
        alters PopAll h = refl
        alters _ h = absurd h

        go : (o : Option ℕ) → last_place G n ≡ o → Named rules n o → changes n ≡ true
        go o l (absent f) = ap (λ q. changing_kind roots P (name_kind n q)) l ∙ (ap (λ q. changing_kind roots P (builtin_kind q)) is ∙ alters b a)
        go o l (named rule at f) = let z = sym e ∙ f in cc

    changes_so : {e : Expression} → AltersStack G e → may_change changes e ≡ true
    changes_so by_push = refl
    changes_so by_push_literal = refl
    changes_so (by_builtin {n = n} {b = b} e is a) = changes_builtin n b e is a
    changes_so (by_rule {n = n} {r = r} e d) = changes_rule n r e ∙ changes_so d
    changes_so (in_left {a = a} {b = b} d) = or_left (may_change changes a) (may_change changes b) (changes_so d)
    changes_so (in_right {a = a} {b = b} d) = or_right (may_change changes a) (may_change changes b) (changes_so d)
    changes_so (in_first {a = a} {b = b} d) = or_left (may_change changes a) (may_change changes b) (changes_so d)
    changes_so (in_second {a = a} {b = b} d) = or_right (may_change changes a) (may_change changes b) (changes_so d)
    changes_so (in_opt d) = changes_so d
    changes_so (in_rep d) = changes_so d
    changes_so (in_rep_once d) = changes_so d
    changes_so (in_rep_exact d) = changes_so d
    changes_so (in_rep_min d) = changes_so d
    changes_so (in_rep_max d) = changes_so d
    changes_so (in_rep_min_max d) = changes_so d
    changes_so (in_tag d) = changes_so d
    changes_so (in_restore d) = changes_so d

    common_name : (n : Text) → builtin_kind (builtin_of n) ≡ is.Leaf → (o : Option ℕ) → changing_kind roots P (name_kind n o) ≡ body_flag roots flags o
    common_name n h None = ap (changing_kind roots P) h
    common_name n h (Some r) = refl

    calm_name : (n : Text) → builtin_kind (builtin_of n) ≡ is.Leaf → flag n ≡ false → AltersStack G (Ident n) → ⊥
    calm_name n h f d = both_ways (changes n) (common_name n h (last_place G n) ∙ f) (changes_so d)

    -- what is skipped leaves the stack alone, where the flags say so
    pub calm : flag whitespace ≡ false → flag comment ≡ false → SkippingAltersStack G → ⊥
    calm f h (inl d) = calm_name whitespace whitespace_kind f d
    calm f h (inr d) = calm_name comment comment_kind h d
