-- The table of rules is in order; rules' bodies are nodes.
use Rattle.std.proofs.Common.{◌≡◌, ℕ, zero, suc, ◌<◌, List, [], ◌∷◌, Option, Some, None, Bool, true, false, if◌then◌else◌, slice_get, refl, sym, subst, arith, ℤ, pos, negsuc}
use Rattle.std.proofs.lemmas.Option.{slice_get_within}
use Rattle.base_language.specs.Language.Text.{Text}
use Rattle.base_language.specs.Language.Builtins.{Builtin, One, Property, Newline, Soi, Eoi, Peek, Pop, Drop, PeekAll, PopAll, builtin_of}
use Rattle.base_language.specs.Language.Expression as bare
use Rattle.base_language.specs.Language.Expression.{Expression, last_place}
use Rattle.base_language.proofs.Basics.{got_alike}
use Rattle.base_graphs.specs.Least.{is_set_at}
use Rattle.front_spanned.specs.Nodes.{view}
use Rattle.front_spanned.specs.Spanned as spanned
use Rattle.front_spanned.specs.Spanned.{Spanned, Leaf, Unary, PosPred, NegPred, Opt, Rep, RepOnce, RepExact, RepMin, RepMax, RepMinMax, Push, Tag, Binary, Seq, Choice}
use Rattle.front_spanned.specs.declared.node.ParserRule.{ParserRule}
use Rattle.front_analysis.specs.Shapes.{sign_of, joint_of}
use Rattle.front_stack_loops.specs.Leading.{AreRanked, IsOperandOf}
use Rattle.front_analysis.specs.Names.{grammar_of}
use Rattle.front_stack_loops.specs.Names.{kind_in, name_kind, builtin_kind}
use Rattle.front_analysis.specs.Nodes.{IsSimple, all_nodes}
use Rattle.front_stack_loops.specs.Kinds.{AreTabled, Fits, leaf_kind, text_kind, slice_kind, wrap_kind, both_kind}
use Rattle.front_stack_loops.specs.Table.{AreInside, IsOrdered, Inside, LeadsTo, HasOrderedOperands, followed_at, nodes_of, parts_of}
use Rattle.front_stack_loops.specs.declared.table.NodeKind.{NodeKind}
use Rattle.front_stack_loops.specs.declared.table.NodeKind.TheVariants as is
use Rattle.front_stack_loops.specs.declared.table.PassNode.{PassNode}
use Rattle.front_stack_loops.specs.declared.table.Table.{Table}
use Rattle.front_stack_loops.proofs.LeadingLemmas.{both_operands, wrap_operand}
use Rattle.front_stack_loops.proofs.RankLemmas.{body_falls, operand_falls}
use Rattle.front_analysis.proofs.Resolved.{same_item}

-- the bodies of rules are nodes
pub bodies_inside : (rules : List ParserRule) (kind_of : Text → NodeKind) (t : Table) → AreTabled rules kind_of (nodes_of t) t.roots.items → AreInside t
bodies_inside rules kind_of t h r i e =
    let (rule, at) = got_alike t.roots.items rules r i e h.roots.alike in
    let w = slice_get_within (all_nodes rules) i (view rule.node) (h.roots.lie r i rule at e) in
    let l = h.nodes.alike in omega arith

module _ (rules : List ParserRule) (t : Table) (tabled : AreTabled rules (kind_in (grammar_of rules)) (nodes_of t) t.roots.items)
    (ranked : AreRanked (nodes_of t) t.roots.items t.recursive.items t.ranks.items) where
  inside : (i j : ℕ) (n : PassNode) → slice_get (nodes_of t) i ≡ Some n → j < i → IsOperandOf j (parts_of n.kind) → Inside t i j
  inside i j n e l o = record {
    below = l;
    within = (let w = slice_get_within (nodes_of t) i n e in omega arith);
    rank = operand_falls t.ranks.items i (parts_of n.kind) (ranked i n e).operands j o;
  }

  -- a call leads to a lower rank, where it is followed
  call_lies : (i r : ℕ) (n : PassNode) → slice_get (nodes_of t) i ≡ Some n → n.kind ≡ is.Call r → LeadsTo t i (followed_at t r)
  call_lies i r n at k = go (is_set_at t.recursive.items r) refl (slice_get t.roots.items r) refl
    where
      go : (b : Bool) → is_set_at t.recursive.items r ≡ b → (o : Option ℕ) → slice_get t.roots.items r ≡ o → LeadsTo t i (if b then None else o)
      go true f o root = tt
      go false f None root = tt
      go false f (Some j) root =
          let falls = body_falls (nodes_of t) t.roots.items t.recursive.items t.ranks.items ranked i n r j at k root in
          let few = (ranked i n at).few in
          let below = falls.below f in record {
            within = bodies_inside rules (kind_in (grammar_of rules)) t tabled r j root;
            rank = below;
            few = omega arith;
          }

  by_lies : (i : ℕ) (q : Option Builtin) → HasOrderedOperands t i (builtin_kind q)
  by_lies i (Some Peek) = tt
  by_lies i (Some Pop) = tt
  by_lies i (Some Drop) = tt
  by_lies i (Some PeekAll) = tt
  by_lies i (Some PopAll) = tt
  by_lies i (Some (One f)) = tt
  by_lies i (Some (Property n)) = tt
  by_lies i (Some Newline) = tt
  by_lies i (Some Soi) = tt
  by_lies i (Some Eoi) = tt
  by_lies i None = tt

  name_lies : (i : ℕ) (n : Text) (m : PassNode) → slice_get (nodes_of t) i ≡ Some m → (q : Option ℕ) → m.kind ≡ name_kind n q → HasOrderedOperands t i (name_kind n q)
  name_lies i n m at None k = by_lies i (builtin_of n)
  name_lies i n m at (Some r) k = call_lies i r m at k

  text_lies : (i : ℕ) (u : Text) → HasOrderedOperands t i (text_kind u)
  text_lies i [] = tt
  text_lies i (c ∷ u) = tt

  slice_lies : (i : ℕ) (m : ℤ) (n : Option ℤ) → HasOrderedOperands t i (slice_kind m n)
  slice_lies i (pos zero) None = tt
  slice_lies i (pos zero) (Some (pos zero)) = tt
  slice_lies i (pos zero) (Some (pos (suc k))) = tt
  slice_lies i (pos zero) (Some (negsuc k)) = tt
  slice_lies i (pos (suc k)) j = tt
  slice_lies i (negsuc k) j = tt

  leaf_lies : (i : ℕ) (m : PassNode) → slice_get (nodes_of t) i ≡ Some m → (e : Expression) → IsSimple e → m.kind ≡ leaf_kind (kind_in (grammar_of rules)) e
      → HasOrderedOperands t i (leaf_kind (kind_in (grammar_of rules)) e)
  leaf_lies i m at (bare.Str u) s k = text_lies i u
  leaf_lies i m at (bare.Insens u) s k = text_lies i u
  leaf_lies i m at (bare.Ident n) s k = name_lies i n m at (last_place (grammar_of rules) n) k
  leaf_lies i m at (bare.PeekSlice v w) s k = slice_lies i v w
  leaf_lies i m at (bare.Range b c) s k = tt
  leaf_lies i m at (bare.PushLiteral u) s k = tt
  leaf_lies i m at _ s k = absurd s

  wrap_lies : (i j : ℕ) (f : Unary) → Inside t i j → HasOrderedOperands t i (wrap_kind (sign_of f) j)
  wrap_lies i j PosPred h = h
  wrap_lies i j NegPred h = h
  wrap_lies i j Opt h = h
  wrap_lies i j Push h = h
  wrap_lies i j (Tag t) h = h
  wrap_lies i j Rep h = h
  wrap_lies i j RepOnce h = h
  wrap_lies i j (RepExact n) h = h
  wrap_lies i j (RepMin n) h = h
  wrap_lies i j (RepMax n) h = h
  wrap_lies i j (RepMinMax m n) h = h

  both_lies : (i j k : ℕ) (f : Binary) → Inside t i j → Inside t i k → HasOrderedOperands t i (both_kind (joint_of f) j k)
  both_lies i j k Seq h l = (h, l)
  both_lies i j k Choice h l = (h, l)

  fit_lies : (i : ℕ) (n : PassNode) (x : Spanned) → slice_get (nodes_of t) i ≡ Some n → Fits (kind_in (grammar_of rules)) (all_nodes rules) i n.kind x → HasOrderedOperands t i n.kind
  fit_lies i n (Leaf s e) at f = subst (HasOrderedOperands t i) (sym f.1) (leaf_lies i n at e f.0 f.1)
  fit_lies i n (spanned.One s g x) at f = subst (HasOrderedOperands t i) (sym f.3) (wrap_lies i f.0 g (inside i f.0 n at f.1 (subst (λ k. IsOperandOf f.0 (parts_of k)) (sym f.3) (wrap_operand f.0 g))))
  fit_lies i n (spanned.Two s g x y) at f =
      let both = both_operands f.0 f.1 g in
      let there = λ (j : ℕ) (o : IsOperandOf j (parts_of (both_kind (joint_of g) f.0 f.1))). subst (λ k. IsOperandOf j (parts_of k)) (sym f.6) o in
      subst (HasOrderedOperands t i) (sym f.6) (both_lies i f.0 f.1 g (inside i f.0 n at f.2 (there f.0 both.0)) (inside i f.1 n at f.3 (there f.1 both.1)))

  pub in_order : IsOrdered t
  in_order i n at =
      let (x, here) = got_alike (nodes_of t) (all_nodes rules) i n at tabled.nodes.alike in
      let (m, is, fit) = tabled.nodes.fit i x here in
      let e : m ≡ n = same_item (slice_get (nodes_of t) i) m n is at in
      fit_lies i n x at (subst (λ z. Fits (kind_in (grammar_of rules)) (all_nodes rules) i z.kind x) e fit.fits)
