-- The table of rules means what the direct reading says of them.
use Rattle.std.proofs.Common.{◌≡◌, ℕ, zero, suc, ◌-◌, ◌<◌, ◌≤◌, min, ◌⊎◌, inl, inr, List, [], ◌∷◌, ◌++◌, replicate, Option, Some, None, Bool, true, false, if◌then◌else◌, slice_get, length, refl, sym, ◌∙◌, ap, ap₂, subst, arith, append-nil, ℤ, pos, negsuc}
use Rattle.std.proofs.lemmas.List.{length-map}
use mathlib.Core.Path.{fun_ext}
use Rattle.base_language.specs.Language.Text.{Text}
use Rattle.base_language.specs.Language.Builtins.{Builtin, One, Property, Newline, Soi, Eoi, Peek, Pop, Drop, PeekAll, PopAll, builtin_of}
use Rattle.base_language.specs.Language.Expression as bare
use Rattle.base_language.specs.Language.Expression.{Expression, Ident, Rule, Grammar, rule_of, Part, whole, of_pos_pred, of_neg_pred, of_seq_left, of_seq_right, of_choice_left, of_choice_right, of_opt, of_rep, of_rep_once, of_rep_exact, of_rep_min, of_rep_max, of_rep_min_max, of_push, of_tag, last_place}
use Rattle.base_language.proofs.Basics.{got_alike}
use Rattle.base_graphs.specs.Least.{is_set_at}
use Rattle.front_spanned.specs.Erasure.{without_spans, round, between}
use Rattle.front_spanned.specs.Nodes.{view, rule_views}
use Rattle.front_spanned.specs.Spanned.{Span, Spanned, Leaf, Unary, PosPred, NegPred, Opt, Rep, RepOnce, RepExact, RepMin, RepMax, RepMinMax, Push, Tag, Binary, Seq, Choice}
use Rattle.front_spanned.specs.Spanned as spanned
use Rattle.front_spanned.specs.declared.node.ParserRule.{ParserRule}
use Rattle.front_stack_domain.specs.Stack.{AbstractStack, failed, push_mark}
use Rattle.front_stack_domain.specs.Reading as says
use Rattle.front_stack_domain.specs.Reading.{reading, name_reading, rule_reading, builtin_reading, anything, impossible, Required, Optional, Endless, walked, from}
use Rattle.front_stack_domain.specs.Reported.{copies_of, is_endless, is_choice}
use Rattle.front_stack_domain.proofs.Fuel.{reading_same}
use Rattle.front_analysis.specs.Shapes.{sign_of, joint_of}
use Rattle.front_stack_loops.specs.Answers.{at_place}
use Rattle.front_stack_loops.specs.Memory.{Meaning}
use Rattle.front_analysis.specs.Names.{grammar_of, rule_said}
use Rattle.front_stack_loops.specs.Names.{kind_in, name_kind, builtin_kind}
use Rattle.front_analysis.specs.Nodes.{IsSimple, all_nodes}
use Rattle.front_stack_loops.specs.Kinds.{AreTabled, IsNode, is_empty_text, Fits, leaf_kind, text_kind, slice_kind, wrap_kind, both_kind}
use Rattle.front_stack_loops.specs.Table.{IsMeaning, IsOrdered, HasOrderedOperands, LeadsTo, Called, Inside, node_reading, call_reading, followed_at, nodes_of, parts_of, copies, rank_at}
use Rattle.front_stack_loops.specs.Told.{is_flagged}
use Rattle.front_stack_loops.specs.Visiting.{Represents, DoesTheSame}
use Rattle.front_stack_loops.specs.declared.table.NodeKind.{NodeKind}
use Rattle.front_stack_loops.specs.declared.table.NodeKind.TheVariants as is
use Rattle.front_stack_loops.specs.declared.table.PassNode.{PassNode}
use Rattle.front_stack_loops.specs.declared.table.Parts.TheVariants as parts
use Rattle.front_stack_loops.specs.declared.table.Table.{Table}
use Rattle.front_analysis.proofs.Resolved.{Named, absent, named, resolved, same_item}

-- 1. parts of expressions that are names
pub simple_part : (e : Expression) (c : Text) → IsSimple e → Part e (Ident c) → e ≡ Ident c
simple_part (bare.Ident n) c s whole = refl
simple_part (bare.Str u) c s p = elim p [ ]
simple_part (bare.Insens u) c s p = elim p [ ]
simple_part (bare.Range u v) c s p = elim p [ ]
simple_part (bare.PeekSlice i j) c s p = elim p [ ]
simple_part (bare.PosPred e) c s p = absurd s
simple_part (bare.NegPred e) c s p = absurd s
simple_part (bare.Seq d e) c s p = absurd s
simple_part (bare.Choice d e) c s p = absurd s
simple_part (bare.Opt e) c s p = absurd s
simple_part (bare.Rep e) c s p = absurd s
simple_part (bare.RepOnce e) c s p = absurd s
simple_part (bare.RepExact e n) c s p = absurd s
simple_part (bare.RepMin e n) c s p = absurd s
simple_part (bare.RepMax e n) c s p = absurd s
simple_part (bare.RepMinMax e m n) c s p = absurd s
simple_part (bare.Skip ts) c s p = absurd s
simple_part (bare.Push e) c s p = absurd s
simple_part (bare.PushLiteral u) c s p = elim p [ ]
simple_part (bare.NodeTag e u) c s p = absurd s
simple_part (bare.RestoreOnErr e) c s p = absurd s

pub inner_part : (f : Unary) (e : Expression) (c : Text) → Part (round f e) (Ident c) → Part e (Ident c)
inner_part PosPred e c (of_pos_pred p) = p
inner_part NegPred e c (of_neg_pred p) = p
inner_part Opt e c (of_opt p) = p
inner_part Rep e c (of_rep p) = p
inner_part RepOnce e c (of_rep_once p) = p
inner_part (RepExact n) e c (of_rep_exact p) = p
inner_part (RepMin n) e c (of_rep_min p) = p
inner_part (RepMax n) e c (of_rep_max p) = p
inner_part (RepMinMax m n) e c (of_rep_min_max p) = p
inner_part Push e c (of_push p) = p
inner_part (Tag t) e c (of_tag p) = p

pub side_part : (f : Binary) (d e : Expression) (c : Text) → Part (between f d e) (Ident c) → Part d (Ident c) ⊎ Part e (Ident c)
side_part Seq d e c (of_seq_left p) = inl p
side_part Seq d e c (of_seq_right p) = inr p
side_part Choice d e c (of_choice_left p) = inl p
side_part Choice d e c (of_choice_right p) = inr p

-- 2. kinds and copies
abbrev pub required_of : Unary → ℕ
required_of PosPred = 1
required_of NegPred = 1
required_of Opt = 1
required_of Push = 1
required_of (Tag t) = 1
required_of Rep = 0
required_of RepOnce = 1
required_of (RepExact n) = n
required_of (RepMin n) = n
required_of (RepMax n) = 0
required_of (RepMinMax m n) = min m n

abbrev pub optional_of : Unary → ℕ
optional_of (RepMax n) = n
optional_of (RepMinMax m n) = n - m
optional_of PosPred = 0
optional_of NegPred = 0
optional_of Opt = 0
optional_of Push = 0
optional_of (Tag t) = 0
optional_of Rep = 0
optional_of RepOnce = 0
optional_of (RepExact n) = 0
optional_of (RepMin n) = 0

pub unary_parts : (f : Unary) (j : ℕ) → parts_of (wrap_kind (sign_of f) j) ≡ parts.Inside j (required_of f) (optional_of f) (is_endless f)
unary_parts PosPred j = refl
unary_parts NegPred j = refl
unary_parts Opt j = refl
unary_parts Push j = refl
unary_parts (Tag t) j = refl
unary_parts Rep j = refl
unary_parts RepOnce j = refl
unary_parts (RepExact n) j = refl
unary_parts (RepMin n) j = refl
unary_parts (RepMax n) j = refl
unary_parts (RepMinMax m n) j = refl

same_copies : (f : Unary) → copies (required_of f) (optional_of f) (is_endless f) ≡ copies_of f
same_copies PosPred = refl
same_copies NegPred = refl
same_copies Opt = refl
same_copies Push = refl
same_copies (Tag t) = refl
same_copies Rep = refl
same_copies RepOnce = refl
same_copies (RepExact n) = append-nil (replicate n Required)
same_copies (RepMin n) = refl
same_copies (RepMax n) = append-nil (replicate n Optional)
same_copies (RepMinMax m n) = ap (λ l. replicate (min m n) Required ++ l) (append-nil (replicate (n - m) Optional))

pub binary_parts : (f : Binary) (j k : ℕ) → parts_of (both_kind (joint_of f) j k) ≡ parts.Both j k (is_choice f)
binary_parts Seq j k = refl
binary_parts Choice j k = refl

text_parts : (t : Text) → parts_of (text_kind t) ≡ parts.Nothing
text_parts [] = refl
text_parts (c ∷ t) = refl

slice_parts : (i : ℤ) (j : Option ℤ) → parts_of (slice_kind i j) ≡ parts.Nothing
slice_parts (pos zero) None = refl
slice_parts (pos zero) (Some (pos zero)) = refl
slice_parts (pos zero) (Some (pos (suc k))) = refl
slice_parts (pos zero) (Some (negsuc k)) = refl
slice_parts (pos (suc k)) j = refl
slice_parts (negsuc k) j = refl

by_parts : (q : Option Builtin) → parts_of (builtin_kind q) ≡ parts.Nothing
by_parts (Some Peek) = refl
by_parts (Some Pop) = refl
by_parts (Some Drop) = refl
by_parts (Some PeekAll) = refl
by_parts (Some PopAll) = refl
by_parts (Some (One f)) = refl
by_parts (Some (Property n)) = refl
by_parts (Some Newline) = refl
by_parts (Some Soi) = refl
by_parts (Some Eoi) = refl
by_parts None = refl

name_parts : (n : Text) (q : Option ℕ) → parts_of (name_kind n q) ≡ parts.Nothing
name_parts n None = by_parts (builtin_of n)
name_parts n (Some r) = refl

pub leaf_parts : (g : Grammar) (e : Expression) → IsSimple e → parts_of (leaf_kind (kind_in g) e) ≡ parts.Nothing
leaf_parts g (bare.Str t) s = text_parts t
leaf_parts g (bare.Insens t) s = text_parts t
leaf_parts g (bare.Ident n) s = name_parts n (last_place g n)
leaf_parts g (bare.PeekSlice i j) s = slice_parts i j
leaf_parts g (bare.Range a b) s = refl
leaf_parts g (bare.PushLiteral t) s = refl
leaf_parts g _ s = absurd s

text_reads : (t : Table) (meaning : Meaning) (u : Text) (a : AbstractStack) → node_reading t meaning (text_kind u) a ≡ says.text_reading u a
text_reads t meaning [] a = refl
text_reads t meaning (c ∷ u) a = refl

slice_reads : (t : Table) (meaning : Meaning) (i : ℤ) (j : Option ℤ) (a : AbstractStack) → node_reading t meaning (slice_kind i j) a ≡ says.slice_reading i j a
slice_reads t meaning (pos zero) None a = refl
slice_reads t meaning (pos zero) (Some (pos zero)) a = refl
slice_reads t meaning (pos zero) (Some (pos (suc k))) a = refl
slice_reads t meaning (pos zero) (Some (negsuc k)) a = refl
slice_reads t meaning (pos (suc k)) j a = refl
slice_reads t meaning (negsuc k) j a = refl

by_reads : (t : Table) (meaning : Meaning) (q : Option Builtin) (a : AbstractStack) → node_reading t meaning (builtin_kind q) a ≡ builtin_reading q a
by_reads t meaning (Some Peek) a = refl
by_reads t meaning (Some Pop) a = refl
by_reads t meaning (Some Drop) a = refl
by_reads t meaning (Some PeekAll) a = refl
by_reads t meaning (Some PopAll) a = refl
by_reads t meaning (Some (One f)) a = refl
by_reads t meaning (Some (Property n)) a = refl
by_reads t meaning (Some Newline) a = refl
by_reads t meaning (Some Soi) a = refl
by_reads t meaning (Some Eoi) a = refl
by_reads t meaning None a = refl

literal_reads : (t : Text) (a : AbstractStack) → says.surely (push_mark (is_empty_text t) a) ≡ says.literal_reading t a
literal_reads [] a = refl
literal_reads (c ∷ t) a = refl

lies_wrap : (t : Table) (i j : ℕ) (f : Unary) → HasOrderedOperands t i (wrap_kind (sign_of f) j) → Inside t i j
lies_wrap t i j PosPred h = h
lies_wrap t i j NegPred h = h
lies_wrap t i j Opt h = h
lies_wrap t i j Push h = h
lies_wrap t i j (Tag u) h = h
lies_wrap t i j Rep h = h
lies_wrap t i j RepOnce h = h
lies_wrap t i j (RepExact n) h = h
lies_wrap t i j (RepMin n) h = h
lies_wrap t i j (RepMax n) h = h
lies_wrap t i j (RepMinMax m n) h = h

lies_both : (t : Table) (i j k : ℕ) (f : Binary) → HasOrderedOperands t i (both_kind (joint_of f) j k) → Inside t i j × Inside t i k
lies_both t i j k Seq h = h
lies_both t i j k Choice h = h

lower : (t : Table) (i k j : ℕ) → Inside t i k → Called t k j → Called t i j
lower t i k j h c = record { within = c.within; rank = (let a = h.rank in let b = c.rank in omega arith); few = c.few }

-- 3. the table of rules
module _ (rules : List ParserRule) (t : Table) (tabled : AreTabled rules (kind_in (grammar_of rules)) (nodes_of t) t.roots.items) (ordered : IsOrdered t) where
  abbrev G : Grammar
  G = grammar_of rules

  abbrev all : List Spanned
  all = all_nodes rules

  abbrev flagged : Text → Bool
  flagged n = is_flagged G t.recursive.items n

  -- the node of a number
  pub at_node : (i : ℕ) (n : PassNode) → slice_get (nodes_of t) i ≡ Some n → (x : Spanned) × (slice_get all i ≡ Some x) × IsNode (kind_in G) all i n x
  at_node i n e =
      let (x, here) = got_alike (nodes_of t) all i n e tabled.nodes.alike in
      let (q, at, fit) = tabled.nodes.fit i x here in
      (x, here, subst (λ m. IsNode (kind_in G) all i m x) (same_item (slice_get (nodes_of t) i) q n at e) fit)

  lies_at : (i : ℕ) (n : PassNode) (k : NodeKind) → slice_get (nodes_of t) i ≡ Some n → n.kind ≡ k → HasOrderedOperands t i k
  lies_at i n k e h = subst (HasOrderedOperands t i) h (ordered i n e)

  -- calls that are followed lead to lower ranks
  falls : (x : Spanned) (i : ℕ) → slice_get all i ≡ Some x → (c : Text) → Part (without_spans x) (Ident c) → (r j : ℕ) → last_place G c ≡ Some r → followed_at t r ≡ Some j → Called t i j
  falls (Leaf s e) i here c p r j l f =
      let (n, at, fit) = tabled.nodes.fit i (Leaf s e) here in
      let is_name : e ≡ Ident c = simple_part e c fit.fits.0 p in
      let k : n.kind ≡ is.Call r = fit.fits.1 ∙ (ap (leaf_kind (kind_in G)) is_name ∙ ap (name_kind c) l) in
      subst (LeadsTo t i) f (lies_at i n (is.Call r) at k)
  falls (spanned.One s f x) i here c p r j l e =
      let (n, at, fit) = tabled.nodes.fit i (spanned.One s f x) here in
      let h = lies_wrap t i fit.fits.0 f (lies_at i n (wrap_kind (sign_of f) fit.fits.0) at fit.fits.3) in
      lower t i fit.fits.0 j h (falls x fit.fits.0 fit.fits.2 c (inner_part f (without_spans x) c p) r j l e)
  falls (spanned.Two s f x y) i here c p r j l e =
      let (n, at, fit) = tabled.nodes.fit i (spanned.Two s f x y) here in
      let h = lies_both t i fit.fits.0 fit.fits.1 f (lies_at i n (both_kind (joint_of f) fit.fits.0 fit.fits.1) at fit.fits.6) in
      elim (side_part f (without_spans x) (without_spans y) c p) [
        | inl q ↦ lower t i fit.fits.0 j h.0 (falls x fit.fits.0 fit.fits.4 c q r j l e)
        | inr q ↦ lower t i fit.fits.1 j h.1 (falls y fit.fits.1 fit.fits.5 c q r j l e)
      ]

  abbrev At : ℕ → Text → AbstractStack → says.Reading
  At k n a = name_reading t.limit t.skips flagged G k n a

  abbrev Body : ℕ → Expression → AbstractStack → says.Reading
  Body zero e a = anything
  Body (suc k) e a = reading t.limit t.skips (name_reading t.limit t.skips flagged G k) e a

  as_rule : (k : ℕ) (n : Text) (a : AbstractStack) → At k n a ≡ rule_reading t.limit t.skips flagged G n (rule_of G n) (Body k) a
  as_rule zero n a = refl
  as_rule (suc k) n a = refl

  -- how a name is read: as a builtin, as one that isn't followed, or as the body of a rule
  pub data ReadsNode (n : Text) : Type 0 where
    as_builtin : rule_of G n ≡ None → last_place G n ≡ None → ReadsNode n
    as_any : {q : Rule} {r : ℕ} → rule_of G n ≡ Some q → last_place G n ≡ Some r → followed_at t r ≡ None → flagged n ≡ true → ReadsNode n
    as_body : {r j : ℕ} (rule : ParserRule) → rule_of G n ≡ Some (rule_said rule) → last_place G n ≡ Some r → followed_at t r ≡ Some j → flagged n ≡ false → slice_get all j ≡ Some (view rule.node) → ReadsNode n

  reads_rule : (n : Text) (r : ℕ) (rule : ParserRule) → last_place G n ≡ Some r → slice_get rules r ≡ Some rule → rule_of G n ≡ Some (rule_said rule) → ReadsNode n
  reads_rule n r rule l at e =
      let (j, root) = got_alike rules t.roots.items r rule at (sym tabled.roots.alike) in
      go (is_set_at t.recursive.items r) refl j root
    where
      flag : flagged n ≡ is_set_at t.recursive.items r
      flag = ap (at_place (is_set_at t.recursive.items)) l

      go : (b : Bool) → is_set_at t.recursive.items r ≡ b → (j : ℕ) → slice_get t.roots.items r ≡ Some j → ReadsNode n
      go true h j root = as_any e l (ap (λ b. if b then None else slice_get t.roots.items r) h) (flag ∙ h)
      go false h j root = as_body rule e l (ap (λ b. if b then None else slice_get t.roots.items r) h ∙ root) (flag ∙ h) (tabled.roots.lie r j rule at root)

  pub reads_of : (n : Text) → ReadsNode n
  reads_of n = go (last_place G n) refl (resolved rules n)
    where
      go : (q : Option ℕ) → last_place G n ≡ q → Named rules n q → ReadsNode n
      go q l (absent e) = as_builtin e l
      go q l (named {r = r} rule at e) = reads_rule n r rule l at e

  builtin_at : (k : ℕ) (n : Text) → rule_of G n ≡ None → (a : AbstractStack) → At k n a ≡ builtin_reading (builtin_of n) a
  builtin_at k n e a = as_rule k n a ∙ ap (λ q. rule_reading t.limit t.skips flagged G n q (Body k) a) e

  any_at : (k : ℕ) (n : Text) (q : Rule) → rule_of G n ≡ Some q → flagged n ≡ true → (a : AbstractStack) → At k n a ≡ anything
  any_at k n q e h a = as_rule k n a ∙ (ap (λ q. rule_reading t.limit t.skips flagged G n q (Body k) a) e ∙ ap (λ b. if b then anything else Body k q.body a) h)

  body_at : (k : ℕ) (n : Text) (q : Rule) → rule_of G n ≡ Some q → flagged n ≡ false → (a : AbstractStack) → At k n a ≡ Body k q.body a
  body_at k n q e h a = as_rule k n a ∙ (ap (λ q. rule_reading t.limit t.skips flagged G n q (Body k) a) e ∙ ap (λ b. if b then anything else Body k q.body a) h)

  -- names in a body are read alike at two depths, where those of lower ranks are
  agree_by : (rule : ParserRule) (j p q : ℕ) → slice_get all j ≡ Some (view rule.node) → rank_at t j ≤ p → rank_at t j ≤ q
      → ((c : Text) (other : ParserRule) (i : ℕ) → rule_of G c ≡ Some (rule_said other) → flagged c ≡ false → slice_get all i ≡ Some (view other.node) → rank_at t i < rank_at t j → At p c ≡ At q c)
      → (c : Text) → Part (without_spans (view rule.node)) (Ident c) → ReadsNode c → At p c ≡ At q c
  agree_by rule j p q here l k f c w (as_builtin d z) = fun_ext (λ a. builtin_at p c d a ∙ sym (builtin_at q c d a))
  agree_by rule j p q here l k f c w (as_any {q = s} d z o g) = fun_ext (λ a. any_at p c s d g a ∙ sym (any_at q c s d g a))
  agree_by rule j p q here l k f c w (as_body {r = r} {j = i} other d z o g there) =
      let low = falls (view rule.node) j here c w r i z o in f c other i d g there low.rank

  -- how deep calls are followed does not matter past the rank
  settled : (m : ℕ) (n : Text) (rule : ParserRule) (j : ℕ) → rule_of G n ≡ Some (rule_said rule) → flagged n ≡ false → slice_get all j ≡ Some (view rule.node) → rank_at t j < m
      → (p q : ℕ) → rank_at t j < p → rank_at t j < q → At p n ≡ At q n
  settled zero n rule j e f here h p q l k = absurd (omega arith)
  settled (suc m) n rule j e f here h zero q l k = absurd (omega arith)
  settled (suc m) n rule j e f here h (suc p) zero l k = absurd (omega arith)
  settled (suc m) n rule j e f here h (suc p) (suc q) l k =
      let agree = λ (c : Text) (w : Part (without_spans (view rule.node)) (Ident c)). agree_by rule j p q here (omega arith) (omega arith)
      (λ d other i o g there less. settled m d other i o g there (omega arith) p q (omega arith) (omega arith)) c w (reads_of c) in
      fun_ext (λ a. body_at (suc p) n (rule_said rule) e f a ∙ (ap (λ z. z a) (reading_same t.limit t.skips (At p) (At q) (without_spans (view rule.node)) agree) ∙ sym (body_at (suc q) n (rule_said rule) e f a)))

  abbrev deep : ℕ
  deep = length G

  -- what a node of an expression does
  abbrev pub read : Spanned → AbstractStack → says.Reading
  read x a = reading t.limit t.skips (name_reading t.limit t.skips flagged G deep) (without_spans x) a

  abbrev pub meaning_at : Option Spanned → AbstractStack → says.Reading
  meaning_at None a = impossible
  meaning_at (Some x) a = read x a

  abbrev pub meaning : Meaning
  meaning i a = meaning_at (slice_get all i) a

  pub meaning_is : (i : ℕ) (x : Spanned) → slice_get all i ≡ Some x → meaning i ≡ read x
  meaning_is i x e = ap meaning_at e

  as_many : length t.roots.items ≡ deep
  as_many = tabled.roots.alike ∙ sym (length-map (rule_views rules) _ ∙ length-map rules _)

  -- a name is read as the node that it leads to
  name_means : (n : Text) (i : ℕ) → HasOrderedOperands t i (kind_in G n) → (a : AbstractStack) → node_reading t meaning (kind_in G n) a ≡ At deep n a
  name_means n i h a = go (reads_of n)
    where
      go : ReadsNode n → node_reading t meaning (kind_in G n) a ≡ At deep n a
      go (as_builtin e l) =
          ap (λ q. node_reading t meaning (name_kind n q) a) l
          ∙ (by_reads t meaning (builtin_of n) a ∙ sym (builtin_at deep n e a))
      go (as_any {q = q} {r = r} e l o f) =
          ap (λ q. node_reading t meaning (name_kind n q) a) l ∙ (ap (λ q. call_reading meaning q a) o ∙ sym (any_at deep n q e f a))
      go (as_body {r = r} {j = j} rule e l o f here) =
          let leads : LeadsTo t i (followed_at t r) = subst (λ q. HasOrderedOperands t i (name_kind n q)) l h in
          let low : Called t i j = subst (LeadsTo t i) o leads in
          let few : rank_at t j < deep = (let b = low.few in let c = as_many in omega arith) in
          ap (λ q. node_reading t meaning (name_kind n q) a) l
          ∙ (ap (λ q. call_reading meaning q a) o
          ∙ (ap (λ z. z a) (meaning_is j (view rule.node) here)
          ∙ (sym (body_at (suc deep) n (rule_said rule) e f a)
          ∙ ap (λ z. z a) (settled deep n rule j e f here few (suc deep) deep (omega arith) few))))

  leaf_means : (e : Expression) (s : Span) (i : ℕ) → IsSimple e → HasOrderedOperands t i (leaf_kind (kind_in G) e) → (a : AbstractStack) → node_reading t meaning (leaf_kind (kind_in G) e) a ≡ read (Leaf s e) a
  leaf_means (bare.Str u) s i w h a = text_reads t meaning u a
  leaf_means (bare.Insens u) s i w h a = text_reads t meaning u a
  leaf_means (bare.Ident n) s i w h a = name_means n i h a
  leaf_means (bare.PeekSlice m n) s i w h a = slice_reads t meaning m n a
  leaf_means (bare.PushLiteral u) s i w h a = literal_reads u a
  leaf_means (bare.Range b c) s i w h a = refl
  leaf_means _ s i w h a = absurd w

  unary_means : (f : Unary) (s : Span) (x : Spanned) (j : ℕ) → meaning j ≡ read x → (a : AbstractStack) → node_reading t meaning (wrap_kind (sign_of f) j) a ≡ read (spanned.One s f x) a
  unary_means PosPred s x j e a = ap (λ z. says.ahead_reading a (z a)) e
  unary_means NegPred s x j e a = ap (λ z. says.not_ahead_reading a (z a)) e
  unary_means Opt s x j e a = ap (λ z. says.opt_reading a (z a)) e
  unary_means Push s x j e a = ap (λ z. says.pushed_reading (z a)) e
  unary_means (Tag u) s x j e a = ap (λ z. z a) e
  unary_means Rep s x j e a = ap (λ z. walked t.limit z t.skips a (Endless ∷ [])) e
  unary_means RepOnce s x j e a = ap (λ z. walked t.limit z t.skips a (Required ∷ Endless ∷ [])) e
  unary_means (RepExact n) s x j e a = ap₂ (λ z cs. walked t.limit z t.skips a cs) e (same_copies (RepExact n))
  unary_means (RepMin n) s x j e a = ap₂ (λ z cs. walked t.limit z t.skips a cs) e (same_copies (RepMin n))
  unary_means (RepMax n) s x j e a = ap₂ (λ z cs. walked t.limit z t.skips a cs) e (same_copies (RepMax n))
  unary_means (RepMinMax m n) s x j e a = ap₂ (λ z cs. walked t.limit z t.skips a cs) e (same_copies (RepMinMax m n))

  binary_means : (f : Binary) (s : Span) (x y : Spanned) (j k : ℕ) → meaning j ≡ read x → meaning k ≡ read y → (a : AbstractStack) → node_reading t meaning (both_kind (joint_of f) j k) a ≡ read (spanned.Two s f x y) a
  binary_means Seq s x y j k e h a = ap₂ (λ z w. says.seq_reading t.skips a (z a) (from (z a).ok w)) e h
  binary_means Choice s x y j k e h a = ap₂ (λ z w. says.choice_reading a (z a) (from (failed (z a).err a) w)) e h

  kind_means : (x : Spanned) (i : ℕ) (k : NodeKind) → Fits (kind_in G) all i k x → HasOrderedOperands t i k → (a : AbstractStack) → node_reading t meaning k a ≡ read x a
  kind_means (Leaf s e) i k f h a = ap (λ k. node_reading t meaning k a) f.1 ∙ leaf_means e s i f.0 (subst (HasOrderedOperands t i) f.1 h) a
  kind_means (spanned.One s f x) i k w h a = ap (λ k. node_reading t meaning k a) w.3 ∙ unary_means f s x w.0 (meaning_is w.0 x w.2) a
  kind_means (spanned.Two s f x y) i k w h a = ap (λ k. node_reading t meaning k a) w.6 ∙ binary_means f s x y w.0 w.1 (meaning_is w.0 x w.4) (meaning_is w.1 y w.5) a

  pub is_meaning : IsMeaning t meaning
  is_meaning i n e a =
      let (x, here, fit) = at_node i n e in
      ap (λ z. z a) (meaning_is i x here) ∙ sym (kind_means x i n.kind fit.fits (ordered i n e) a)

  -- 4. each node of a body stands in the table for itself
  module _ (nullable : Spanned → Bool) (null_at : (i : ℕ) (x : Spanned) → slice_get all i ≡ Some x → is_set_at t.nullable.items i ≡ nullable x) where
    does : (i : ℕ) (x : Spanned) → slice_get all i ≡ Some x → DoesTheSame t meaning read nullable i x
    does i x here = record { reads = meaning_is i x here; null = null_at i x here }

    pub stands : (x : Spanned) (i : ℕ) → slice_get all i ≡ Some x → Represents t meaning read nullable i x
    stands (Leaf s e) i here =
        let (n, at, fit) = tabled.nodes.fit i (Leaf s e) here in
        (n, at, ap parts_of fit.fits.1 ∙ leaf_parts G e fit.fits.0)
    stands (spanned.One s f x) i here =
        let (n, at, fit) = tabled.nodes.fit i (spanned.One s f x) here in
        let j = fit.fits.0 in
        (n, j, required_of f, optional_of f, at, ap parts_of fit.fits.3 ∙ unary_parts f j, same_copies f, fit.place, does j x fit.fits.2, stands x j fit.fits.2)
    stands (spanned.Two s f x y) i here =
        let (n, at, fit) = tabled.nodes.fit i (spanned.Two s f x y) here in
        let j = fit.fits.0 in
        let k = fit.fits.1 in
        (n, j, k, at, ap parts_of fit.fits.6 ∙ binary_parts f j k, does j x fit.fits.4, stands x j fit.fits.4, stands y k fit.fits.5)
