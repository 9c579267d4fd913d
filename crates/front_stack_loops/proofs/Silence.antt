-- Nothing is reported in a body in which no repetition without end repeats what may be read as taking nothing.
use Rattle.std.proofs.Common.{◌≡◌, ℕ, zero, suc, min, ◌+◌, ◌<◌, ◌≤◌, List, [], ◌∷◌, ◌++◌, Option, Some, None, Bool, true, false, ◌&&◌, ◌||◌, nat_eq, slice_get, length, inl, inr, refl, sym, ◌∙◌, ap, ap₂, subst, ℤ, pos, negsuc, arith}
use Rattle.std.proofs.lemmas.Bool.{cases_lt, or_parts}
use Rattle.base_language.specs.Language.Text.{Text}
use Rattle.base_language.specs.Language.Builtins.{Builtin, One, Property, Newline, Soi, Eoi, Peek, Pop, Drop, PeekAll, PopAll, builtin_of}
use Rattle.base_language.specs.Language.Expression as bare
use Rattle.base_language.specs.Language.Expression.{Expression, Rule, Grammar, rule_of, last_place}
use Rattle.base_language.proofs.Basics.{got_alike}
use Rattle.base_graphs.specs.Least.{is_set_at}
use Rattle.base_graphs.proofs.FlagLists.{set_before}
use Rattle.front_spanned.specs.Erasure.{without_spans, round, between}
use Rattle.front_spanned.specs.Nodes.{view}
use Rattle.front_spanned.specs.Spanned as spanned
use Rattle.front_spanned.specs.Spanned.{Spanned, Leaf, Unary, PosPred, NegPred, Opt, Rep, RepOnce, RepExact, RepMin, RepMax, RepMinMax, Push, Tag, Binary, Seq, Choice}
use Rattle.front_spanned.specs.declared.node.ParserRule.{ParserRule}
use Rattle.front_stack_domain.specs.Stack.{AbstractStack, entry, made_intact}
use Rattle.front_stack_domain.specs.Reading as says
use Rattle.front_stack_domain.specs.Reading.{builtin_reading, loops, name_reading}
use Rattle.front_stack_domain.specs.Reported.{ReportedIn, is_endless, is_choice}
use Rattle.front_stack_domain.specs.Reports.{reading_in, skips_in}
use Rattle.front_analysis.specs.Shapes.{sign_of, joint_of}
use Rattle.front_stack_loops.specs.Answers.{AreAnswers, at_place, some_part, still_kind}
use Rattle.front_stack_loops.specs.Leading.{IsOperandOf}
use Rattle.front_analysis.specs.Names.{grammar_of, rule_said}
use Rattle.front_stack_loops.specs.Names.{kind_in, name_kind, builtin_kind}
use Rattle.front_analysis.specs.Nodes.{IsSimple, all_nodes}
use Rattle.front_stack_loops.specs.Kinds.{AreTabled, Fits, is_empty_text, leaf_kind, text_kind, slice_kind, wrap_kind, both_kind}
use Rattle.front_stack_loops.specs.Reportable.{AreInPostorder, AreReportable, AreSilent, may_be_still, may_loop, slice_may_be_still, AreLoopFlags}
use Rattle.front_stack_loops.specs.Table.{parts_of}
use Rattle.front_stack_loops.specs.declared.facts.Question.TheVariants as asks
use Rattle.front_stack_loops.specs.declared.table.PassNode.{PassNode}
use Rattle.front_stack_loops.specs.declared.table.Parts.{Parts}
use Rattle.front_stack_loops.specs.declared.table.Parts.TheVariants as parts
use Rattle.front_stack_loops.proofs.Reached.{either_operand, only_operand}
use Rattle.front_analysis.proofs.Resolved.{Named, absent, named, resolved, same_item}
use Rattle.front_stack_loops.proofs.Still.{first_turn, names_still, reads_still}
use Rattle.front_stack_loops.proofs.Tied.{binary_parts, leaf_parts, optional_of, required_of, unary_parts}

not_both : (a b : Bool) → (a && b) ≡ false → a ≡ true → b ≡ true → ⊥
not_both true b h e f = let z = sym h ∙ f in cc
not_both false b h e f = cc

-- flags of nodes, so far: each depends on those of operands, which stand before it
abbrev rest_told : List Bool → List Bool → Parts → Bool
rest_told still flags ps = may_loop (is_set_at still) ps || some_part (is_set_at flags) ps

abbrev pub AreToldTo : List PassNode → List Bool → List Bool → ℕ → Type 0
AreToldTo ns still flags k = (i : ℕ) (n : PassNode) → i < k → slice_get ns i ≡ Some n → is_set_at flags i ≡ rest_told still flags (parts_of n.kind)

set_last : (flags : List Bool) (b : Bool) (j : ℕ) → j ≡ length flags → is_set_at (flags ++ b ∷ []) j ≡ b
set_last [] b zero h = refl
set_last [] b (suc j) h = absurd (omega arith)
set_last (a ∷ flags) b zero h = absurd (omega arith)
set_last (a ∷ flags) b (suc j) h = set_last flags b j (omega arith)

same_parts : (p q : ℕ → Bool) (ps : Parts) → ((j : ℕ) → IsOperandOf j ps → p j ≡ q j) → some_part p ps ≡ some_part q ps
same_parts p q parts.Nothing f = refl
same_parts p q (parts.Inside j required optional endless) f = f j refl
same_parts p q (parts.Both j k choice) f = ap₂ (λ y z. y || z) (f j (inl refl)) (f k (inr refl))

pub told_more : (ns : List PassNode) (still flags : List Bool) (k : ℕ) (n : PassNode) (b : Bool) → AreInPostorder ns → length flags ≡ k → slice_get ns k ≡ Some n → b ≡ rest_told still flags (parts_of n.kind)
    → AreToldTo ns still flags k → AreToldTo ns still (flags ++ b ∷ []) (k + 1)
told_more ns still flags k n b before l at e h i m less is = elim (cases_lt i k) [
  | inl w ↦ set_before flags b i (omega arith) ∙ (h i m w is ∙ as_before i m is (omega arith))
  | inr w ↦
      let ik : i ≡ k = omega arith in
      let same : m ≡ n = same_item (slice_get ns k) m n (subst (λ z. slice_get ns z ≡ Some m) ik is) at in
      set_last flags b i (omega arith) ∙ (e ∙ (ap (λ z. rest_told still flags (parts_of z.kind)) (sym same) ∙ as_before i m is (omega arith)))
]
  where
    as_before : (i : ℕ) (m : PassNode) → slice_get ns i ≡ Some m → i ≤ length flags → rest_told still flags (parts_of m.kind) ≡ rest_told still (flags ++ b ∷ []) (parts_of m.kind)
    as_before i m is w = ap (λ z. may_loop (is_set_at still) (parts_of m.kind) || z)
        (same_parts (is_set_at flags) (is_set_at (flags ++ b ∷ [])) (parts_of m.kind) (λ j o. let less = before i m is j o in sym (set_before flags b j (omega arith))))

module _ (rules : List ParserRule) (ns : List PassNode) (roots : List ℕ) (tabled : AreTabled rules (kind_in (grammar_of rules)) ns roots) where
  abbrev G : Grammar
  G = grammar_of rules

  abbrev all : List Spanned
  all = all_nodes rules

  fits_at : (i : ℕ) (n : PassNode) (x : Spanned) → slice_get ns i ≡ Some n → slice_get all i ≡ Some x → Fits (kind_in G) all i n.kind x
  fits_at i n x at here =
      let (m, is, fit) = tabled.nodes.fit i x here in
      subst (λ z. Fits (kind_in G) all i z.kind x) (same_item (slice_get ns i) m n is at) fit.fits

  below : (i : ℕ) (n : PassNode) (x : Spanned) → slice_get ns i ≡ Some n → slice_get all i ≡ Some x → (j : ℕ) → IsOperandOf j (parts_of n.kind) → j < i
  below i n (Leaf s e) at here j o =
      let f = fits_at i n (Leaf s e) at here in
      absurd (subst (IsOperandOf j) (ap parts_of f.1 ∙ leaf_parts G e f.0) o)
  below i n (spanned.One s g x) at here j o =
      let f = fits_at i n (spanned.One s g x) at here in
      subst (λ k. k < i) (sym (only_operand g f.0 j (subst (λ k. IsOperandOf j (parts_of k)) f.3 o))) f.1
  below i n (spanned.Two s g x y) at here j o =
      let f = fits_at i n (spanned.Two s g x y) at here in
      elim (either_operand g f.0 f.1 j (subst (λ k. IsOperandOf j (parts_of k)) f.6 o)) [
        | inl e ↦ subst (λ k. k < i) (sym e) f.2
        | inr e ↦ subst (λ k. k < i) (sym e) f.3
      ]

  -- operands stand before what they are operands of
  pub behind : AreInPostorder ns
  behind i n at j o = let (x, here) = got_alike ns all i n at tabled.nodes.alike in below i n x at here j o

  module _ (still : List Bool) (right : AreAnswers asks.MayBeStill ns roots still) where
    abbrev P : ℕ → Bool
    P = is_set_at still

    abbrev near : Text → Bool
    near n = still_kind roots P (kind_in G n)

    text_at : (t : Text) → still_kind roots P (text_kind t) ≡ is_empty_text t
    text_at [] = refl
    text_at (c ∷ t) = refl

    slice_at : (i : ℤ) (j : Option ℤ) → still_kind roots P (slice_kind i j) ≡ slice_may_be_still i j
    slice_at (pos zero) None = refl
    slice_at (pos zero) (Some (pos zero)) = refl
    slice_at (pos zero) (Some (pos (suc k))) = refl
    slice_at (pos zero) (Some (negsuc k)) = refl
    slice_at (pos (suc k)) j = refl
    slice_at (negsuc k) j = refl

    leaf_at : (e : Expression) → IsSimple e → still_kind roots P (leaf_kind (kind_in G) e) ≡ may_be_still near e
    leaf_at (bare.Str t) s = text_at t
    leaf_at (bare.Insens t) s = text_at t
    leaf_at (bare.Ident n) s = refl
    leaf_at (bare.PeekSlice i j) s = slice_at i j
    leaf_at (bare.PushLiteral t) s = refl
    leaf_at (bare.Range a b) s = refl
    leaf_at _ s = absurd s

    unary_at : (f : Unary) (e : Expression) (j : ℕ) → P j ≡ may_be_still near e → still_kind roots P (wrap_kind (sign_of f) j) ≡ may_be_still near (round f e)
    unary_at PosPred e j h = refl
    unary_at NegPred e j h = refl
    unary_at Opt e j h = refl
    unary_at Push e j h = h
    unary_at (Tag t) e j h = h
    unary_at Rep e j h = refl
    unary_at RepOnce e j h = h
    unary_at (RepExact n) e j h = ap (λ z. nat_eq n 0 || z) h
    unary_at (RepMin n) e j h = ap (λ z. nat_eq n 0 || z) h
    unary_at (RepMax n) e j h = refl
    unary_at (RepMinMax m n) e j h = ap (λ z. nat_eq (min m n) 0 || z) h

    binary_at : (f : Binary) (d e : Expression) (j k : ℕ) → P j ≡ may_be_still near d → P k ≡ may_be_still near e → still_kind roots P (both_kind (joint_of f) j k) ≡ may_be_still near (between f d e)
    binary_at Seq d e j k h l = ap₂ (λ y z. y && z) h l
    binary_at Choice d e j k h l = ap₂ (λ y z. y || z) h l

    -- a node's flag says whether it may be read as taking nothing
    still_at : (x : Spanned) (i : ℕ) → slice_get all i ≡ Some x → P i ≡ may_be_still near (without_spans x)
    still_at (Leaf s e) i here =
        let (n, at, fit) = tabled.nodes.fit i (Leaf s e) here in
        right i n at ∙ (ap (still_kind roots P) fit.fits.1 ∙ leaf_at e fit.fits.0)
    still_at (spanned.One s f x) i here =
        let (n, at, fit) = tabled.nodes.fit i (spanned.One s f x) here in
        right i n at ∙ (ap (still_kind roots P) fit.fits.3 ∙ unary_at f (without_spans x) fit.fits.0 (still_at x fit.fits.0 fit.fits.2))
    still_at (spanned.Two s f x y) i here =
        let (n, at, fit) = tabled.nodes.fit i (spanned.Two s f x y) here in
        right i n at ∙ (ap (still_kind roots P) fit.fits.6
        ∙ binary_at f (without_spans x) (without_spans y) fit.fits.0 fit.fits.1 (still_at x fit.fits.0 fit.fits.4) (still_at y fit.fits.1 fit.fits.5))

    body_near : (n : Text) (q : Rule) → rule_of G n ≡ Some q → may_be_still near q.body ≡ true → near n ≡ true
    body_near n q e h = go (last_place G n) refl (resolved rules n)
      where
        go : (o : Option ℕ) → last_place G n ≡ o → Named rules n o → near n ≡ true
        go o l (absent f) = let z = sym e ∙ f in cc
        go o l (named {r = r} rule at f) =
            let (j, root) = got_alike rules roots r rule at (sym tabled.roots.alike) in
            let same : rule_said rule ≡ q = same_item (rule_of G n) (rule_said rule) q f e in
            ap (λ o. still_kind roots P (name_kind n o)) l ∙ (ap (at_place P) root ∙ (still_at (view rule.node) j (tabled.roots.lie r j rule at root) ∙ (ap (λ z. may_be_still near z.body) same ∙ h)))

    by_still : (q : Option Builtin) (a : AbstractStack) → (builtin_reading q a).still ≡ true → still_kind roots P (builtin_kind q) ≡ true
    by_still (Some Peek) a h = refl
    by_still (Some Pop) a h = refl
    by_still (Some Drop) a h = refl
    by_still (Some PeekAll) a h = refl
    by_still (Some PopAll) a h = refl
    by_still (Some (One f)) a h = cc
    by_still (Some (Property n)) a h = cc
    by_still (Some Newline) a h = cc
    by_still (Some Soi) a h = cc
    by_still (Some Eoi) a h = cc
    by_still None a h = cc

    builtin_near : (n : Text) → rule_of G n ≡ None → (a : AbstractStack) → (builtin_reading (builtin_of n) a).still ≡ true → near n ≡ true
    builtin_near n e a h = go (last_place G n) refl (resolved rules n)
      where
        go : (o : Option ℕ) → last_place G n ≡ o → Named rules n o → near n ≡ true
        go o l (absent f) = ap (λ q. still_kind roots P (name_kind n q)) l ∙ by_still (builtin_of n) a h
        go o l (named rule at f) = let z = sym e ∙ f in cc

    module _ (flags : List Bool) (told : AreLoopFlags ns still flags) (limit turns : ℕ) (recursive : Text → Bool) (nullable : Spanned → Bool) where
      abbrev read : Spanned → AbstractStack → says.Reading
      read y = reading_in limit recursive G (without_spans y)

      -- what a loop repeats has its flag set
      loop_still : (x : Spanned) (j : ℕ) → slice_get all j ≡ Some x → (a : AbstractStack) → loops turns (read x) a ≡ true → P j ≡ true
      loop_still x j here a h =
          let (o, s) = first_turn (read x) turns a h in
          still_at x j here ∙ reads_still limit (skips_in G) (name_reading limit (skips_in G) recursive G (length G)) near
          (names_still limit (skips_in G) recursive G near builtin_near body_near (length G)) (without_spans x) (made_intact a) o s

      silent_at : (x : Spanned) (i : ℕ) → slice_get all i ≡ Some x → is_set_at flags i ≡ false → (S : AbstractStack → Type 0) → ReportedIn limit turns read nullable S x []
      silent_at (Leaf s e) i here off S = refl
      silent_at (spanned.One s f x) i here off S =
          let (n, at, fit) = tabled.nodes.fit i (spanned.One s f x) here in
          let j = fit.fits.0 in
          let ps : parts_of n.kind ≡ parts.Inside j (required_of f) (optional_of f) (is_endless f) = ap parts_of fit.fits.3 ∙ unary_parts f j in
          let (a, b) = or_parts (is_endless f && P j) (is_set_at flags j) (ap (λ z. may_loop P z || some_part (is_set_at flags) z) (sym ps) ∙ (sym (told i n at) ∙ off)) in
          ([], silent_at x j fit.fits.2 b _, inr (λ e _ l. not_both (is_endless f) (P j) a e (loop_still x j fit.fits.2 l.0 l.2), refl))
      silent_at (spanned.Two s f x y) i here off S =
          let (n, at, fit) = tabled.nodes.fit i (spanned.Two s f x y) here in
          let j = fit.fits.0 in
          let k = fit.fits.1 in
          let ps : parts_of n.kind ≡ parts.Both j k (is_choice f) = ap parts_of fit.fits.6 ∙ binary_parts f j k in
          let (a, b) = or_parts (is_set_at flags j) (is_set_at flags k) (ap (λ z. may_loop P z || some_part (is_set_at flags) z) (sym ps) ∙ (sym (told i n at) ∙ off)) in
          ([], [], silent_at x j fit.fits.4 a S, silent_at y k fit.fits.5 b _, refl)

  pub silent : (flags : List Bool) → AreReportable ns roots flags → AreSilent rules roots flags
  silent flags h r i rule at root off = λ limit turns recursive nullable.
      silent_at h.still h.answers flags h.told limit turns recursive nullable (view rule.node) i (tabled.roots.lie r i rule at root) off (λ a. a ≡ entry)
