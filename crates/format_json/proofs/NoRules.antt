-- A text that is refused has no rules.
use Rattle.std.proofs.Common.{◌≡◌, ◌≢◌, ◌<◌, ℕ, inl, inr, Option, Some, None, List, [], ◌∷◌, ◌++◌, map, length, codes, refl, sym, ap, ◌∙◌, subst, append-nil, arith, string_bytes, slice_get}
use Rattle.std.specs.Borrow.{Bor}
use Rattle.std.specs.List.{AllByRecursion, flat_map}
use Rattle.std.specs.Prelude.{option_and_then}
use Rattle.std.specs.Option.{option_map}
use Rattle.std.proofs.lemmas.Grind.{flat_map-append}
use Rattle.std.proofs.lemmas.List.{length-map}
use Rattle.std.proofs.lemmas.Option.{get_or_from_slice_get, slice_get-map, slice_get_within}
use Rattle.serde_json.specs.Data.{Data, array, string}
use Rattle.serde_json.specs.Find.{as_array, as_str, get}
use Rattle.serde_json.specs.View.{items_of}
use Rattle.base_language.specs.Language.Expression.{Expression, Part, Rule, of_choice_left, of_choice_right, of_neg_pred, of_opt, of_pos_pred, of_push, of_rep, of_rep_exact, of_rep_max, of_rep_min, of_rep_min_max, of_rep_once, of_restore, of_seq_left, of_seq_right, of_tag, whole}
use Rattle.base_language.specs.Language.Grammar.{FitsItsTypes}
use Rattle.base_ast.specs.Ast.{expression_of, rule_of_code}
use Rattle.base_ast.specs.Optimized.{optimized_expression_of, optimized_rule_of}
use Rattle.base_ast.specs.declared.ast.Expr as bare
use Rattle.base_ast.specs.declared.ast.Rule as bare_rule
use Rattle.base_ast.specs.declared.ast.RuleType.{RuleType}
use Rattle.base_ast.specs.declared.optimized.OptimizedExpr as optimized
use Rattle.base_ast.specs.declared.optimized.OptimizedRule.{OptimizedRule}
use Rattle.format_json.specs.Format.{nodes_of, optimized_nodes_of}
use Rattle.format_json.specs.Nodes.{HasFittingNumbers, node_data}
use Rattle.format_json.specs.Reading.{AreOptimizedRules, AreRules, FitTheirTypes, Lists, Members, members_of, members_of_optimized, members_of_rule, rule_members}
use Rattle.format_json.specs.Refusals.{IsRefusedAsOptimized, IsRefusedAsRules, IsUnreadAt, Refuses}
use Rattle.format_json.specs.Unread.{AreOfSeveral, HasNoNodes, HasNodes, IsUnreadNode, IsUnreadRule, StopsAt}
use Rattle.format_json.specs.declared.nodes.JsonNode.{JsonNode}
use Rattle.format_json.specs.declared.nodes.JsonNode.TheVariants as node
use Rattle.format_json.specs.declared.refusal.Refusal.{Refusal}
use Rattle.format_json.specs.declared.refusal.Refusal.TheVariants as refusal
use Rattle.format_json.specs.declared.refusal.RefusalLocation.TheVariants as location
use Rattle.format_json.specs.declared.refusal.RefusalReason.TheVariants as is
use Rattle.format_json.specs.declared.refusal.Unread.{Unread}
use Rattle.format_json.specs.declared.refusal.Unread.TheVariants as unread
use Rattle.format_json.proofs.Decoding.{arrays_one, decode, decoded, optimized_decoded}
use Rattle.format_json.proofs.Lacking.{flat_decoded}

-- the value is a node whose numbers fit
abbrev pub IsNode : Data → Type 0
IsNode d = (n : JsonNode) × HasFittingNumbers n × (node_data n ≡ d)

-- the numbers of all parts of an expression fit
abbrev pub PartsFit : Expression → Type 0
PartsFit e = (p : Expression) → Part e p → FitsItsTypes p

-- an expression's nodes begin with one that is followed by those of expressions
abbrev pub Begins : {E : Type 0} → (E → List Data) → E → Type 0
Begins {E} nodes x = (d : Data) × (ys : List E) × (nodes x ≡ d ∷ flat_map nodes ys)

-- a text somewhere in memory
abbrev place : List ℕ → Bor (List ℕ)
place text = record { ref_ptr = (0, 0); now = text }

after_one : (d : Data) (xs : List Data) → d ∷ xs ≡ d ∷ (xs ++ [])
after_one d xs = ap (λ t. d ∷ t) (sym (append-nil xs))

after_two : (d : Data) (xs ys : List Data) → d ∷ (xs ++ ys) ≡ d ∷ (xs ++ (ys ++ []))
after_two d xs ys = ap (λ t. d ∷ (xs ++ t)) (sym (append-nil ys))

all_append : {A : Type 0} (P : A → Type 0) (xs ys : List A) → AllByRecursion P xs → AllByRecursion P ys → AllByRecursion P (xs ++ ys)
all_append P [] ys h k = k
all_append P (x ∷ xs) ys h k = (h.0, all_append P xs ys h.1 k)

all_at : {A : Type 0} (P : A → Type 0) (xs : List A) (x : A) (ys : List A) → AllByRecursion P (xs ++ (x ∷ ys)) → P x
all_at P [] x ys h = h.0
all_at P (y ∷ xs) x ys h = all_at P xs x ys h.1

begins : (x : bare.Expr) → Begins nodes_of x
begins (bare.Str s) = (_, [], refl)
begins (bare.Insens s) = (_, [], refl)
begins (bare.Range s t) = (_, [], refl)
begins (bare.Ident s) = (_, [], refl)
begins (bare.PeekSlice i j) = (_, [], refl)
begins (bare.PosPred' p x) = (_, x ∷ [], after_one _ (nodes_of x))
begins (bare.NegPred' p x) = (_, x ∷ [], after_one _ (nodes_of x))
begins (bare.Seq' p x q y) = (_, x ∷ (y ∷ []), after_two _ (nodes_of x) (nodes_of y))
begins (bare.Choice' p x q y) = (_, x ∷ (y ∷ []), after_two _ (nodes_of x) (nodes_of y))
begins (bare.Opt' p x) = (_, x ∷ [], after_one _ (nodes_of x))
begins (bare.Rep' p x) = (_, x ∷ [], after_one _ (nodes_of x))
begins (bare.RepOnce' p x) = (_, x ∷ [], after_one _ (nodes_of x))
begins (bare.RepExact' p x n) = (_, x ∷ [], after_one _ (nodes_of x))
begins (bare.RepMin' p x n) = (_, x ∷ [], after_one _ (nodes_of x))
begins (bare.RepMax' p x n) = (_, x ∷ [], after_one _ (nodes_of x))
begins (bare.RepMinMax' p x m n) = (_, x ∷ [], after_one _ (nodes_of x))
begins (bare.Skip ss) = (_, [], refl)
begins (bare.Push' p x) = (_, x ∷ [], after_one _ (nodes_of x))
begins (bare.PushLiteral s) = (_, [], refl)
begins (bare.NodeTag' p x s) = (_, x ∷ [], after_one _ (nodes_of x))

fitting : (x : bare.Expr) → PartsFit (expression_of x) → AllByRecursion IsNode (nodes_of x)
fitting (bare.Str s) f = ((node.Str (place (string_bytes s)), tt, refl), tt)
fitting (bare.Insens s) f = ((node.Insens (place (string_bytes s)), tt, refl), tt)
fitting (bare.Range s t) f = ((node.Range (place (string_bytes s)) (place (string_bytes t)), tt, refl), tt)
fitting (bare.Ident s) f = ((node.Ident (place (string_bytes s)), tt, refl), tt)
fitting (bare.PeekSlice i j) f = ((node.PeekSlice i j, f _ whole, refl), tt)
fitting (bare.PosPred' p x) f = ((node.PosPred, tt, refl), fitting x (λ q h. f q (of_pos_pred h)))
fitting (bare.NegPred' p x) f = ((node.NegPred, tt, refl), fitting x (λ q h. f q (of_neg_pred h)))
fitting (bare.Seq' p x q y) f = ((node.Seq, tt, refl), all_append IsNode (nodes_of x) (nodes_of y) (fitting x (λ q h. f q (of_seq_left h))) (fitting y (λ q h. f q (of_seq_right h))))
fitting (bare.Choice' p x q y) f = ((node.Choice, tt, refl), all_append IsNode (nodes_of x) (nodes_of y) (fitting x (λ q h. f q (of_choice_left h))) (fitting y (λ q h. f q (of_choice_right h))))
fitting (bare.Opt' p x) f = ((node.Opt, tt, refl), fitting x (λ q h. f q (of_opt h)))
fitting (bare.Rep' p x) f = ((node.Rep, tt, refl), fitting x (λ q h. f q (of_rep h)))
fitting (bare.RepOnce' p x) f = ((node.RepOnce, tt, refl), fitting x (λ q h. f q (of_rep_once h)))
fitting (bare.RepExact' p x n) f = ((node.RepExact n, f _ whole, refl), fitting x (λ q h. f q (of_rep_exact h)))
fitting (bare.RepMin' p x n) f = ((node.RepMin n, f _ whole, refl), fitting x (λ q h. f q (of_rep_min h)))
fitting (bare.RepMax' p x n) f = ((node.RepMax n, f _ whole, refl), fitting x (λ q h. f q (of_rep_max h)))
fitting (bare.RepMinMax' p x m n) f = ((node.RepMinMax m n, f _ whole, refl), fitting x (λ q h. f q (of_rep_min_max h)))
fitting (bare.Skip ss) f = ((node.Skip ss, tt, refl), tt)
fitting (bare.Push' p x) f = ((node.Push, tt, refl), fitting x (λ q h. f q (of_push h)))
fitting (bare.PushLiteral s) f = ((node.PushLiteral (place (string_bytes s)), tt, refl), tt)
fitting (bare.NodeTag' p x s) f = ((node.NodeTag (place (string_bytes s)), tt, refl), fitting x (λ q h. f q (of_tag h)))

optimized_begins : (x : optimized.OptimizedExpr) → Begins optimized_nodes_of x
optimized_begins (optimized.Str s) = (_, [], refl)
optimized_begins (optimized.Insens s) = (_, [], refl)
optimized_begins (optimized.Range s t) = (_, [], refl)
optimized_begins (optimized.Ident s) = (_, [], refl)
optimized_begins (optimized.PeekSlice i j) = (_, [], refl)
optimized_begins (optimized.PosPred' p x) = (_, x ∷ [], after_one _ (optimized_nodes_of x))
optimized_begins (optimized.NegPred' p x) = (_, x ∷ [], after_one _ (optimized_nodes_of x))
optimized_begins (optimized.Seq' p x q y) = (_, x ∷ (y ∷ []), after_two _ (optimized_nodes_of x) (optimized_nodes_of y))
optimized_begins (optimized.Choice' p x q y) = (_, x ∷ (y ∷ []), after_two _ (optimized_nodes_of x) (optimized_nodes_of y))
optimized_begins (optimized.Opt' p x) = (_, x ∷ [], after_one _ (optimized_nodes_of x))
optimized_begins (optimized.Rep' p x) = (_, x ∷ [], after_one _ (optimized_nodes_of x))
optimized_begins (optimized.RepOnce' p x) = (_, x ∷ [], after_one _ (optimized_nodes_of x))
optimized_begins (optimized.Skip ss) = (_, [], refl)
optimized_begins (optimized.Push' p x) = (_, x ∷ [], after_one _ (optimized_nodes_of x))
optimized_begins (optimized.PushLiteral s) = (_, [], refl)
optimized_begins (optimized.NodeTag' p x s) = (_, x ∷ [], after_one _ (optimized_nodes_of x))
optimized_begins (optimized.RestoreOnErr' p x) = (_, x ∷ [], after_one _ (optimized_nodes_of x))

optimized_fitting : (x : optimized.OptimizedExpr) → PartsFit (optimized_expression_of x) → AllByRecursion IsNode (optimized_nodes_of x)
optimized_fitting (optimized.Str s) f = ((node.Str (place (string_bytes s)), tt, refl), tt)
optimized_fitting (optimized.Insens s) f = ((node.Insens (place (string_bytes s)), tt, refl), tt)
optimized_fitting (optimized.Range s t) f = ((node.Range (place (string_bytes s)) (place (string_bytes t)), tt, refl), tt)
optimized_fitting (optimized.Ident s) f = ((node.Ident (place (string_bytes s)), tt, refl), tt)
optimized_fitting (optimized.PeekSlice i j) f = ((node.PeekSlice i j, f _ whole, refl), tt)
optimized_fitting (optimized.PosPred' p x) f = ((node.PosPred, tt, refl), optimized_fitting x (λ q h. f q (of_pos_pred h)))
optimized_fitting (optimized.NegPred' p x) f = ((node.NegPred, tt, refl), optimized_fitting x (λ q h. f q (of_neg_pred h)))
optimized_fitting (optimized.Seq' p x q y) f = ((node.Seq, tt, refl), all_append IsNode (optimized_nodes_of x) (optimized_nodes_of y) (optimized_fitting x (λ q h. f q (of_seq_left h))) (optimized_fitting y (λ q h. f q (of_seq_right h))))
optimized_fitting (optimized.Choice' p x q y) f = ((node.Choice, tt, refl), all_append IsNode (optimized_nodes_of x) (optimized_nodes_of y) (optimized_fitting x (λ q h. f q (of_choice_left h))) (optimized_fitting y (λ q h. f q (of_choice_right h))))
optimized_fitting (optimized.Opt' p x) f = ((node.Opt, tt, refl), optimized_fitting x (λ q h. f q (of_opt h)))
optimized_fitting (optimized.Rep' p x) f = ((node.Rep, tt, refl), optimized_fitting x (λ q h. f q (of_rep h)))
optimized_fitting (optimized.RepOnce' p x) f = ((node.RepOnce, tt, refl), optimized_fitting x (λ q h. f q (of_rep_once h)))
optimized_fitting (optimized.Skip ss) f = ((node.Skip ss, tt, refl), tt)
optimized_fitting (optimized.Push' p x) f = ((node.Push, tt, refl), optimized_fitting x (λ q h. f q (of_push h)))
optimized_fitting (optimized.PushLiteral s) f = ((node.PushLiteral (place (string_bytes s)), tt, refl), tt)
optimized_fitting (optimized.NodeTag' p x s) f = ((node.NodeTag (place (string_bytes s)), tt, refl), optimized_fitting x (λ q h. f q (of_tag h)))
optimized_fitting (optimized.RestoreOnErr' p x) f = ((node.RestoreOnErr, tt, refl), optimized_fitting x (λ q h. f q (of_restore h)))

one_of_both : (xs : List Expression) (x : Expression) → 1 < length xs → xs ≡ x ∷ [] → ⊥
one_of_both xs x h e = let both : length xs ≡ 1 = ap length e in absurd (omega arith)

module _ {E : Type 0} (nodes : E → List Data) (view : E → Expression) (reads : (x : E) (rest : List Data) → decode (nodes x ++ rest) ≡ view x ∷ decode rest) (begins_of : (x : E) → Begins nodes x) where
  -- the nodes after some of an expression's are those of expressions
  rest_of : (before after : List Data) (es : List E) → flat_map nodes es ≡ before ++ after → (fs : List E) × (flat_map nodes fs ≡ after)
  rest_of [] after es h = (es, h)
  rest_of (d ∷ before) after [] h = cc
  rest_of (d ∷ before) after (x ∷ es) h =
      let b = begins_of x in
      let whole_ : (b.0 ∷ flat_map nodes b.1) ++ flat_map nodes es ≡ d ∷ (before ++ after) = ap (λ t. t ++ flat_map nodes es) (sym b.2) ∙ h in
      let rest : flat_map nodes b.1 ++ flat_map nodes es ≡ before ++ after = cc in
      rest_of before after (b.1 ++ es) (flat_map-append nodes b.1 es ∙ rest)

  refused_node : (d : Data) (after : List Data) → IsNode d → IsUnreadNode nodes d after → (fs : List E) → flat_map nodes fs ≡ d ∷ after → ⊥
  refused_node d after n (inl none) fs h = none n.0 n.1 n.2
  refused_node d after n (inr none) fs h = none fs h

  not_stopped : (x : E) (k : ℕ) → AllByRecursion IsNode (nodes x) → StopsAt nodes (nodes x) k → ⊥
  not_stopped x k fits s =
      let rest : List Data = flat_map nodes s.read in
      let found = rest_of s.before (s.node ∷ rest) (x ∷ []) (append-nil (nodes x) ∙ sym s.parts) in
      let here : IsNode s.node = all_at IsNode s.before s.node rest (subst (λ ds. AllByRecursion IsNode ds) (sym s.parts) fits) in
      refused_node s.node rest here s.unread found.0 found.1

  not_several : (x : E) → AreOfSeveral nodes (nodes x) → ⊥
  not_several x s =
      let alone : decode (nodes x) ≡ view x ∷ [] = ap decode (sym (append-nil (nodes x))) ∙ reads x [] in
      let all : map view s.0 ≡ view x ∷ [] = sym (flat_decoded nodes view reads s.0) ∙ (ap decode s.2 ∙ alone) in
      one_of_both (map view s.0) (view x) (subst (λ n. 1 < n) (sym (length-map s.0 view)) s.1) all

  not_empty : (x : E) → nodes x ≡ [] → ⊥
  not_empty x h = let b = begins_of x in let both : b.0 ∷ flat_map nodes b.1 ≡ [] = sym b.2 ∙ h in cc

  of_nodes : (d : Data) (P : List Data → Type 0) (x : E) → HasNodes d P → get (codes "expr") d ≡ Some (array (items_of (nodes x))) → P (nodes x)
  of_nodes d P x h e = subst P (arrays_one h.0 (nodes x) (sym h.1 ∙ e)) h.2

  has_nodes : (d : Data) (x : E) → HasNoNodes d → get (codes "expr") d ≡ Some (array (items_of (nodes x))) → ⊥
  has_nodes d x (inl none) e = let both : Some (items_of (nodes x)) ≡ None = sym (ap (option_and_then as_array) e) ∙ none in cc
  has_nodes d x (inr empty) e = not_empty x (of_nodes d (λ ds. ds ≡ []) x empty e)

  -- a value that is not read has not the members of a rule
  no_rule : (d : Data) (name : List ℕ) (ty : RuleType) (x : E) (why : Unread) → why ≢ unread.Memory → AllByRecursion IsNode (nodes x) → IsUnreadRule nodes d why → members_of d ≡ rule_members name ty (nodes x) → ⊥
  no_rule d name ty x unread.Memory other fits h e = other refl
  no_rule d name ty x (unread.Reason is.Name) other fits h e =
      let named : get (codes "name") d ≡ Some (string name) = ap (λ m. m.name) e in
      let both : Some name ≡ None = sym (ap (option_and_then as_str) named) ∙ h in
      cc
  no_rule d name ty x (unread.Reason is.Type) other fits h e = h ty (ap (λ m. m.type_of) e)
  no_rule d name ty x (unread.Reason is.Body) other fits h e = has_nodes d x h (ap (λ m. m.body) e)
  no_rule d name ty x (unread.Reason is.Left) other fits h e = not_several x (of_nodes d (AreOfSeveral nodes) x h (ap (λ m. m.body) e))
  no_rule d name ty x (unread.At k why) other fits h e = not_stopped x k fits (of_nodes d (λ ds. StopsAt nodes ds k) x h (ap (λ m. m.body) e))
  no_rule d name ty x (unread.Reason _) other fits h e = absurd h

pub record HasPlace {R : Type 0} (P : R → Type 0) (rules : List R) (n : ℕ) : Type 0 where
  pub rule : R
  pub there : slice_get rules n ≡ Some rule
  pub holds : P rule

placed : {R : Type 0} (members : R → Members) (rules : List R) (n : ℕ) (m : Members) (o : Option R) → slice_get rules n ≡ o → option_map members o ≡ Some m → HasPlace (λ r. members r ≡ m) rules n
placed members rules n m None e h = cc
placed members rules n m (Some r) e h = let same : members r ≡ m = cc in record { rule = r; there = e; holds = same }

fits_at : {R : Type 0} (view : R → Rule) (rules : List R) (n : ℕ) (r : R) → slice_get rules n ≡ Some r → FitTheirTypes (map view rules) → PartsFit (view r).body
fits_at view rules n r there fits p part =
    let found : slice_get (map view rules) n ≡ Some (view r) = slice_get-map view rules n ∙ ap (option_map view) there in
    fits p (view r, (n, slice_get_within (map view rules) n (view r) found, get_or_from_slice_get (map view rules) n (view r) (view r) found), part)

module _ {R E : Type 0} (members : R → Members) (nodes : E → List Data) (view : R → Rule) (no_rule_is : (d : Data) (why : Unread) (r : R) → why ≢ unread.Memory → PartsFit (view r).body → IsUnreadRule nodes d why → members_of d ≡ members r → ⊥) where
  at_place : (text : List ℕ) (n : ℕ) (why : Unread) (rules : List R) → why ≢ unread.Memory → IsUnreadAt members nodes text n why → FitTheirTypes (map view rules) → Lists text (map members rules) → ⊥
  at_place text n why rules other u fits l =
      let same = arrays_one l.0 u.ds (sym l.1 ∙ u.lists) in
      let value : slice_get (map members_of u.ds) n ≡ Some (members_of u.value) = slice_get-map members_of u.ds n ∙ ap (option_map members_of) u.there in
      let listed : map members_of u.ds ≡ map members rules = ap (map members_of) (sym same) ∙ l.2 in
      let rule : option_map members (slice_get rules n) ≡ Some (members_of u.value) = sym (slice_get-map members rules n) ∙ (ap (λ ms. slice_get ms n) (sym listed) ∙ value) in
      let found = placed members rules n (members_of u.value) (slice_get rules n) refl rule in
      no_rule_is u.value why found.rule other (fits_at view rules n found.rule found.there fits) u.unread (sym found.holds)

  none : (text : List ℕ) (r : Refusal) (rules : List R) → r ≢ refusal.Memory → Refuses members nodes text r → FitTheirTypes (map view rules) → Lists text (map members rules) → ⊥
  none text refusal.Memory rules other h fits l = other refl
  none text (refusal.Text (location.Text line column) why) rules other h fits l = let both : Some (array (items_of l.0)) ≡ None = sym l.1 ∙ h.1 in cc
  none text (refusal.Text location.Whole why) rules other h fits l =
      let d = h.1.0 in
      let same : array (items_of l.0) ≡ d = cc in
      let both : Some (items_of l.0) ≡ None = ap as_array same ∙ h.1.2 in
      cc
  none text (refusal.Text (location.Rule n) why) rules other h fits l = at_place text n (unread.Reason why) rules (λ e. cc) h fits l
  none text (refusal.Text (location.Node n k) why) rules other h fits l = at_place text n (unread.At k why) rules (λ e. cc) h fits l

no_bare_rule : (d : Data) (why : Unread) (r : bare_rule.Rule) → why ≢ unread.Memory → PartsFit (rule_of_code r).body → IsUnreadRule nodes_of d why → members_of d ≡ members_of_rule r → ⊥
no_bare_rule d why r other fits h e = no_rule nodes_of expression_of decoded begins d (string_bytes r.name) r.ty r.expr why other (fitting r.expr fits) h e

no_optimized_rule : (d : Data) (why : Unread) (r : OptimizedRule) → why ≢ unread.Memory → PartsFit (optimized_rule_of r).body → IsUnreadRule optimized_nodes_of d why → members_of d ≡ members_of_optimized r → ⊥
no_optimized_rule d why r other fits h e = no_rule optimized_nodes_of optimized_expression_of optimized_decoded optimized_begins d (string_bytes r.name) r.ty r.expr why other (optimized_fitting r.expr fits) h e

pub no_rules : (text : List ℕ) (r : Refusal) (rules : List bare_rule.Rule) → r ≢ refusal.Memory → IsRefusedAsRules text r → FitTheirTypes (map rule_of_code rules) → AreRules text rules → ⊥
no_rules text r rules other h fits l = none members_of_rule nodes_of rule_of_code no_bare_rule text r rules other h fits l

pub no_optimized_rules : (text : List ℕ) (r : Refusal) (rules : List OptimizedRule) → r ≢ refusal.Memory → IsRefusedAsOptimized text r → FitTheirTypes (map optimized_rule_of rules) → AreOptimizedRules text rules → ⊥
no_optimized_rules text r rules other h fits l = none members_of_optimized optimized_nodes_of optimized_rule_of no_optimized_rule text r rules other h fits l
