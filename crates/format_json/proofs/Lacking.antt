-- Nodes whose operands are missing, or of a form that expressions of the kind lack, are of no expressions.
use Rattle.std.proofs.Common.{◌≡◌, ◌⊎◌, ◌<◌, inl, inr, ℕ, Bool, true, false, Result, Ok, Err, IfErr, IsErrAnd, List, [], ◌∷◌, ◌++◌, map, length, refl, sym, subst, ap, ap₂, ◌∙◌, append-nil, arith}
use Rattle.std.specs.List.{flat_map}
use Rattle.std.proofs.lemmas.Grind.{flat_map-append}
use Rattle.serde_json.specs.Data.{Data}
use Rattle.base_language.specs.Language.Expression.{Expression}
use Rattle.base_language.specs.Language.Expression as e
use Rattle.base_ast.specs.Ast.{expression_of}
use Rattle.base_ast.specs.Optimized.{optimized_expression_of}
use Rattle.base_ast.specs.declared.ast.Expr as bare
use Rattle.base_ast.specs.declared.optimized.OptimizedExpr as optimized
use Rattle.format_json.specs.Format.{nodes_of, optimized_nodes_of}
use Rattle.format_json.specs.Nodes.{in_turn, node_data}
use Rattle.format_json.specs.Unread.{AreOfNone, OnReason}
use Rattle.format_json.specs.declared.nodes.JsonNode.{JsonNode}
use Rattle.format_json.specs.declared.nodes.JsonNode.TheVariants as node
use Rattle.format_json.specs.declared.refusal.Unread.{Unread}
use Rattle.format_json.proofs.Decoding.{binary, decode, decoded, optimized_decoded, unary}
use Rattle.format_json.proofs.Reasons.{weaker}

-- how many operands a node has
abbrev pub operand_count : JsonNode → ℕ
operand_count (node.Str s) = 0
operand_count (node.Insens s) = 0
operand_count (node.Range s t) = 0
operand_count (node.Ident s) = 0
operand_count (node.PeekSlice i j) = 0
operand_count (node.Skip ss) = 0
operand_count (node.PushLiteral s) = 0
operand_count node.Seq = 2
operand_count node.Choice = 2
operand_count _ = 1

-- the kind has no such node
abbrev pub is_wrapper : Expression → Bool
is_wrapper (e.RestoreOnErr x) = true
is_wrapper _ = false

abbrev pub is_counted : Expression → Bool
is_counted (e.RepExact x n) = true
is_counted (e.RepMin x n) = true
is_counted (e.RepMax x n) = true
is_counted (e.RepMinMax x m n) = true
is_counted _ = false

-- expressions in a list, the last of them first
abbrev pub turned : {A : Type 0} → List A → List A
turned [] = []
turned (x ∷ xs) = turned xs ++ (x ∷ [])

pub flat_turned : {A : Type 0} (nodes : A → List Data) (es : List A) → flat_map nodes (turned es) ≡ in_turn nodes es
flat_turned nodes [] = refl
flat_turned nodes (e ∷ es) = flat_map-append nodes (turned es) (e ∷ []) ∙ ap₂ (λ x y. x ++ y) (flat_turned nodes es) (append-nil (nodes e))

module _ {E : Type 0} (nodes : E → List Data) (view : E → Expression) (reads : (x : E) (rest : List Data) → decode (nodes x ++ rest) ≡ view x ∷ decode rest) where
  pub flat_decoded : (es : List E) → decode (flat_map nodes es) ≡ map view es
  flat_decoded [] = refl
  flat_decoded (x ∷ es) = reads x (flat_map nodes es) ∙ ap (λ t. view x ∷ t) (flat_decoded es)

  turned_decoded : (es : List E) → decode (in_turn nodes es) ≡ map view (turned es)
  turned_decoded es = ap decode (sym (flat_turned nodes es)) ∙ flat_decoded (turned es)

  none_left : (f : Expression → Expression) (ops : List E) → length ops < 1 → unary f (decode (in_turn nodes ops)) ≡ []
  none_left f [] h = refl
  none_left f (x ∷ ops) h = absurd (omega arith)

  too_few : (f : Expression → Expression → Expression) (ops : List E) → length ops < 2 → binary f (decode (in_turn nodes ops)) ≡ []
  too_few f [] h = refl
  too_few f (x ∷ []) h = ap (binary f) (turned_decoded (x ∷ []))
  too_few f (x ∷ (y ∷ ops)) h = absurd (omega arith)

  undecoded : (n : JsonNode) (ops : List E) → length ops < operand_count n → decode (node_data n ∷ in_turn nodes ops) ≡ []
  undecoded (node.Str s) ops h = absurd (omega arith)
  undecoded (node.Insens s) ops h = absurd (omega arith)
  undecoded (node.Range s t) ops h = absurd (omega arith)
  undecoded (node.Ident s) ops h = absurd (omega arith)
  undecoded (node.PeekSlice i j) ops h = absurd (omega arith)
  undecoded (node.Skip ss) ops h = absurd (omega arith)
  undecoded (node.PushLiteral s) ops h = absurd (omega arith)
  undecoded node.Seq ops h = too_few e.Seq ops h
  undecoded node.Choice ops h = too_few e.Choice ops h
  undecoded node.PosPred ops h = none_left e.PosPred ops h
  undecoded node.NegPred ops h = none_left e.NegPred ops h
  undecoded node.Opt ops h = none_left e.Opt ops h
  undecoded node.Rep ops h = none_left e.Rep ops h
  undecoded node.RepOnce ops h = none_left e.RepOnce ops h
  undecoded node.Push ops h = none_left e.Push ops h
  undecoded node.RestoreOnErr ops h = none_left e.RestoreOnErr ops h
  undecoded (node.RepExact n) ops h = none_left _ ops h
  undecoded (node.RepMin n) ops h = none_left _ ops h
  undecoded (node.RepMax n) ops h = none_left _ ops h
  undecoded (node.RepMinMax m n) ops h = none_left _ ops h
  undecoded (node.NodeTag s) ops h = none_left _ ops h

  of_none : (d : Data) (ds : List Data) → decode (d ∷ ds) ≡ [] → AreOfNone nodes (d ∷ ds)
  of_none d ds h [] same = cc
  of_none d ds h (x ∷ es) same =
      let some : view x ∷ map view es ≡ [] = sym (flat_decoded (x ∷ es)) ∙ (ap decode same ∙ h) in
      cc

  lacking : (n : JsonNode) (ops : List E) → length ops < operand_count n → AreOfNone nodes (node_data n ∷ in_turn nodes ops)
  lacking n ops h = of_none (node_data n) (in_turn nodes ops) (undecoded n ops h)

  -- the first of some expressions is not of the kind that an expression would be whose nodes begin with that one
  foreign : (test : Expression → Bool) (f : Expression → Expression) → ((x : E) → test (view x) ≡ false) → ((x : Expression) → test (f x) ≡ true) → (d : Data) (ds : List Data) → decode (d ∷ ds) ≡ unary f (decode ds) → AreOfNone nodes (d ∷ ds)
  foreign test f never always d ds h es same = rest es (decode ds) same h
    where
      other : (x : E) (y : Expression) (xs ys : List Expression) → view x ∷ xs ≡ f y ∷ ys → ⊥
      other x y xs ys k =
          let head : view x ≡ f y = cc in
          let both : true ≡ false = sym (always y) ∙ (ap test (sym head) ∙ never x) in
          cc

      rest : (es : List E) (ts : List Expression) → flat_map nodes es ≡ d ∷ ds → decode (d ∷ ds) ≡ unary f ts → ⊥
      rest [] ts same h = cc
      rest (x ∷ es) [] same h = of_none d ds h (x ∷ es) same
      rest (x ∷ es) (y ∷ ys) same h = other x y (map view es) ys (sym (flat_decoded (x ∷ es)) ∙ (ap decode same ∙ h))

-- what is refused if a node's operands are missing
module _ {E T : Type 0} (nodes : E → List Data) (none : (n : JsonNode) (ops : List E) → length ops < operand_count n → AreOfNone nodes (node_data n ∷ in_turn nodes ops)) where
  missing : (n m : JsonNode) (ops : List E) (r : Result T Unread) (why : Unread) → n ≡ m → IsErrAnd r (λ y. y ≡ why) → OnReason why (length ops < operand_count m)
      → IfErr r (λ y. OnReason y (AreOfNone nodes (node_data n ∷ in_turn nodes ops)))
  missing n m ops (Ok x) why same passed h = tt
  missing n m ops (Err y) why same passed h =
      let P : JsonNode → Type 0 = λ k. AreOfNone nodes (node_data k ∷ in_turn nodes ops) in
      subst (λ z. OnReason z (P n)) (sym passed) (weaker why _ (P n) (λ few. subst P (sym same) (none m ops few)) h)

bare_lacking : (n : JsonNode) (ops : List bare.Expr) → length ops < operand_count n → AreOfNone nodes_of (node_data n ∷ in_turn nodes_of ops)
bare_lacking n ops h = lacking nodes_of expression_of decoded n ops h

optimized_lacking : (n : JsonNode) (ops : List optimized.OptimizedExpr) → length ops < operand_count n → AreOfNone optimized_nodes_of (node_data n ∷ in_turn optimized_nodes_of ops)
optimized_lacking n ops h = lacking optimized_nodes_of optimized_expression_of optimized_decoded n ops h

pub bare_missing : {T : Type 0} (n m : JsonNode) (ops : List bare.Expr) (r : Result T Unread) (why : Unread) → n ≡ m → IsErrAnd r (λ y. y ≡ why) → OnReason why (length ops < operand_count m)
    → IfErr r (λ y. OnReason y (AreOfNone nodes_of (node_data n ∷ in_turn nodes_of ops)))
bare_missing n m ops r why same passed h = missing nodes_of bare_lacking n m ops r why same passed h

pub optimized_missing : {T : Type 0} (n m : JsonNode) (ops : List optimized.OptimizedExpr) (r : Result T Unread) (why : Unread) → n ≡ m → IsErrAnd r (λ y. y ≡ why) → OnReason why (length ops < operand_count m)
    → IfErr r (λ y. OnReason y (AreOfNone optimized_nodes_of (node_data n ∷ in_turn optimized_nodes_of ops)))
optimized_missing n m ops r why same passed h = missing optimized_nodes_of optimized_lacking n m ops r why same passed h

no_wrapper : (x : bare.Expr) → is_wrapper (expression_of x) ≡ false
no_wrapper (bare.Str s) = refl
no_wrapper (bare.Insens s) = refl
no_wrapper (bare.Range s t) = refl
no_wrapper (bare.Ident s) = refl
no_wrapper (bare.PeekSlice i j) = refl
no_wrapper (bare.PosPred' p x) = refl
no_wrapper (bare.NegPred' p x) = refl
no_wrapper (bare.Seq' p x q y) = refl
no_wrapper (bare.Choice' p x q y) = refl
no_wrapper (bare.Opt' p x) = refl
no_wrapper (bare.Rep' p x) = refl
no_wrapper (bare.RepOnce' p x) = refl
no_wrapper (bare.RepExact' p x n) = refl
no_wrapper (bare.RepMin' p x n) = refl
no_wrapper (bare.RepMax' p x n) = refl
no_wrapper (bare.RepMinMax' p x m n) = refl
no_wrapper (bare.Skip ss) = refl
no_wrapper (bare.Push' p x) = refl
no_wrapper (bare.PushLiteral s) = refl
no_wrapper (bare.NodeTag' p x s) = refl

not_counted : (x : optimized.OptimizedExpr) → is_counted (optimized_expression_of x) ≡ false
not_counted (optimized.Str s) = refl
not_counted (optimized.Insens s) = refl
not_counted (optimized.Range s t) = refl
not_counted (optimized.Ident s) = refl
not_counted (optimized.PeekSlice i j) = refl
not_counted (optimized.PosPred' p x) = refl
not_counted (optimized.NegPred' p x) = refl
not_counted (optimized.Seq' p x q y) = refl
not_counted (optimized.Choice' p x q y) = refl
not_counted (optimized.Opt' p x) = refl
not_counted (optimized.Rep' p x) = refl
not_counted (optimized.RepOnce' p x) = refl
not_counted (optimized.Skip ss) = refl
not_counted (optimized.Push' p x) = refl
not_counted (optimized.PushLiteral s) = refl
not_counted (optimized.NodeTag' p x s) = refl
not_counted (optimized.RestoreOnErr' p x) = refl

pub no_wrappers : (ds : List Data) → AreOfNone nodes_of (node_data node.RestoreOnErr ∷ ds)
no_wrappers ds = foreign nodes_of expression_of decoded is_wrapper e.RestoreOnErr no_wrapper (λ x. refl) _ ds refl

no_exact : (n : ℕ) (ds : List Data) → AreOfNone optimized_nodes_of (node_data (node.RepExact n) ∷ ds)
no_exact n ds = foreign optimized_nodes_of optimized_expression_of optimized_decoded is_counted (λ x. e.RepExact x n) not_counted (λ x. refl) _ ds refl

no_least : (n : ℕ) (ds : List Data) → AreOfNone optimized_nodes_of (node_data (node.RepMin n) ∷ ds)
no_least n ds = foreign optimized_nodes_of optimized_expression_of optimized_decoded is_counted (λ x. e.RepMin x n) not_counted (λ x. refl) _ ds refl

no_greatest : (n : ℕ) (ds : List Data) → AreOfNone optimized_nodes_of (node_data (node.RepMax n) ∷ ds)
no_greatest n ds = foreign optimized_nodes_of optimized_expression_of optimized_decoded is_counted (λ x. e.RepMax x n) not_counted (λ x. refl) _ ds refl

no_limits : (m n : ℕ) (ds : List Data) → AreOfNone optimized_nodes_of (node_data (node.RepMinMax m n) ∷ ds)
no_limits m n ds = foreign optimized_nodes_of optimized_expression_of optimized_decoded is_counted (λ x. e.RepMinMax x m n) not_counted (λ x. refl) _ ds refl

pub no_counted : (n : JsonNode) (ds : List Data)
    → ((x : ℕ) × (n ≡ node.RepExact x)) ⊎ (((x : ℕ) × (n ≡ node.RepMin x)) ⊎ (((x : ℕ) × (n ≡ node.RepMax x)) ⊎ ((x : ℕ) × (y : ℕ) × (n ≡ node.RepMinMax x y))))
    → AreOfNone optimized_nodes_of (node_data n ∷ ds)
no_counted n ds (inl h) = subst (λ k. AreOfNone optimized_nodes_of (node_data k ∷ ds)) (sym h.1) (no_exact h.0 ds)
no_counted n ds (inr (inl h)) = subst (λ k. AreOfNone optimized_nodes_of (node_data k ∷ ds)) (sym h.1) (no_least h.0 ds)
no_counted n ds (inr (inr (inl h))) = subst (λ k. AreOfNone optimized_nodes_of (node_data k ∷ ds)) (sym h.1) (no_greatest h.0 ds)
no_counted n ds (inr (inr (inr h))) = subst (λ k. AreOfNone optimized_nodes_of (node_data k ∷ ds)) (sym h.2) (no_limits h.0 h.1 ds)
