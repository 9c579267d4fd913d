-- Traversals: an expression after a pass at each node, from the root down or from the leaves up.
use Rattle.std.specs.Prelude.{ℕ, ⊤}
use Rattle.base_language.specs.Language.Text.{Text}
use Rattle.base_language.specs.Language.Expression.{Expression, PosPred, NegPred, Seq, Choice, Opt, Rep, RepOnce, RepExact, RepMin, RepMax, RepMinMax, Push, RestoreOnErr, NodeTag}

abbrev pub HasNoOperands : Expression → Type 0
HasNoOperands (PosPred e) = ⊥
HasNoOperands (NegPred e) = ⊥
HasNoOperands (Seq a b) = ⊥
HasNoOperands (Choice a b) = ⊥
HasNoOperands (Opt e) = ⊥
HasNoOperands (Rep e) = ⊥
HasNoOperands (RepOnce e) = ⊥
HasNoOperands (RepExact e i) = ⊥
HasNoOperands (RepMin e i) = ⊥
HasNoOperands (RepMax e i) = ⊥
HasNoOperands (RepMinMax e i j) = ⊥
HasNoOperands (Push e) = ⊥
HasNoOperands (NodeTag e t) = ⊥
HasNoOperands (RestoreOnErr e) = ⊥
HasNoOperands _ = ⊤

-- `R a b`: the pass at a node a gives b
module _ (R : Expression → Expression → Type 0) where
  mutual
    -- first the node, then the nodes below the result
    pub data TopDown : Expression → Expression → Type 0 where
      met : {a m b : Expression} → R a m → Below m b → TopDown a b

    -- at each operand
    pub data Below : Expression → Expression → Type 0 where
      leaf : {a : Expression} → HasNoOperands a → Below a a
      pos_pred : {a b : Expression} → TopDown a b → Below (PosPred a) (PosPred b)
      neg_pred : {a b : Expression} → TopDown a b → Below (NegPred a) (NegPred b)
      seq : {a b c d : Expression} → TopDown a b → TopDown c d → Below (Seq a c) (Seq b d)
      choice : {a b c d : Expression} → TopDown a b → TopDown c d → Below (Choice a c) (Choice b d)
      opt : {a b : Expression} → TopDown a b → Below (Opt a) (Opt b)
      rep : {a b : Expression} → TopDown a b → Below (Rep a) (Rep b)
      rep_once : {a b : Expression} → TopDown a b → Below (RepOnce a) (RepOnce b)
      rep_exact : {a b : Expression} {i : ℕ} → TopDown a b → Below (RepExact a i) (RepExact b i)
      rep_min : {a b : Expression} {i : ℕ} → TopDown a b → Below (RepMin a i) (RepMin b i)
      rep_max : {a b : Expression} {i : ℕ} → TopDown a b → Below (RepMax a i) (RepMax b i)
      rep_min_max : {a b : Expression} {i j : ℕ} → TopDown a b → Below (RepMinMax a i j) (RepMinMax b i j)
      push : {a b : Expression} → TopDown a b → Below (Push a) (Push b)
      tag : {a b : Expression} {t : Text} → TopDown a b → Below (NodeTag a t) (NodeTag b t)

  mutual
    -- first the nodes below, then the node that they give
    pub data BottomUp : Expression → Expression → Type 0 where
      left : {a m b : Expression} → Above a m → R m b → BottomUp a b

    -- at each operand
    pub data Above : Expression → Expression → Type 0 where
      leaf : {a : Expression} → HasNoOperands a → Above a a
      pos_pred : {a b : Expression} → BottomUp a b → Above (PosPred a) (PosPred b)
      neg_pred : {a b : Expression} → BottomUp a b → Above (NegPred a) (NegPred b)
      seq : {a b c d : Expression} → BottomUp a b → BottomUp c d → Above (Seq a c) (Seq b d)
      choice : {a b c d : Expression} → BottomUp a b → BottomUp c d → Above (Choice a c) (Choice b d)
      opt : {a b : Expression} → BottomUp a b → Above (Opt a) (Opt b)
      rep : {a b : Expression} → BottomUp a b → Above (Rep a) (Rep b)
      rep_once : {a b : Expression} → BottomUp a b → Above (RepOnce a) (RepOnce b)
      rep_exact : {a b : Expression} {i : ℕ} → BottomUp a b → Above (RepExact a i) (RepExact b i)
      rep_min : {a b : Expression} {i : ℕ} → BottomUp a b → Above (RepMin a i) (RepMin b i)
      rep_max : {a b : Expression} {i : ℕ} → BottomUp a b → Above (RepMax a i) (RepMax b i)
      rep_min_max : {a b : Expression} {i j : ℕ} → BottomUp a b → Above (RepMinMax a i j) (RepMinMax b i j)
      push : {a b : Expression} → BottomUp a b → Above (Push a) (Push b)
      tag : {a b : Expression} {t : Text} → BottomUp a b → Above (NodeTag a t) (NodeTag b t)

  -- the pass changes no node
  abbrev pub AllStay : Expression → Type 0
  AllStay (PosPred e) = R (PosPred e) (PosPred e) × AllStay e
  AllStay (NegPred e) = R (NegPred e) (NegPred e) × AllStay e
  AllStay (Seq a b) = R (Seq a b) (Seq a b) × AllStay a × AllStay b
  AllStay (Choice a b) = R (Choice a b) (Choice a b) × AllStay a × AllStay b
  AllStay (Opt e) = R (Opt e) (Opt e) × AllStay e
  AllStay (Rep e) = R (Rep e) (Rep e) × AllStay e
  AllStay (RepOnce e) = R (RepOnce e) (RepOnce e) × AllStay e
  AllStay (RepExact e i) = R (RepExact e i) (RepExact e i) × AllStay e
  AllStay (RepMin e i) = R (RepMin e i) (RepMin e i) × AllStay e
  AllStay (RepMax e i) = R (RepMax e i) (RepMax e i) × AllStay e
  AllStay (RepMinMax e i j) = R (RepMinMax e i j) (RepMinMax e i j) × AllStay e
  AllStay (Push e) = R (Push e) (Push e) × AllStay e
  AllStay (NodeTag e t) = R (NodeTag e t) (NodeTag e t) × AllStay e
  AllStay e = R e e
