-- Expressions without wrappers.
use Rattle.base_language.specs.Language.Expression.{Expression, PosPred, NegPred, Seq, Choice, Opt, Rep, RepOnce, RepExact, RepMin, RepMax, RepMinMax, Push, NodeTag, RestoreOnErr}

-- any `RestoreOnErr(e)` becomes `e`
abbrev pub erased : Expression → Expression
erased (RestoreOnErr e) = erased e
erased (PosPred e) = PosPred (erased e)
erased (NegPred e) = NegPred (erased e)
erased (Seq a b) = Seq (erased a) (erased b)
erased (Choice a b) = Choice (erased a) (erased b)
erased (Opt e) = Opt (erased e)
erased (Rep e) = Rep (erased e)
erased (RepOnce e) = RepOnce (erased e)
erased (RepExact e i) = RepExact (erased e) i
erased (RepMin e i) = RepMin (erased e) i
erased (RepMax e i) = RepMax (erased e) i
erased (RepMinMax e i j) = RepMinMax (erased e) i j
erased (Push e) = Push (erased e)
erased (NodeTag e t) = NodeTag (erased e) t
erased e = e
