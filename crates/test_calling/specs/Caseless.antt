-- Expressions whose literals ignore the case of ASCII letters.
use Rattle.base_language.specs.Language.Expression.{Expression, Str, Insens, PosPred, NegPred, Seq, Choice, Opt, Rep, RepOnce, RepExact, RepMin, RepMax, RepMinMax, Push, NodeTag}

-- an expression with `^"a"` for each `"a"`
abbrev pub caseless : Expression → Expression
caseless (Str s) = Insens s
caseless (PosPred e) = PosPred (caseless e)
caseless (NegPred e) = NegPred (caseless e)
caseless (Seq a b) = Seq (caseless a) (caseless b)
caseless (Choice a b) = Choice (caseless a) (caseless b)
caseless (Opt e) = Opt (caseless e)
caseless (Rep e) = Rep (caseless e)
caseless (RepOnce e) = RepOnce (caseless e)
caseless (RepExact e n) = RepExact (caseless e) n
caseless (RepMin e m) = RepMin (caseless e) m
caseless (RepMax e n) = RepMax (caseless e) n
caseless (RepMinMax e m n) = RepMinMax (caseless e) m n
caseless (Push e) = Push (caseless e)
caseless (NodeTag e t) = NodeTag (caseless e) t
caseless e = e
