-- Expressions and rules without their spans.
use Rattle.std.specs.Prelude.{List, map}
use Rattle.base_language.specs.Language.Expression as bare
use Rattle.base_language.specs.Language.Expression.{Expression, Rule, Grammar}
use Rattle.front_spanned.specs.Spanned as spanned
use Rattle.front_spanned.specs.Spanned.{Spanned, Leaf, One, Two, Unary, Binary, SpannedRule}

-- the expression of an operator over an operand
abbrev pub round : Unary → Expression → Expression
round spanned.PosPred e = bare.PosPred e
round spanned.NegPred e = bare.NegPred e
round spanned.Opt e = bare.Opt e
round spanned.Rep e = bare.Rep e
round spanned.RepOnce e = bare.RepOnce e
round (spanned.RepExact n) e = bare.RepExact e n
round (spanned.RepMin m) e = bare.RepMin e m
round (spanned.RepMax n) e = bare.RepMax e n
round (spanned.RepMinMax m n) e = bare.RepMinMax e m n
round spanned.Push e = bare.Push e
round (spanned.Tag t) e = bare.NodeTag e t

-- the expression of an operator between two operands
abbrev pub between : Binary → Expression → Expression → Expression
between spanned.Seq a b = bare.Seq a b
between spanned.Choice a b = bare.Choice a b

-- the expression of a node
abbrev pub without_spans : Spanned → Expression
without_spans (Leaf s e) = e
without_spans (One s f x) = round f (without_spans x)
without_spans (Two s f x y) = between f (without_spans x) (without_spans y)

-- the rule, its name and its body without their spans
abbrev pub rule_without_spans : SpannedRule → Rule
rule_without_spans r = record { name = r.name; type_of = r.type_of; body = without_spans r.body }

-- so each rule of a list
abbrev pub rules_without_spans : List SpannedRule → Grammar
rules_without_spans rs = map rule_without_spans rs
