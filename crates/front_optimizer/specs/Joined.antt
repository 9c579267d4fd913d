-- The concatenation of literals in sequence.
use Rattle.std.specs.Prelude.{ℕ, ◌+◌, ◌*◌, ◌++◌, List, [], ◌∷◌}
use Rattle.std.specs.declared.alloc.Global.{Global}
use Rattle.std.specs.declared.string.String.{String}
use Rattle.base_language.specs.Language.Text.{Text}
use Rattle.base_language.specs.Language.Expression as e
use Rattle.base_language.specs.Language.Expression.{Expression}
use Rattle.base_ast.specs.Ast.{expression_of, text_of}
use Rattle.base_ast.specs.Weight.{weight}
use Rattle.front_optimizer.specs.Here.{joined_here}
use Rattle.front_optimizer.specs.declared.joined.JoinedExpr.{JoinedExpr}
use Rattle.front_optimizer.specs.declared.joined.JoinedExpr.TheVariants as joined
use Rattle.front_optimizer.specs.declared.joined.JoinFrame.{JoinFrame}
use Rattle.front_optimizer.specs.declared.joined.JoinFrame.TheVariants as around

-- at each node from the leaves up, two literals in sequence are one
abbrev pub concatenated : Expression → Expression
concatenated (e.PosPred a) = e.PosPred (concatenated a)
concatenated (e.NegPred a) = e.NegPred (concatenated a)
concatenated (e.Seq a b) = joined_here (e.Seq (concatenated a) (concatenated b))
concatenated (e.Choice a b) = e.Choice (concatenated a) (concatenated b)
concatenated (e.Opt a) = e.Opt (concatenated a)
concatenated (e.Rep a) = e.Rep (concatenated a)
concatenated (e.RepOnce a) = e.RepOnce (concatenated a)
concatenated (e.RepExact a i) = e.RepExact (concatenated a) i
concatenated (e.RepMin a i) = e.RepMin (concatenated a) i
concatenated (e.RepMax a i) = e.RepMax (concatenated a) i
concatenated (e.RepMinMax a i j) = e.RepMinMax (concatenated a) i j
concatenated (e.Push a) = e.Push (concatenated a)
concatenated (e.NodeTag a t) = e.NodeTag (concatenated a) t
concatenated a = a

-- texts one after another
abbrev pub in_order : List (String Global) → Text
in_order [] = []
in_order (s ∷ others) = text_of s ++ in_order others

abbrev pub said_by : JoinedExpr → Expression
said_by (joined.Texts parts) = e.Str (in_order parts.items)
said_by (joined.Insensitive parts) = e.Insens (in_order parts.items)
said_by (joined.Other x) = expression_of x

-- an operand inside a frame
abbrev pub joined_with : JoinFrame → Expression → Expression
joined_with around.PosPred x = e.PosPred x
joined_with around.NegPred x = e.NegPred x
joined_with around.Opt x = e.Opt x
joined_with around.Rep x = e.Rep x
joined_with around.RepOnce x = e.RepOnce x
joined_with (around.RepExact i) x = e.RepExact x i
joined_with (around.RepMin i) x = e.RepMin x i
joined_with (around.RepMax i) x = e.RepMax x i
joined_with (around.RepMinMax i j) x = e.RepMinMax x i j
joined_with around.Push x = e.Push x
joined_with (around.NodeTag t) x = e.NodeTag x (text_of t)
joined_with (around.FirstOfSeq right) x =
    joined_here (e.Seq x (concatenated (expression_of right.value.value)))
joined_with (around.FirstOfChoice right) x = e.Choice x (concatenated (expression_of right.value.value))
joined_with (around.SecondOfSeq left) x = joined_here (e.Seq (said_by left.value) x)
joined_with (around.SecondOfChoice left) x = e.Choice (expression_of left.value.value) x

-- a bound of the steps left once the operand is rebuilt
abbrev pub waits_of : JoinFrame → ℕ
waits_of (around.FirstOfSeq right) = 4 * weight (expression_of right.value.value) + 3
waits_of (around.FirstOfChoice right) = 4 * weight (expression_of right.value.value) + 3
waits_of _ = 1
