-- Operators over and between the operands of a node.
use Rattle.std.specs.Prelude.{⊤}
use Rattle.base_ast.specs.Ast.{text_of}
use Rattle.base_ast.specs.declared.ast.shaped.Sign.{Sign}
use Rattle.base_ast.specs.declared.ast.shaped.Sign.TheVariants as sign
use Rattle.base_ast.specs.declared.shape.Joint.{Joint}
use Rattle.base_ast.specs.declared.shape.Joint.TheVariants as joint
use Rattle.front_spanned.specs.Spanned as spanned
use Rattle.front_spanned.specs.Spanned.{Unary, Binary, Spanned, Leaf}

abbrev pub unary_of : Sign → Unary
unary_of sign.PosPred = spanned.PosPred
unary_of sign.NegPred = spanned.NegPred
unary_of sign.Opt = spanned.Opt
unary_of sign.Rep = spanned.Rep
unary_of sign.RepOnce = spanned.RepOnce
unary_of (sign.RepExact n) = spanned.RepExact n
unary_of (sign.RepMin m) = spanned.RepMin m
unary_of (sign.RepMax n) = spanned.RepMax n
unary_of (sign.RepMinMax m n) = spanned.RepMinMax m n
unary_of sign.Push = spanned.Push
unary_of (sign.NodeTag t) = spanned.Tag (text_of t)

abbrev pub binary_of : Joint → Binary
binary_of joint.Sequence = spanned.Seq
binary_of joint.Choice = spanned.Choice

-- a node without operands
abbrev pub IsLeaf : Spanned → Type 0
IsLeaf (Leaf s e) = ⊤
IsLeaf _ = ⊥
