-- Expressions with the piece of the text of each of their nodes.
use Rattle.std.specs.Prelude.{ℕ, List}
use Rattle.base_language.specs.Language.Text.{Text}
use Rattle.base_language.specs.Language.Expression.{Expression, RuleType}
pub use Rattle.base_language.specs.Pieces.Saying.{Span}

-- an operator over one operand
pub data Unary : Type 0 where
  PosPred : Unary
  NegPred : Unary
  Opt : Unary
  Rep : Unary
  RepOnce : Unary
  RepExact : ℕ → Unary
  RepMin : ℕ → Unary
  RepMax : ℕ → Unary
  RepMinMax : ℕ → ℕ → Unary
  Push : Unary
  Tag : Text → Unary

-- an operator between two operands
pub data Binary : Type 0 where
  Seq : Binary
  Choice : Binary

-- a node: an expression without operands, one round an operand, one between two
pub data Spanned : Type 0 where
  Leaf : Span → Expression → Spanned
  One : Span → Unary → Spanned → Spanned
  Two : Span → Binary → Spanned → Spanned → Spanned

-- the piece of the node
abbrev pub span_of : Spanned → Span
span_of (Leaf s e) = s
span_of (One s f x) = s
span_of (Two s f x y) = s

abbrev pub start_of : Spanned → ℕ
start_of x = (span_of x).start

abbrev pub end_of : Spanned → ℕ
end_of x = (span_of x).end

-- the node with another piece
abbrev pub placed : Span → Spanned → Spanned
placed t (Leaf s e) = Leaf t e
placed t (One s f x) = One t f x
placed t (Two s f x y) = Two t f x y

-- the node with another start
abbrev pub starting : ℕ → Spanned → Spanned
starting i x = placed (record (span_of x) { start = i }) x

-- the node with another end
abbrev pub ending : ℕ → Spanned → Spanned
ending j x = placed (record (span_of x) { end = j }) x

-- a rule: its name, the piece of the name, its type and its body
pub record SpannedRule : Type 0 where
  pub name : Text
  pub span : Span
  pub type_of : RuleType
  pub body : Spanned
