-- The signs of predicates and tags in a term, and the operand after them.
use Rattle.std.specs.Prelude.{◌≡◌, ◌≤◌, ℕ, List, [], ◌∷◌, All, codes, chars}
use Rattle.std.specs.Str.{IsCharBoundary}
use Rattle.base_language.specs.Language.Text.{Text}
use Rattle.base_language.specs.Language.State.{Trees, Tree}
use Rattle.base_language.specs.Pieces.Saying.{piece}
use Rattle.front_grammar.specs.Shape.{Lone, IsExpression, IsNode, ArePostfixes}
use Rattle.front_spanned.specs.Spanned.{Spanned, One, Unary, PosPred, NegPred, Tag, end_of}
use Rattle.front_reader.specs.Flaws.{first_flaw}
use Rattle.front_reader.specs.Pieces.{NestedInBytes, AreInText}
use Rattle.front_reader.specs.Reading.{Reads, ATerm}
use Rattle.front_reader.specs.Views.{count_of}
use Rattle.front_reader.specs.declared.rules.signs.Sign.{Sign}
use Rattle.front_reader.specs.declared.rules.signs.SignKind.{SignKind}
use Rattle.front_reader.specs.declared.rules.signs.SignKind.TheVariants as sign_is

-- the operator that a sign denotes
abbrev pub sign_of : SignKind → Unary
sign_of sign_is.Positive = PosPred
sign_of sign_is.Negative = NegPred
sign_of (sign_is.Tag tag) = Tag (chars tag.now)

-- predicates and tags round an expression, by their signs; a node begins with its sign, and ends where
-- the expression does
abbrev pub signed : List ℕ → List Sign → Spanned → Spanned
signed text [] x = x
signed text (sign ∷ signs) x =
    One (piece text sign.start (end_of x)) (sign_of sign.kind) (signed text signs x)

-- the trees after all signs: an expression in parentheses or a node, and postfix operators
pub data IsOperand (text : List ℕ) : Trees → Type 0 where
  group : {open_at open_to body_at body_to close_at close_to : ℕ} {inner us : Trees}
      → IsExpression text inner → ArePostfixes text us
      → IsOperand text
      (Lone (codes "opening_paren") open_at open_to
      (Tree (codes "expression") body_at body_to inner
      (Lone (codes "closing_paren") close_at close_to us)))
  node : {r : Text} {from to : ℕ} {inner us : Trees}
      → IsNode text r inner → ArePostfixes text us → IsOperand text (Tree r from to inner us)

-- the signs are in the text, before the trees
pub record AreSignsIn (text : List ℕ) (signs : List Sign) (us : Trees) : Type 0 where
  pub from : ℕ
  pub to : ℕ
  pub nested : NestedInBytes text us from to
  pub before : All (λ sign. IsCharBoundary text sign.start × (sign.start ≤ from)) signs

-- a term's trees after these signs
pub record IsAfterSigns (text : List ℕ) (us : Trees) (signs : List Sign) (vs : Trees) : Type 0 where
  pub shape : IsOperand text vs
  pub flaws : first_flaw text us ≡ first_flaw text vs
  pub shorter : count_of vs ≤ count_of us
  pub reads : (x : Spanned) → Reads text ATerm vs x → Reads text ATerm us (signed text signs x)
  pub stand : AreInText text us → AreSignsIn text signs vs
