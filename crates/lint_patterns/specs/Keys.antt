-- Keys of expressions: lists of numbers.
use Rattle.std.specs.Prelude.{◌≡◌, ℕ, suc, ◌<◌, List, [], ◌∷◌, ◌++◌, Option, Some, None, ℤ, pos, negsuc, length}
use Rattle.std.specs.declared.alloc.Global.{Global}
use Rattle.std.specs.declared.vec.Vec.{Vec}
use Rattle.base_language.specs.Language.Expression.{Expression, Str, Insens, Range, Ident, PeekSlice, PosPred, NegPred, Seq, Choice, Opt, Rep, RepOnce, RepExact, RepMin, RepMax, RepMinMax, Skip, Push, PushLiteral, NodeTag, RestoreOnErr}
use Rattle.base_language.specs.Language.Text.{Text}
use Rattle.front_spanned.specs.Spanned as spanned
use Rattle.front_spanned.specs.Spanned.{Binary, Spanned, Leaf, One, Two, Unary}

-- the characters of a text, each one number up, and 0 at the end
abbrev pub text_key : Text → List ℕ
text_key [] = 0 ∷ []
text_key (c ∷ t) = suc c ∷ text_key t

abbrev pub texts_key : List Text → List ℕ
texts_key [] = 0 ∷ []
texts_key (t ∷ ts) = 1 ∷ (text_key t ++ texts_key ts)

abbrev pub int_key : ℤ → List ℕ
int_key (pos n) = 0 ∷ n ∷ []
int_key (negsuc n) = 1 ∷ suc n ∷ []

abbrev pub option_key : Option ℤ → List ℕ
option_key None = 0 ∷ []
option_key (Some i) = 1 ∷ int_key i

-- a number for the operator, what it has besides operands, and then the operands
abbrev pub key : Expression → List ℕ
key (Str t) = 1 ∷ text_key t
key (Insens t) = 2 ∷ text_key t
key (Ident n) = 3 ∷ text_key n
key (PushLiteral t) = 4 ∷ text_key t
key (Range a b) = 5 ∷ (text_key a ++ text_key b)
key (PeekSlice i j) = 6 ∷ (int_key i ++ option_key j)
key (PosPred e) = 7 ∷ key e
key (NegPred e) = 8 ∷ key e
key (Seq a b) = 9 ∷ (key a ++ key b)
key (Choice a b) = 10 ∷ (key a ++ key b)
key (Opt e) = 11 ∷ key e
key (Rep e) = 12 ∷ key e
key (RepOnce e) = 13 ∷ key e
key (RepExact e n) = 14 ∷ n ∷ key e
key (RepMin e m) = 15 ∷ m ∷ key e
key (RepMax e n) = 16 ∷ n ∷ key e
key (RepMinMax e m n) = 17 ∷ m ∷ n ∷ key e
key (Push e) = 18 ∷ key e
key (NodeTag e t) = 19 ∷ (text_key t ++ key e)
key (Skip ts) = 20 ∷ texts_key ts
key (RestoreOnErr e) = 21 ∷ key e

-- the part of a key that a node has before its operands
abbrev pub unary_sign : Unary → List ℕ
unary_sign spanned.PosPred = 7 ∷ []
unary_sign spanned.NegPred = 8 ∷ []
unary_sign spanned.Opt = 11 ∷ []
unary_sign spanned.Rep = 12 ∷ []
unary_sign spanned.RepOnce = 13 ∷ []
unary_sign (spanned.RepExact n) = 14 ∷ n ∷ []
unary_sign (spanned.RepMin m) = 15 ∷ m ∷ []
unary_sign (spanned.RepMax n) = 16 ∷ n ∷ []
unary_sign (spanned.RepMinMax m n) = 17 ∷ m ∷ n ∷ []
unary_sign spanned.Push = 18 ∷ []
unary_sign (spanned.Tag t) = 19 ∷ text_key t

abbrev pub binary_sign : Binary → List ℕ
binary_sign spanned.Seq = 9 ∷ []
binary_sign spanned.Choice = 10 ∷ []

abbrev pub sign : Spanned → List ℕ
sign (Leaf s e) = key e
sign (One s f x) = unary_sign f
sign (Two s f x y) = binary_sign f

-- the answer is the key of an expression, or none where that has more than 256 numbers
abbrev pub HasKey : Expression → Option (Vec ℕ Global) → Type 0
HasKey e None = 256 < length (key e)
HasKey e (Some k) = (k.items ≡ key e) × (256 < length (key e) → ⊥)
