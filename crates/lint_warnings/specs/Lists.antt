-- The values of the code's lists and sets. Of these, public contracts name `texts_of` alone.
use Rattle.std.specs.Prelude.{◌≡◌, ℕ, List, [], ◌∷◌, ◌++◌, Bool, true, bytes_eq, length, map, ◌==◌}
use Rattle.std.specs.Borrow.{Bor}
use Rattle.std.specs.HashSet.{HashSet, contains_by}
use Rattle.std.specs.List.{list_any}
use Rattle.std.specs.Str.{IsUtf8, chars}
use Rattle.std.specs.declared.hash.FoldHasher.{FoldHasher}
use Rattle.std.specs.declared.hash.BuildHasherDefault.{BuildHasherDefault}
use Rattle.base_language.specs.Language.Builtins.{is_one_of}
use Rattle.base_language.specs.Language.Expression.{Expression}
use Rattle.base_language.specs.Language.Text.{Text}
use Rattle.front_spanned.specs.Nodes.{view}
use Rattle.front_spanned.specs.Spanned as spanned
use Rattle.front_spanned.specs.Spanned.{Span, Spanned, Leaf, One, Two, Unary}
use Rattle.front_spanned.specs.declared.node.ParserNode.{ParserNode}
use Rattle.lint_warnings.specs.Choices.{alternatives, calls, literals, unreachable_after}
use Rattle.lint_warnings.specs.declared.nodes.Operands.{Operands}
use Rattle.lint_warnings.specs.declared.nodes.Operands.TheVariants as is
use Rattle.lint_warnings.specs.declared.literals.Literals.{Literals}

-- a node has these operands
abbrev pub AreOperands : Spanned → Operands → Type 0
AreOperands v is.None = (s : Span) × (e : Expression) × (v ≡ Leaf s e)
AreOperands v (is.One x) = (s : Span) × (f : Unary) × (v ≡ One s f (view x.now))
AreOperands v (is.Sequence x y) = (s : Span) × (v ≡ Two s spanned.Seq (view x.now) (view y.now))
AreOperands v (is.Choice x y) = (s : Span) × (v ≡ Two s spanned.Choice (view x.now) (view y.now))

-- the alternatives of the nodes on a stack, from its top to its bottom
abbrev pub left_over : List (Bor ParserNode) → List Spanned
left_over [] = []
left_over (n ∷ ns) = left_over ns ++ alternatives (view n.now)

-- a set of texts
abbrev pub TextSet : Type 0
TextSet = HashSet (Bor (List ℕ)) (BuildHasherDefault FoldHasher)

abbrev pub has_name : TextSet → List ℕ → Bool
has_name set name = contains_by (λ k. bytes_eq name k.now) set

-- the set has the names of which this holds, and no others
abbrev pub HasNames : (Text → Bool) → TextSet → Type 0
HasNames f set = (name : List ℕ) → IsUtf8 name → has_name set name ≡ f (chars name)

-- the characters of texts
abbrev pub texts_of : List (Bor (List ℕ)) → List Text
texts_of ts = map (λ t. chars t.now) ts

abbrev pub IsKnown : Literals → List ℕ → Bool
IsKnown literals text = has_name literals.texts text

-- the literals are these texts, and the length of each is there
pub record Knows (texts : List Text) (literals : Literals) : Type 0 where
  pub has : (text : List ℕ) → IsUtf8 text → has_name literals.texts text ≡ is_one_of texts (chars text)
  pub lengths : (text : List ℕ) → IsUtf8 text → is_one_of texts (chars text) ≡ true
      → list_any (λ n. n == length text) literals.lengths.items ≡ true

-- the spans found so far, and those still to be found among the alternatives left after the earlier ones,
-- whose literals and calls are known, are all
pub record CollectsUnreachable (all : List Span) (earlier left : List Spanned) (known : Literals)
    (called : TextSet) (found : List Span) : Type 0 where
  pub knows : Knows (literals earlier) known
  pub names : HasNames (is_one_of (calls earlier)) called
  pub spans : all ≡ found ++ unreachable_after earlier left
