-- Which lists of rules are grammars.
use Rattle.std.specs.Prelude.{◌≡◌, ◌<◌, ◌^◌, [], ◌∷◌, List, None, Option, Some, ⊤, ℕ, ℤ, pos, negsuc, All, false, codes}
use Rattle.base_language.specs.Language.Text.{Text, IsText}
use Rattle.base_language.specs.Language.Expression.{Expression, Str, Insens, Range, Ident, PeekSlice, RepExact, RepMin, RepMax, RepMinMax, Skip, PushLiteral, NodeTag, Grammar, rule_of}
use Rattle.base_language.specs.Language.Builtins.{is_one_of}
use Rattle.base_language.specs.Language.WellFormed.{HasReadableCounts, InSomeRule}

-- the names that no rule may have
unfoldable pub keywords : List Text
keywords = codes "_" ∷ codes "ANY" ∷ codes "DROP" ∷ codes "EOI" ∷ codes "PEEK" ∷ codes "PEEK_ALL"
    ∷ codes "POP" ∷ codes "POP_ALL" ∷ codes "PUSH" ∷ codes "SOI" ∷ []

-- no rule has the name of a later one
abbrev pub HasDistinctNames : Grammar → Type 0
HasDistinctNames [] = ⊤
HasDistinctNames (r ∷ g) = (rule_of g r.name ≡ None) × HasDistinctNames g

abbrev pub FitsUnsigned32 : ℕ → Type 0
FitsUnsigned32 n = n < 2 ^ 32

abbrev pub FitsSigned32 : ℤ → Type 0
FitsSigned32 (pos n) = n < 2 ^ 31
FitsSigned32 (negsuc n) = n < 2 ^ 31

abbrev pub EndFits : Option ℤ → Type 0
EndFits None = ⊤
EndFits (Some j) = FitsSigned32 j

-- the numbers of the node fit their types, and its texts are texts
abbrev pub FitsItsTypes : Expression → Type 0
FitsItsTypes (Str t) = IsText t
FitsItsTypes (Insens t) = IsText t
FitsItsTypes (Range t u) = IsText t × IsText u
FitsItsTypes (Ident n) = IsText n
FitsItsTypes (PeekSlice i j) = FitsSigned32 i × EndFits j
FitsItsTypes (RepExact e i) = FitsUnsigned32 i
FitsItsTypes (RepMin e i) = FitsUnsigned32 i
FitsItsTypes (RepMax e i) = FitsUnsigned32 i
FitsItsTypes (RepMinMax e i j) = FitsUnsigned32 i × FitsUnsigned32 j
FitsItsTypes (Skip ts) = All IsText ts
FitsItsTypes (PushLiteral t) = IsText t
FitsItsTypes (NodeTag e t) = IsText t
FitsItsTypes _ = ⊤

pub record IsGrammar (g : Grammar) : Type 0 where
  pub distinct : HasDistinctNames g
  pub no_keyword : All (λ r. is_one_of keywords r.name ≡ false) g
  pub names : All (λ r. IsText r.name) g
  pub readable : HasReadableCounts g
  pub fits : (p : Expression) → InSomeRule g p → FitsItsTypes p
