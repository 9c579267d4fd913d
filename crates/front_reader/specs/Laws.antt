-- Laws of the reader.
use Rattle.std.specs.Prelude.{◌≡◌, ℕ, List, None, All}
use Rattle.base_language.specs.Language.Expression as bare
use Rattle.base_language.specs.Language.Expression.{Expression}
use Rattle.base_language.specs.Language.State.{Trees}
use Rattle.base_language.specs.Language.WellFormed.{HasReadableCounts}
use Rattle.front_spanned.specs.Erasure.{rules_without_spans}
use Rattle.front_reader.specs.Flaws.{first_flaw}
use Rattle.front_reader.specs.Reading.{Category, Reads, ReadsRules}
use Rattle.front_spanned.specs.Spanned.{Spanned, SpannedRule}

-- trees are read as one expression at most
abbrev pub ReadsOneExpression : Type 0
ReadsOneExpression = (text : List ℕ) (category : Category) (us : Trees) (x y : Spanned)
    → Reads text category us x → Reads text category us y → x ≡ y

-- trees are read as one list of rules at most
abbrev pub ReadsOneGrammar : Type 0
ReadsOneGrammar = (text : List ℕ) (us : Trees) (rs qs : List SpannedRule)
    → ReadsRules text us rs → ReadsRules text us qs → rs ≡ qs

-- rules read from trees without a flaw nowhere repeat 0 times at most
abbrev pub ReadsReadableCounts : Type 0
ReadsReadableCounts = (text : List ℕ) (us : Trees) (rs : List SpannedRule)
    → ReadsRules text us rs → first_flaw text us ≡ None
    → HasReadableCounts (rules_without_spans rs)
