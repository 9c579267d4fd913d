-- Facts about rules.
use Rattle.std.specs.Prelude.{◌≡◌, ◌⊎◌, ℕ, List, IsUtf8, Option, Some, None, chars, false, option_and_then, slice_get, slice_index_or, ⊤}
use Rattle.std.specs.Bool.{Decides}
use Rattle.std.specs.HashMap.{get_by_text}
use Rattle.base_language.specs.Language.Expression.{Grammar, Rule, rule_of}
use Rattle.base_language.specs.Language.WellFormed.{IsNullable}
use Rattle.base_language.specs.declared.runtime.faults.Fault as code
use Rattle.base_language.specs.declared.runtime.faults.Fault.TheVariants as fault_is
use Rattle.pest_meta.specs.Spelling.{SpellsGrammar, SpellsNone}
use Rattle.server_features.specs.declared.facts.RuleFacts.{RuleFacts}
use Rattle.server_features.specs.declared.facts.RuleTable.{RuleTable}

-- facts of the rule that a name means; none if it means no rule
abbrev pub AreFactsIn : Grammar → List ℕ → Option RuleFacts → Type 0
AreFactsIn rules name None = rule_of rules (chars name) ≡ None
AreFactsIn rules name (Some facts) = (rule : Rule) × (rule_of rules (chars name) ≡ Some rule)
    × Decides facts.is_nullable (IsNullable rules rule.body)

-- facts of the rule that a name means in the grammar that a text spells; none if the text spells none
abbrev pub AreFacts : List ℕ → List ℕ → Option RuleFacts → Type 0
AreFacts text name facts = ((rules : Grammar) × SpellsGrammar text rules × AreFactsIn rules name facts)
    ⊎ (SpellsNone text × (facts ≡ None))

-- the number of the body of the rule that a name means
abbrev pub root_of : RuleTable → List ℕ → Option ℕ
root_of table name = option_and_then (λ rule. slice_get table.roots.items rule)
    (get_by_text table.names.places name)

-- the facts that a table has of a name
abbrev pub AreFactsBy : RuleTable → List ℕ → Option RuleFacts → Type 0
AreFactsBy table name None = root_of table name ≡ None
AreFactsBy table name (Some facts) = (root : ℕ) × (root_of table name ≡ Some root)
    × (facts.is_nullable ≡ slice_index_or table.nullable.items root false)

-- the facts that a table has of names are those of the rules that these mean
abbrev pub IsTableOf : Grammar → RuleTable → Type 0
IsTableOf rules table = (name : List ℕ) → IsUtf8 name → (facts : Option RuleFacts)
    → AreFactsBy table name facts → AreFactsIn rules name facts

-- a table of the rules that a text spells; none if it spells none
abbrev pub IsStated : List ℕ → Option RuleTable → Type 0
IsStated text None = SpellsNone text
IsStated text (Some table) = (rules : Grammar) × SpellsGrammar text rules × IsTableOf rules table

-- why there are no rules: an allocation failed, or the text spells none
abbrev pub SpellsNoneUnlessMemory : List ℕ → code.Fault → Type 0
SpellsNoneUnlessMemory text (fault_is.Memory e) = ⊤
SpellsNoneUnlessMemory text (fault_is.Grammar errors) = SpellsNone text
