-- Keys of rules, and a set of them.
use Rattle.std.specs.Prelude.{◌≡◌, ℕ, List, [], ◌∷◌, ◌++◌, None, Option, Some, false, true}
use Rattle.std.specs.HashSet.{contains}
use Rattle.std.specs.declared.alloc.Global.{Global}
use Rattle.std.specs.declared.vec.Vec.{Vec}
use Rattle.base_language.specs.Language.Expression.{RuleType, Normal, Silent, Atomic, CompoundAtomic, NonAtomic}
use Rattle.lint_patterns.specs.Bodies.{has_same_body}
use Rattle.lint_patterns.specs.Duplicates.{is_compared}
use Rattle.lint_patterns.specs.Keys.{key}
use Rattle.lint_patterns.specs.DuplicateLists.{KeySet, same_key}
use Rattle.front_spanned.specs.Erasure.{without_spans}
use Rattle.front_spanned.specs.Spanned.{SpannedRule}

-- a number for each type
abbrev pub type_key : RuleType → ℕ
type_key Normal = 0
type_key Silent = 1
type_key Atomic = 2
type_key CompoundAtomic = 3
type_key NonAtomic = 4

-- the key of the body, and the number of the type
abbrev pub rule_key : SpannedRule → List ℕ
rule_key r = key (without_spans r.body) ++ type_key r.type_of ∷ []

-- the answer is the key of a rule whose body is compared, or none for another rule
abbrev pub HasRuleKey : SpannedRule → Option (Vec ℕ Global) → Type 0
HasRuleKey r None = is_compared (without_spans r.body) ≡ false
HasRuleKey r (Some k) = (k.items ≡ rule_key r) × (is_compared (without_spans r.body) ≡ true)

-- of the rules whose bodies are compared, the set has the keys of just these
abbrev pub KnowsBodies : List SpannedRule → KeySet → Type 0
KnowsBodies rules set = (r : SpannedRule) (k : Vec ℕ Global) → k.items ≡ rule_key r
    → is_compared (without_spans r.body) ≡ true → contains same_key set k ≡ has_same_body rules r
