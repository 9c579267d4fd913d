-- The modes of the bodies of rules.
use Rattle.std.proofs.Common.{Bool, true, false, ◌||◌, bytes_eq}
use Rattle.base_language.specs.Language.Expression.{RuleType, Normal, Silent, Atomic, CompoundAtomic, NonAtomic, Rule, whitespace, comment}
use Rattle.base_language.specs.Language.State.{Mode, NonAtomicMode, AtomicMode, CompoundAtomicMode, Between, IsRuleMode}
use Rattle.base_language.specs.Language.Meaning.{inherited, mode_in, body_mode}

inherits_rule_mode : (blank : Bool) (m : Mode) → IsRuleMode (inherited blank m)
inherits_rule_mode true m = tt
inherits_rule_mode false NonAtomicMode = tt
inherits_rule_mode false AtomicMode = tt
inherits_rule_mode false CompoundAtomicMode = tt
inherits_rule_mode false Between = tt

pub in_rule_mode : (y : RuleType) (blank : Bool) (m : Mode) → IsRuleMode (mode_in y blank m)
in_rule_mode Atomic blank m = tt
in_rule_mode CompoundAtomic blank m = tt
in_rule_mode NonAtomic true m = tt
in_rule_mode NonAtomic false m = tt
in_rule_mode Normal blank m = inherits_rule_mode blank m
in_rule_mode Silent blank m = inherits_rule_mode blank m

pub runs_in_rule_mode : (r : Rule) (m : Mode) → IsRuleMode (body_mode r m)
runs_in_rule_mode r m = in_rule_mode r.type_of (bytes_eq r.name whitespace || bytes_eq r.name comment) m
