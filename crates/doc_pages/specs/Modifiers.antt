-- The modifiers of rules in words.
use Rattle.std.specs.Prelude.{ℕ, List, [], codes}
use Rattle.base_ast.specs.declared.ast.RuleType.{RuleType}
use Rattle.base_ast.specs.declared.ast.RuleType.TheVariants.{Normal, Silent, Atomic, CompoundAtomic, NonAtomic}

-- whether a rule gives tokens, and whether implicit whitespace is skipped in it, if its modifier says so
abbrev pub meaning : RuleType → List ℕ
meaning Normal = []
meaning Silent = codes "silent: gives no token"
meaning Atomic = codes "atomic: no implicit whitespace, and no tokens inside"
meaning CompoundAtomic = codes "compound-atomic: no implicit whitespace"
meaning NonAtomic = codes "non-atomic: implicit whitespace, whatever rule calls it"
