use Rattle.std.proofs.Common.{take}
use Rattle.base_language.specs.Language.Builtins.{is_one_of}
use Rattle.lint_warnings.specs.Lists.{HasNames, texts_of}
use Rattle.lint_warnings.proofs.rules.names_of.Given as goal

abbrev pub invariant-loop-name : goal.invariant-loop-name
invariant-loop-name l = HasNames (is_one_of (texts_of (take l.name-index l.names))) l.set
