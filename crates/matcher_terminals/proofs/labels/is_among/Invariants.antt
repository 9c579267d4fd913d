use Rattle.std.proofs.Common.{◌≡◌, drop}
use Rattle.std.specs.Str.{chars}
use Rattle.base_language.specs.Language.Builtins.{is_one_of}
use Rattle.matcher_program.specs.ExpectedNames.{name_texts}
use Rattle.matcher_terminals.proofs.labels.is_among.Given as goal

abbrev pub invariant-loop-it : goal.invariant-loop-it
invariant-loop-it l =
    is_one_of (name_texts (drop l.it-index l.labels)) (chars l.label) ≡ is_one_of (name_texts l.labels) (chars l.label)
