use Rattle.std.proofs.Common.{◌≡◌, map, take}
use Rattle.front_names.specs.Builtins.{name_of}
use Rattle.lint_findings.proofs.undefined.names_of_builtins.Given as goal

abbrev pub invariant-loop-builtin : goal.invariant-loop-builtin
invariant-loop-builtin l = map (λ name. name.now) l.names.items ≡ map name_of (take l.builtin-index l.builtin-items)
