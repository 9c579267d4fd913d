use Rattle.std.proofs.Common.{◌≡◌, drop, map}
use Rattle.base_language.specs.Language.Builtins.{is_one_of}
use Rattle.front_names.specs.Builtins.{name_of}
use Rattle.front_names.proofs.builtin.Builtin.from_name.Given as goal

abbrev pub invariant-loop-builtin : goal.invariant-loop-builtin
invariant-loop-builtin l = is_one_of (map name_of l.builtin-items) l.name ≡ is_one_of (map name_of (drop l.builtin-index l.builtin-items)) l.name
