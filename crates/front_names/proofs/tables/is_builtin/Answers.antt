use Rattle.std.proofs.Common.{◌∙◌}
use Rattle.front_names.proofs.Characters.{builtin_by_characters}
use Rattle.front_names.proofs.tables.is_builtin.Goals as goal

pub returns-clause-named : goal.returns-clause-named
returns-clause-named c = c.is_known.ensures ∙ builtin_by_characters c.args.name.now c.utf8.name
