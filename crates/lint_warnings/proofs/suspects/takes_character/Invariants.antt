use Rattle.std.proofs.Common.{◌≡◌}
use Rattle.front_spanned.specs.Nodes.{view}
use Rattle.lint_warnings.specs.Suspects.{takes_character}
use Rattle.lint_warnings.proofs.suspects.takes_character.Given as goal

abbrev pub invariant-parts : goal.invariant-parts
invariant-parts l = takes_character (view l.first) ≡ takes_character (view l.fn.node)
