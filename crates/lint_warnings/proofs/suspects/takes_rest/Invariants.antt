use Rattle.std.proofs.Common.{◌≡◌}
use Rattle.front_spanned.specs.Nodes.{view}
use Rattle.lint_warnings.specs.Suspects.{takes_rest}
use Rattle.lint_warnings.proofs.suspects.takes_rest.Given as goal

abbrev pub invariant-parts : goal.invariant-parts
invariant-parts l = takes_rest (view l.last) ≡ takes_rest (view l.fn.node)
