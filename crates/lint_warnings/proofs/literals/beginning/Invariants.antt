use Rattle.std.proofs.Common.{◌≡◌}
use Rattle.front_spanned.specs.Erasure.{without_spans}
use Rattle.front_spanned.specs.Nodes.{view}
use Rattle.lint_warnings.specs.Choices.{beginning_of}
use Rattle.lint_warnings.proofs.literals.beginning.Given as goal

abbrev pub invariant-parts : goal.invariant-parts
invariant-parts l = beginning_of (without_spans (view l.first)) ≡ beginning_of (without_spans (view l.fn.node))
