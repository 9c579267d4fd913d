use Rattle.std.proofs.Common.{◌≡◌}
use Rattle.front_spanned.specs.Erasure.{without_spans}
use Rattle.front_spanned.specs.Nodes.{view}
use Rattle.lint_warnings.specs.Choices.{first_call_of}
use Rattle.lint_warnings.proofs.literals.first_call.Given as goal

abbrev pub invariant-parts : goal.invariant-parts
invariant-parts l = first_call_of (without_spans (view l.first)) ≡ first_call_of (without_spans (view l.fn.node))
