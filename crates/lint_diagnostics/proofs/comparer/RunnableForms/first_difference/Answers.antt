use Rattle.std.proofs.Common.{subst, sym}
use Rattle.base_ast.specs.Optimized.{optimized_rules_of}
use Rattle.matcher_support.specs.Compiled.{IsCompiled}
use Rattle.lint_diagnostics.proofs.comparer.RunnableForms.first_difference.Goals as goal

pub returns : goal.returns
returns c = λ g h a b.
    let written = rw c.in-Some.is at (c.in_ok-written.ensures g (subst (IsCompiled g) (sym c.deref.ensures.value) a)) in
    let optimized = rw c.in-Some-2.is at (c.in_ok-optimized.ensures h (subst (IsCompiled h) (sym c.deref-2.ensures.value) b)) in
    c.find_first.ensures (optimized_rules_of g) (optimized_rules_of h) written optimized
