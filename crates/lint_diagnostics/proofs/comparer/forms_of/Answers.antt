use Rattle.base_ast.specs.Optimized.{optimized_rules_of}
use Rattle.lint_diagnostics.specs.Differences.{as_optimized, as_written}
use Rattle.lint_diagnostics.proofs.Forms.{both_forms}
use Rattle.lint_diagnostics.proofs.comparer.forms_of.Goals as goal

pub returns-clause-forms : goal.returns-clause-forms
returns-clause-forms c = λ grammar s.
    both_forms grammar c.in_ok-as_written.as_written.value.items c.in_ok-as_optimized.as_optimized.value.items _ (c.in_ok-as_written.ensures grammar s) (c.in_ok-as_optimized.ensures grammar s)
    (rw (c.in-Some.is, c.deref.ensures.value) at c.in_ok-written.ensures.compiled) (rw (c.in-Some-2.is, c.deref-2.ensures.value) at c.in_ok-optimized.ensures.compiled)

pub returns-in_default-clause-lacking : goal.returns-in_default-clause-lacking
returns-in_default-clause-lacking c = λ grammar s.
    as_written (optimized_rules_of c.in_ok-as_written.as_written.value.items) (c.in_ok-as_written.ensures grammar s) (rw (c.in_default.is, c.deref.ensures.value) at c.in_ok-written.ensures.unfit)

pub returns-in_default-2-clause-lacking : goal.returns-in_default-2-clause-lacking
returns-in_default-2-clause-lacking c = λ grammar s.
    as_optimized (optimized_rules_of c.in_ok-as_optimized.as_optimized.value.items) (c.in_ok-as_optimized.ensures grammar s) (rw (c.in_default-2.is, c.deref-2.ensures.value) at c.in_ok-optimized.ensures.unfit)
