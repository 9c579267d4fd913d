use Rattle.lint_warnings.proofs.Suspicious.{no_test_fails, same_option}
use Rattle.lint_warnings.proofs.laws.idle_tests_do_nothing.Goals as goal

pub returns : goal.returns
returns c = record {
  tests = λ p x h g classes m s d. no_test_fails g classes m x h s d;
  options = λ p x h g classes m s o. same_option g classes m x h s o;
}
