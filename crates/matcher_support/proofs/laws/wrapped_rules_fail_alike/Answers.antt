use Rattle.matcher_support.proofs.WrappedRules.{fails_alike}
use Rattle.matcher_support.proofs.laws.wrapped_rules_fail_alike.Goals as goal

pub returns : goal.returns
returns c = λ g classes w n s o d e. fails_alike g classes w n s o d e
