use Rattle.matcher_support.proofs.WrappedRules.{shows_tags}
use Rattle.matcher_support.proofs.laws.wrapped_rules_show_tags.Goals as goal

pub returns : goal.returns
returns c = λ g classes w n s o d. shows_tags g classes w n s o d
