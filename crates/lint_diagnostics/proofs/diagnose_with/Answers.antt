use Rattle.front_spanned.specs.Nodes.{rule_views}
use Rattle.lint_warnings.specs.Lists.{texts_of}
use Rattle.lint_diagnostics.proofs.Diagnosing.{answered, answered_refused, diagnosed_accepted, diagnosed_refused}
use Rattle.lint_diagnostics.proofs.diagnose_with.Goals as goal

pub returns-in-Ok-clause-diagnosis : goal.returns-in-Ok-clause-diagnosis
returns-in-Ok-clause-diagnosis c =
    diagnosed_accepted c.args.has_all (texts_of c.args.starts.now) c.args.text.now c.in-Ok.opened.builtins.items (rule_views c.in-Ok.opened.rules.value.items) c.diagnose_accepted.result
    c.in-Ok.ensures.rules c.diagnose_accepted.ensures

pub returns-in-Ok-clause-accepted : goal.returns-in-Ok-clause-accepted
returns-in-Ok-clause-accepted c =
    answered c.args.text.now c.in-Ok.opened.builtins.items (rule_views c.in-Ok.opened.rules.value.items) c.diagnose_accepted.result c.in-Ok.ensures.rules

pub returns-in-Err-clause-diagnosis : goal.returns-in-Err-clause-diagnosis
returns-in-Err-clause-diagnosis c =
    diagnosed_refused c.args.has_all (texts_of c.args.starts.now) c.args.text.now c.in-Err.error c.diagnose_refusal.result c.in-Err.ensures.refused c.diagnose_refusal.ensures

pub returns-in-Err-clause-accepted : goal.returns-in-Err-clause-accepted
returns-in-Err-clause-accepted c =
    answered_refused c.args.text.now c.in-Err.error c.diagnose_refusal.result c.in-Err.ensures.refused c.diagnose_refusal.ensures
