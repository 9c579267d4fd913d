use Rattle.lint_findings.proofs.Helping.{suggested, unsuggested}
use Rattle.lint_findings.proofs.errors.help_for_name.Goals as goal

pub returns-in-UndefinedRule : goal.returns-in-UndefinedRule
returns-in-UndefinedRule c = suggested c.args.code c.help_undefined.result c.help_undefined.ensures

pub returns-in_default : goal.returns-in_default
returns-in_default c = unsuggested c.args.code c.listed_help.result c.in_default.not-UndefinedRule
