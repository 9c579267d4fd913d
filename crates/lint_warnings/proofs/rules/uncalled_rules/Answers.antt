use Rattle.std.proofs.Common.{◌∙◌, ap, sym}
use Rattle.front_spanned.specs.Nodes.{rule_views}
use Rattle.lint_warnings.specs.Lists.{texts_of}
use Rattle.lint_warnings.specs.Rules.{is_needed}
use Rattle.lint_warnings.proofs.Names.{judged_all, judged_rest, whole_rest}
use Rattle.lint_warnings.proofs.rules.uncalled_rules.Goals as goal

pub returns-then-knows_start : goal.returns-then-knows_start
returns-then-knows_start c =
    let rules = rule_views c.args.rules.now in
    let f = is_needed (texts_of c.args.starts.now) rules in
    let known = c.in_ok-needed.ensures in
    judged_all f rules c.in_ok-needed.needed c.uncalled_among.result known (sym (c.knows_start.ensures f known) ∙ c.if-knows_start.true) c.uncalled_among.ensures

pub returns : goal.returns
returns c =
    let rules = rule_views c.args.rules.now in
    let f = is_needed (texts_of c.args.starts.now) rules in
    let known = c.in_ok-needed.ensures in
    judged_rest f rules _ c.in_ok-needed.needed c.uncalled_among-else-knows_start.result known (sym (c.knows_start.ensures f known) ∙ c.if-knows_start.false) (ap rule_views (whole_rest c.args.rules.now c.first_judged-first.result) ∙ c.first_judged-first.ensures.rest f known) c.uncalled_among-else-knows_start.ensures
