use Rattle.std.proofs.Common.{◌∙◌}
use Rattle.std.specs.Cmp.{unsigned_Decides}
use Rattle.std.proofs.lemmas.Slice.Eq.{strip_prefix_is}
use Rattle.lint_findings.specs.Codes.{pest}
use Rattle.lint_findings.proofs.Named.{no_short_name, short_name}
use Rattle.lint_findings.proofs.codes.is_short.Goals as goal

pub returns-in-Some : goal.returns-in-Some
returns-in-Some c =
    let parts = rw c.in-Some.is at (strip_prefix_is unsigned_Decides c.args.full.now pest c.strip_prefix.result c.strip_prefix.ensures.cases) in
    c.eq.ensures ∙ short_name c.args.full.now c.in-Some.rest.now c.args.name.now parts

pub returns-in-None : goal.returns-in-None
returns-in-None c =
    let none = rw c.in-None.is at (strip_prefix_is unsigned_Decides c.args.full.now pest c.strip_prefix.result c.strip_prefix.ensures.cases) in
    no_short_name c.args.full.now c.args.name.now none
