use Rattle.std.proofs.Common.{◌∙◌, ap, sym}
use Rattle.std.specs.Option.{option_copied}
use Rattle.pest_run.specs.Paths.{is_within}
use Rattle.pest_run.proofs.PathTexts.{same_lists}
use Rattle.pest_run.proofs.paths.is_within.Goals as goal

pub returns-in-Some : goal.returns-in-Some
returns-in-Some c =
    c.eq.ensures ∙ sym (ap (λ b. is_within (option_copied b) c.args.calls.now) c.in-Some.is ∙ same_lists c.in-Some.others.now c.args.calls.now)
