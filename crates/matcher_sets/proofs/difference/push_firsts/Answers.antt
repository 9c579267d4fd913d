use Rattle.matcher_sets.proofs.Excluding.{adds_firsts, adds_newline}
use Rattle.matcher_sets.proofs.difference.push_firsts.Goals as goal

pub returns-in-Newline : goal.returns-in-Newline
returns-in-Newline c =
    let p = c.args.program.now in
    adds_newline p c.args.form.now c.in-Newline.is c.requires.bound _ _ c.push_newline.result c.push_newline.ensures.adds

pub returns-in_default : goal.returns-in_default
returns-in_default c =
    adds_firsts c.args.program.now c.args.form.now _ _ c.push_set.result c.push_set.ensures
