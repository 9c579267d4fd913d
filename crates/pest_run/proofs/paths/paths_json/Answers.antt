use Rattle.std.proofs.Common.{◌∙◌, ap}
use Rattle.std.proofs.lemmas.Result.{IfOk-weaker}
use Rattle.serde_json.specs.Written.{compact_text, has_float}
use Rattle.matcher_program.specs.ExpectedNames.{name_texts}
use Rattle.pest_run.proofs.PathTexts.{free_of_floats}
use Rattle.pest_run.proofs.paths.paths_json.Goals as goal

pub returns : goal.returns
returns c =
    let e = c.in_ok-value.ensures in
    let free = free_of_floats (name_texts c.args.names.now) c.args.place c.args.paths.now in
    IfOk-weaker c.to_string.result _ _ (λ s h. h (ap has_float e ∙ free) ∙ ap compact_text e) c.to_string.ensures.text
