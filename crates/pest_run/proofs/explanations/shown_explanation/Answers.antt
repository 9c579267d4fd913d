use Rattle.std.proofs.Common.{◌∙◌, ap}
use Rattle.pest_run.specs.Paths.{shown_paths}
use Rattle.pest_run.proofs.explanations.shown_explanation.Goals as goal

pub returns-in-Ok : goal.returns-in-Ok
returns-in-Ok c = λ g named rule reported are limit.
    record {
      place = c.args.place;
      reported = reported;
      paths = c.args.paths.now;
      are = are;
      shows = c.in-Ok.ensures ∙ ap (λ ns. shown_paths c.args.format c.args.text.now ns c.args.place c.args.paths.now) named;
    }
