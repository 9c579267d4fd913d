use Rattle.std.proofs.Common.{◌∙◌, ap, refl, subst}
use Rattle.matcher_engine.specs.BlockRuns.{ArePaths, IsRefusal}
use Rattle.matcher_engine.specs.Traces.{paths_in}
use Rattle.matcher_engine.specs.declared.block.runs.BlockStop.TheVariants as stop
use Rattle.matcher_program.specs.declared.answers.Stop.TheVariants as limit
use Rattle.pest_meta_c.specs.PathCalls.{calls_in}
use Rattle.pest_meta_c.proofs.compiled.pest_meta_paths.Goals as goal

pub returns-in-Ok-list_calls-clause-paths : goal.returns-in-Ok-list_calls-clause-paths
returns-in-Ok-list_calls-clause-paths c = λ e. record {
  paths = paths_in c.in-Ok.paths.items;
  told = c.hand_out.ensures ∙ (c.in-Ok-list_calls.ensures ∙ ap (λ vs. calls_in 0 (paths_in vs)) c.as_slice.ensures.value);
  are = λ g classes is n meant.
      subst (λ s. ArePaths g n s classes c.args.steps c.args.place (paths_in c.in-Ok.paths.items)) c.in-Some.ensures.state (c.in-Ok.ensures.paths g classes is n meant);
}

pub returns-in-Ok-clause-refused : goal.returns-in-Ok-clause-refused
returns-in-Ok-clause-refused c = λ answered text. record { why = stop.Stopped limit.Memory; told = refl; is = λ g classes is n meant. tt }

pub returns-clause-refused : goal.returns-clause-refused
returns-clause-refused c = λ answered text. record {
  why = c.in-Err.stop;
  told = c.stop_status.ensures.status;
  is = λ g classes is n meant.
      subst (λ s. IsRefusal g n s classes c.args.steps c.in-Err.stop) c.in-Some.ensures.state (c.in-Err.ensures.refused g classes is n meant);
}
