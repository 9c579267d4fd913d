use Rattle.std.proofs.Common.{◌≡◌, take}
use Rattle.pest_fmt.specs.Files.{AreOfNames}
use Rattle.pest_fmt.specs.Processing.{IsKnown}
use Rattle.program_support.specs.declared.status.Status.TheVariants.{Done}
use Rattle.pest_fmt.proofs.run.format_files.Given as goal

abbrev pub invariant-loop-name : goal.invariant-loop-name
invariant-loop-name l = record {
  known : IsKnown l.status;
  each : AreOfNames l.options.line_ends l.delivery.target (take l.name-index l.names) l.status;
  none : l.name-index ≡ 0 → l.status ≡ Done;
}
