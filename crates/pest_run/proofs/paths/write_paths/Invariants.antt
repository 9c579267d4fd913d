use Rattle.std.proofs.Common.{◌≡◌, ◌++◌, None, length}
use Rattle.std.specs.Option.{option_copied}
use Rattle.std.specs.Prelude.{string_bytes}
use Rattle.matcher_program.specs.ExpectedNames.{name_texts}
use Rattle.pest_run.specs.Paths.{paths_text}
use Rattle.pest_run.proofs.paths.write_paths.Given as goal

-- what is written, and the paths that are left, are all paths
abbrev pub invariant-loop-path : goal.invariant-loop-path
invariant-loop-path l =
    string_bytes l.lines ++ paths_text l.text (name_texts l.names) (option_copied l.before) l.rest
    ≡ string_bytes l.initial.lines ++ paths_text l.text (name_texts l.names) None l.paths

abbrev pub decreases-loop-path : goal.decreases-loop-path
decreases-loop-path l = length l.rest
