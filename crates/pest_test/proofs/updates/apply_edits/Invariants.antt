use Rattle.std.proofs.Common.{◌≡◌, ◌++◌, drop, string_bytes}
use Rattle.pest_test.specs.Updates.{edited_from}
use Rattle.pest_test.proofs.updates.apply_edits.Given as goal

abbrev pub invariant-loop-edit : goal.invariant-loop-edit
invariant-loop-edit l =
    string_bytes l.text ++ edited_from l.file l.place (drop l.edit-index l.edits) ≡ edited_from l.file 0 l.edits
