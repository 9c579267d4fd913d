use Rattle.std.proofs.Common.{◌≡◌, true}
use Rattle.matcher_program.specs.Programs.{is_set}
use Rattle.matcher_program.proofs.sets.is_set.Given as goal

abbrev pub invariant-alternatives : goal.invariant-alternatives
invariant-alternatives l = is_set l.rest ≡ true → is_set l.form ≡ true
