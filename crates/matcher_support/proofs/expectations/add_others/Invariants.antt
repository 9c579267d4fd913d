use Rattle.std.proofs.Common.{◌≡◌, ◌+◌, ◌++◌, drop, length}
use Rattle.std.specs.Prelude.{string_bytes}
use Rattle.matcher_program.specs.ExpectedNames.{name_texts}
use Rattle.matcher_support.specs.Expectations.{other_names}
use Rattle.matcher_support.proofs.expectations.add_others.Given as goal

abbrev pub invariant-loop-name : goal.invariant-loop-name
invariant-loop-name l = record {
  counted : l.following + l.name-index ≡ length l.names;
  written : string_bytes l.message ++ other_names l.of_two (name_texts (drop l.name-index l.names)) ≡ string_bytes l.fn.message ++ other_names l.of_two (name_texts l.names);
}
