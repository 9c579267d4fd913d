use Rattle.base_language.specs.Language.State.{Classes}
use Rattle.matcher_program.specs.Programs.{Fits}
use Rattle.matcher_sets.specs.Differences.{MatchesOne}
use Rattle.matcher_sets.specs.Forms.{IsBoundIn}
use Rattle.matcher_sets.proofs.Choosing.{IsRest}
use Rattle.matcher_sets.proofs.difference.choice_ranges.Given as goal

abbrev pub invariant-alternatives : goal.invariant-alternatives
invariant-alternatives l = record {
  bound : IsBoundIn l.program l.rest;
  rests : (classes : Classes) → Fits l.program.properties.items classes → IsRest (MatchesOne l.program classes) l.form l.rest l.ranges.items;
}
