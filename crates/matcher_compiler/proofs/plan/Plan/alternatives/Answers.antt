use Rattle.std.proofs.Common.{subst, sym}
use Rattle.std.specs.Prelude.{OnOk}
use Rattle.base_language.specs.Language.Meaning.{Run}
use Rattle.matcher_sets.specs.Modes.{mode_of}
use Rattle.matcher_compiler.specs.Plans.{LaysAt}
use Rattle.matcher_compiler.proofs.plan.Plan.alternatives.Goals as goal

pub character-requires : goal.character-requires
character-requires c = record { ranges = rw c.in-Some.is at c.in_ok-made.ensures }

pub returns-in-None-clause-lays : goal.returns-in-None-clause-lays
returns-in-None-clause-lays c =
    subst (λ e. OnOk c.choice.result (LaysAt c.args.program.now c.choice.new.self (Run (mode_of c.args.at.mode) e) c.args.at)) (sym c.requires.same) c.choice.ensures.lays
