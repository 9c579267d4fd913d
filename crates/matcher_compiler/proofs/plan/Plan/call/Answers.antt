use Rattle.std.proofs.Common.{subst}
use Rattle.std.specs.Prelude.{OnOk}
use Rattle.base_language.specs.Language.Expression.{Ident}
use Rattle.base_language.specs.Language.Meaning.{Run}
use Rattle.matcher_sets.specs.Modes.{mode_of}
use Rattle.matcher_compiler.specs.Plans.{LaysAt}
use Rattle.matcher_compiler.proofs.Naming.{last_is, last_named, last_within}
use Rattle.matcher_compiler.proofs.plan.Plan.call.Goals as goal

pub last_call-requires-clause-last : goal.last_call-requires-clause-last
last_call-requires-clause-last c = last_is c.args.program.now.rules.items c.args.rule _ (c.requires.lasts.last c.args.rule c.requires.within)

pub last_call-requires-clause-within : goal.last_call-requires-clause-within
last_call-requires-clause-within c = last_within c.args.program.now.rules.items c.args.rule _ (c.requires.lasts.last c.args.rule c.requires.within)

pub returns-clause-lays : goal.returns-clause-lays
returns-clause-lays c =
    let p = c.args.program.now in
    subst (λ n. OnOk c.last_call.result (LaysAt p c.last_call.new.self (Run (mode_of c.args.at.mode) (Ident n)) c.args.at))
    (last_named p.rules.items c.args.rule _ (c.requires.lasts.last c.args.rule c.requires.within)) c.last_call.ensures.lays
