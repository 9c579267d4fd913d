use Rattle.matcher_program.specs.Programs.{name_at, names_of}
use Rattle.matcher_sets.specs.Forms.{grammar_in}
use Rattle.matcher_compiler.proofs.Naming.{meant_of}
use Rattle.matcher_compiler.proofs.plan.Plan.last_call.Goals as goal

pub token_call-requires-clause-meant : goal.token_call-requires-clause-meant
token_call-requires-clause-meant c =
    let p = c.args.program.now in
    meant_of (grammar_in p) (name_at (names_of p.rules.items) c.args.rule) c.args.rule c.requires.last

pub quiet_call-requires-clause-meant : goal.quiet_call-requires-clause-meant
quiet_call-requires-clause-meant c =
    let p = c.args.program.now in
    meant_of (grammar_in p) (name_at (names_of p.rules.items) c.args.rule) c.args.rule c.requires.last
