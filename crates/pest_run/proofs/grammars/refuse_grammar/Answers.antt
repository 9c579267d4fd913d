use Rattle.pest_run.proofs.grammars.refuse_grammar.Goals as goal

pub returns-in-Ok-clause-reading : goal.returns-in-Ok-clause-reading
returns-in-Ok-clause-reading g c =
    record { error = c.args.error; refuses = c.requires; names = c.find_property-property.ensures }

pub returns-in-Ok-clause-reason : goal.returns-in-Ok-clause-reason
returns-in-Ok-clause-reason g c = λ one. record {
  is_terminal = c.args.err.now.is_terminal;
  errors = c.in-Ok.errors.items;
  refused = c.in-Ok.ensures.told;
  tells = c.report_refusal.ensures.tells one;
}
