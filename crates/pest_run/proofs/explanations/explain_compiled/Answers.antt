use Rattle.pest_run.proofs.explanations.explain_compiled.Goals as goal

pub returns-in-Ok : goal.returns-in-Ok
returns-in-Ok c = λ g of. c.explain_at.ensures g of (c.in-Ok.ensures.reported g of)

pub returns-in-Err : goal.returns-in-Err
returns-in-Err c = λ g of. c.in-Err.ensures.unexplained g of c.args.format
