use Rattle.pest_meta_c.proofs.Telling.{no_grammar}
use Rattle.pest_meta_c.proofs.calls.forest_of.Goals as goal

pub returns-in-Err-clause-refused : goal.returns-in-Err-clause-refused
returns-in-Err-clause-refused c =
    no_grammar c.args.text.now c.in-Err.fault c.to_refusal.result c.in-Err.ensures.spelled c.to_refusal.ensures
