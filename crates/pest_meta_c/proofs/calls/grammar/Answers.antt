use Rattle.pest_meta.specs.Spelling.{IsRefusedWith}
use Rattle.pest_meta_c.proofs.Telling.{refused, told_such}
use Rattle.pest_meta_c.proofs.calls.grammar.Goals as goal

pub returns-in-Err-clause-refused : goal.returns-in-Err-clause-refused
returns-in-Err-clause-refused c =
    let text = c.args.text.now in
    told_such text (IsRefusedWith text) c.in-Err.fault c.to_refusal.result (refused text c.in-Err.fault c.in-Err.ensures.refused) c.to_refusal.ensures
