use Rattle.std.proofs.Common.{◌∙◌, ◌∷◌, ap}
use Rattle.format_binary.proofs.FormNumbers.{end_cut}
use Rattle.format_binary.proofs.Refused.{never_err}
use Rattle.format_binary.proofs.input.ByteInput.read_end.Goals as goal

pub returns-in_err-read_index-in-1-clause-refused : goal.returns-in_err-read_index-in-1-clause-refused
returns-in_err-read_index-in-1-clause-refused c =
    let mid = c.read_byte.new.self.rest.now in
    never_err c.from_residual-in_err-read_index-in-1.result
    (end_cut c.args.self.now.rest.now mid (c.in_ok-read_byte.ensures.read ∙ ap (λ b. b ∷ mid) c.in-1.is) c.in_err-read_index-in-1.ensures.refused)
