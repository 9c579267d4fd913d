use Rattle.format_binary.proofs.Refused.{no_err, size_short, text_cut, text_wrong}
use Rattle.format_binary.proofs.input.ByteInput.read_string.Goals as goal

pub returns-in_err-size-clause-refused : goal.returns-in_err-size-clause-refused
returns-in_err-size-clause-refused c = no_err c.from_residual.result (size_short c.args.self.now.rest.now c.in_err-size.ensures.refused)

pub returns-in_err-bytes-clause-refused : goal.returns-in_err-bytes-clause-refused
returns-in_err-bytes-clause-refused c =
    no_err c.from_residual-in_err-bytes.result
    (text_cut c.args.self.now.rest.now c.read_size.new.self.rest.now c.in_ok-size.size c.in_ok-size.ensures.fits c.in_ok-size.ensures.read c.in_err-bytes.ensures.refused)

pub returns-in-Err-clause-refused : goal.returns-in-Err-clause-refused
returns-in-Err-clause-refused c = λ e. text_wrong c.args.self.now.rest.now c.read_size.new.self.rest.now c.in_ok-bytes.bytes.now c.read_bytes.new.self.rest.now c.in_ok-size.size c.in_ok-size.ensures.fits c.in_ok-size.ensures.read c.in_ok-bytes.ensures.bytes c.in_ok-bytes.ensures.size c.in-Err.ensures.cases.0
