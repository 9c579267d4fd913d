use Rattle.format_binary.proofs.FormNumbers.{slice_end, slice_second, slice_short}
use Rattle.format_binary.proofs.Refused.{no_err}
use Rattle.format_binary.proofs.operators.read_slice.Goals as goal

pub returns-in_err-start-clause-refused : goal.returns-in_err-start-clause-refused
returns-in_err-start-clause-refused c = no_err c.from_residual.result (slice_short c.args.input.now.rest.now c.in_err-start.ensures.refused)

pub returns-in_err-end-clause-refused : goal.returns-in_err-end-clause-refused
returns-in_err-end-clause-refused c =
    no_err c.from_residual-in_err-end.result
    (λ b. c.in_err-end.ensures.refused (slice_second c.args.input.now.rest.now c.read_index.new.self.rest.now c.in_ok-start.start c.in_ok-start.ensures.read b))

pub returns-clause-follows : goal.returns-clause-follows
returns-clause-follows c = slice_end c.args.input.now.rest.now c.read_index.new.self.rest.now c.in_ok-start.start c.in_ok-start.ensures.read c.in_ok-end.end c.read_end.new.self.rest.now c.in_ok-end.ensures.read
