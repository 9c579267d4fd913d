use Rattle.format_binary.proofs.FormNumbers.{range_end, range_first, range_second}
use Rattle.format_binary.proofs.Refused.{same_err}
use Rattle.format_binary.proofs.operators.read_range.Goals as goal

pub returns-in_err-low-clause-refused : goal.returns-in_err-low-clause-refused
returns-in_err-low-clause-refused c =
    same_err c.from_residual.result c.in_err-low.field-0.0 c.from_residual.ensures.1
    (λ w b. c.in_err-low.ensures.refused w (range_first c.args.input.now.rest.now b))

pub returns-in_err-high-clause-refused : goal.returns-in_err-high-clause-refused
returns-in_err-high-clause-refused c =
    same_err c.from_residual-in_err-high.result c.in_err-high.field-0.0 c.from_residual-in_err-high.ensures.1
    (λ w b. c.in_err-high.ensures.refused w (range_second c.args.input.now.rest.now c.read_string.new.self.rest.now c.in_ok-low.low c.in_ok-low.ensures.read b))

pub returns-clause-follows : goal.returns-clause-follows
returns-clause-follows c = range_end c.args.input.now.rest.now c.read_string.new.self.rest.now c.in_ok-low.low c.in_ok-low.ensures.read c.in_ok-high.high c.read_string-2.new.self.rest.now c.in_ok-high.ensures.read
