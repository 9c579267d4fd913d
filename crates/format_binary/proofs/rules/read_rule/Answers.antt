use Rattle.format_binary.proofs.Refused.{body_front, name_front, no_err, rule_end, same_err, type_front}
use Rattle.format_binary.proofs.rules.read_rule.Goals as goal

pub returns-in_err-name-clause-refused : goal.returns-in_err-name-clause-refused
returns-in_err-name-clause-refused c =
    same_err c.from_residual.result c.in_err-name.field-0.0 c.from_residual.ensures.1
    (λ w b. c.in_err-name.ensures.refused w (name_front c.args.input.now.rest.now b))

pub returns-in_err-ty-clause-refused : goal.returns-in_err-ty-clause-refused
returns-in_err-ty-clause-refused c =
    no_err c.from_residual-in_err-ty.result
    (λ b. c.in_err-ty.ensures.refused (type_front c.args.input.now.rest.now c.read_string.new.self.rest.now c.in_ok-name.name c.in_ok-name.ensures.read b))

pub returns-in_err-expr-clause-refused : goal.returns-in_err-expr-clause-refused
returns-in_err-expr-clause-refused c =
    same_err c.from_residual-in_err-expr.result c.in_err-expr.field-0.0 c.from_residual-in_err-expr.ensures.1
    (λ w b. c.in_err-expr.ensures.refused w (body_front c.args.input.now.rest.now c.read_string.new.self.rest.now c.in_ok-name.name c.in_ok-name.ensures.read c.in_ok-ty.ty c.read_type.new.input.rest.now c.in_ok-ty.ensures.read b))

pub returns-clause-follows : goal.returns-clause-follows
returns-clause-follows c =
    rule_end c.args.input.now.rest.now c.read_string.new.self.rest.now c.in_ok-name.name c.in_ok-name.ensures.read c.in_ok-ty.ty c.read_type.new.input.rest.now c.in_ok-ty.ensures.read
    c.read_expression.new.input.rest.now c.in_ok-expr.ensures.follows
