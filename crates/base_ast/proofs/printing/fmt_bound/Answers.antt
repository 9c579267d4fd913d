use Rattle.std.proofs.Common.{sym, ◌∙◌, rules}
use Rattle.std.proofs.Output.{has_written_append, has_written_of_eq}
use Rattle.base_ast.proofs.WrittenBytes.{encodes-bound_literal}
use Rattle.base_ast.proofs.printing.fmt_bound.Goals as goal

pub returns-in_ok-fmt_escaped-in-Some : goal.returns-in_ok-fmt_escaped-in-Some
returns-in_ok-fmt_escaped-in-Some g c plain ok =
    let one = c.write_str.ensures.writes plain (search rules) in
    let two = c.fmt_escaped.ensures one.plain (search rules) in
    let three = c.write_str-in-Some.ensures.writes two.plain ok in
    has_written_of_eq _ _ _ _ _ (encodes-bound_literal c.args.text.now c.next.new.self.rest.now c.in-Some.c c.utf8.text (sym c.chars.ensures.rest ∙ c.in-Some.ensures.steps.0)) (has_written_append _ _ _ _ _ _ (has_written_append _ _ _ _ _ _ one two) three)
