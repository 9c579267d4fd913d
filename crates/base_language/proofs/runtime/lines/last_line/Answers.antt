use Rattle.std.proofs.Common.{Some, None, ◌∙◌, sym, arith}
use Rattle.std.proofs.lemmas.Str.Pattern.{rfind_char}
use Rattle.base_language.proofs.Lines.{last_line_behind, last_line_whole}
use Rattle.base_language.proofs.runtime.lines.last_line.Goals as goal

pub returns-in-Some : goal.returns-in-Some
returns-in-Some c =
    let found = rfind_char 10 c.args.text.now (Some c.in-Some.i) c.in-Some.ensures.cases (omega arith) in
    c.range_from.ensures.value ∙ sym (last_line_behind _ _ found.0 found.1 found.2)

pub returns-in-None : goal.returns-in-None
returns-in-None c = sym (last_line_whole _ (rfind_char 10 c.args.text.now None c.in-None.ensures.cases (omega arith)))
