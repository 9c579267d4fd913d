use Rattle.std.proofs.Common.{rules, arith, ◌≡◌, length}
use Rattle.std.specs.Str.{chars}
use Rattle.std.proofs.lemmas.Str.{chars_from_encodes}
use Rattle.std.proofs.lemmas.Bool.Decides.{nat_tests}
use Rattle.base_language.proofs.runtime.layout.marked_count.Goals as goal

pub returns-else-end_line-start_line : goal.returns-else-end_line-start_line
returns-else-end_line-start_line c =
    let count : c.count.result ≡ length (chars c.args.line.now) = search (rules, chars_from_encodes) in
    grind (arith, nat_tests)
