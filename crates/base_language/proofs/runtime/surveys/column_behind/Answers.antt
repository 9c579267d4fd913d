use Rattle.std.proofs.Common.{rules, ◌≡◌, length, arith}
use Rattle.std.proofs.lemmas.Bool.Decides.{nat_tests}
use Rattle.std.proofs.lemmas.Str.{chars_from_encodes}
use Rattle.std.specs.Str.{chars}
use Rattle.base_language.specs.Pieces.LineColumn.{last_line}
use Rattle.base_language.proofs.runtime.surveys.column_behind.Goals as goal

pub returns-then-last-passed-clause-column : goal.returns-then-last-passed-clause-column
returns-then-last-passed-clause-column c =
    let count : c.count-length.result ≡ length (chars (last_line c.args.passed.now)) = search (rules, chars_from_encodes) in
    grind (arith, nat_tests, c.last_line-last.ensures, count)

pub returns-else-last-passed-clause-column : goal.returns-else-last-passed-clause-column
returns-else-last-passed-clause-column c =
    let count : c.count-length.result ≡ length (chars (last_line c.args.passed.now)) = search (rules, chars_from_encodes) in
    grind (arith, nat_tests, c.last_line-last.ensures, count)
