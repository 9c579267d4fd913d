use Rattle.std.proofs.Common.{◌≡◌, arith, length, rules}
use Rattle.std.proofs.lemmas.Bool.Decides.{nat_tests}
use Rattle.std.proofs.lemmas.Str.{chars_from_encodes}
use Rattle.std.specs.Str.{chars}
use Rattle.program_support.proofs.excerpt.marked_count.Goals as goal

pub returns-else-end-start : goal.returns-else-end-start
returns-else-end-start c =
    let count : c.count.result ≡ length (chars c.args.line.now) = search (rules, chars_from_encodes) in
    grind (arith, nat_tests)
