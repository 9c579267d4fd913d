use Rattle.std.proofs.Common.{◌≡◌, ◌<◌, ◌≤◌, ap, arith, length, ltb-true, subst}
use Rattle.std.specs.Prelude.{IsUtf8}
use Rattle.base_language.specs.Pieces.Span.{position_text}
use Rattle.matcher_engine.proofs.Results.{whole_size}
use Rattle.matcher_engine.proofs.matcher.has_long_text.Goals as goal

pub returns-clause-long : goal.returns-clause-long
returns-clause-long c = λ e.
    let u : IsUtf8 (position_text c.args.start) = subst IsUtf8 c.whole_text.ensures c.whole_text.utf8 in
    let size = whole_size c.args.start u c.args.start.at_character in
    let same : length c.whole_text.result.now ≡ length (position_text c.args.start) = ap length c.whole_text.ensures in
    let long : 4294967295 < length c.whole_text.result.now = ltb-true 4294967295 (length c.whole_text.result.now) e in
    omega (arith, long, same, size)

pub returns-clause-short : goal.returns-clause-short
returns-clause-short c = λ e.
    let same : length c.whole_text.result.now ≡ length (position_text c.args.start) = ap length c.whole_text.ensures in
    let short : length c.whole_text.result.now ≤ 4294967295 = grind (arith, e) in
    omega (arith, short, same)
