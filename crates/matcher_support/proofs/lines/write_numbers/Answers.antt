use Rattle.std.proofs.Common.{◌^◌, ◌<◌, arith}
use Rattle.matcher_support.proofs.LineNumbers.{end_utf8}
use Rattle.matcher_support.proofs.lines.write_numbers.Goals as goal

pub unreachable-requires : goal.unreachable-requires
unreachable-requires c =
    let i : c.args.from < 2 ^ 64 = omega (arith, c.ranges.from.fits) in
    let j : c.args.to < 2 ^ 64 = omega (arith, c.ranges.to.fits) in
    c.in-Err.ensures.cases.0
    (end_utf8 c.format_numbers-start.new.blanks c.format_numbers-start.result c.args.from c.args.to c.args.depth c.format_numbers-start.auto.blanks c.format_numbers-start.ensures.written i j c.ranges.depth.fits)
