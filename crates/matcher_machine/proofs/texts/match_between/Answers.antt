use Rattle.matcher_code.specs.Bytecodes.{lists_in}
use Rattle.std.proofs.Common.{refl, sym, arith, ◌+◌, ◌-◌, drop, length, map, reverse, take}
use Rattle.base_language.specs.Language.Matching.{concatenated}
use Rattle.matcher_machine.specs.Stacks.{bytes_of, length_if}
use Rattle.matcher_machine.proofs.Stacking.{ends, goes_on, slice_first}
use Rattle.matcher_machine.proofs.texts.match_between.Goals as goal

pub returns-in-None-clause-value : goal.returns-in-None-clause-value
returns-in-None-clause-value c =
    let code = lists_in c.args.code.now in
    let text = c.args.text.now in
    let xs = c.args.texts.now in
    let ys = reverse (map (bytes_of code text) xs) in
    let i = c.loop-index.index in
    sym (ends (length_if (concatenated (take (c.args.end - c.args.start) (drop c.args.start ys))) (drop c.args.at text)) (take (c.args.end - i) (drop i ys)) (take (c.args.end - (i + 1)) (drop (i + 1) ys))
    _ c.loop-index.size c.args.at text (slice_first (bytes_of code text) xs _ i c.args.end (length xs - 1 - i) c.loop-index-test.true c.requires.within refl) c.loop-index.invariant.left
    (sym c.in-None.ensures.value))

pub loop-index-preserved : goal.loop-index-preserved
loop-index-preserved c =
    let code = lists_in c.args.code.now in
    let text = c.args.text.now in
    let xs = c.args.texts.now in
    let ys = reverse (map (bytes_of code text) xs) in
    let i = c.loop-index.index in
    let w = c.in-Some.ensures.within in
    record {
      small = omega (arith, w, c.loop-index.invariant.small);
      left = goes_on (length_if (concatenated (take (c.args.end - c.args.start) (drop c.args.start ys))) (drop c.args.at text)) (take (c.args.end - i) (drop i ys)) (take (c.args.end - (i + 1)) (drop (i + 1) ys))
          _ c.loop-index.size c.args.at text (slice_first (bytes_of code text) xs _ i c.args.end (length xs - 1 - i) c.loop-index-test.true c.requires.within refl) c.loop-index.invariant.left
          c.in-Some.more (sym c.in-Some.ensures.value);
    }
