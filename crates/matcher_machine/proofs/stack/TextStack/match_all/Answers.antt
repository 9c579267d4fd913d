use Rattle.matcher_code.specs.Bytecodes.{lists_in}
use Rattle.std.proofs.Common.{sym, arith, drop}
use Rattle.base_language.specs.Language.Matching.{concatenated}
use Rattle.matcher_machine.specs.Stacks.{bytes_of, length_if, texts_at, texts_in}
use Rattle.matcher_machine.proofs.Stacking.{ends, goes_on}
use Rattle.matcher_machine.proofs.stack.TextStack.match_all.Goals as goal

pub returns-in-None-clause-value : goal.returns-in-None-clause-value
returns-in-None-clause-value c =
    let code = lists_in c.args.code.now in
    let text = c.args.text.now in
    let s = c.args.self.now in
    sym (ends (length_if (concatenated (texts_in code text s)) (drop c.args.at text)) (texts_at code text s c.loop-pushed.number) (texts_at code text s c.in-Some.pushed.below)
    (bytes_of code text c.in-Some.pushed.text) c.loop-pushed.size c.args.at text (c.in-Some.ensures.1 code text) c.loop-pushed.invariant.left (sym c.in-None.ensures.value))

pub loop-pushed-preserved : goal.loop-pushed-preserved
loop-pushed-preserved c =
    let code = lists_in c.args.code.now in
    let text = c.args.text.now in
    let s = c.args.self.now in
    let w = c.in-Some-match_held.ensures.within in
    record {
      within = omega (arith, c.in-Some.ensures.0, c.loop-pushed.invariant.within);
      small = omega (arith, w, c.loop-pushed.invariant.small);
      left = goes_on (length_if (concatenated (texts_in code text s)) (drop c.args.at text)) (texts_at code text s c.loop-pushed.number) (texts_at code text s c.in-Some.pushed.below)
          (bytes_of code text c.in-Some.pushed.text) c.loop-pushed.size c.args.at text (c.in-Some.ensures.1 code text) c.loop-pushed.invariant.left
          c.in-Some-match_held.more (sym c.in-Some-match_held.ensures.value);
    }
