use Rattle.std.proofs.Common.{◌∙◌, ◌+◌, ◌<◌, arith, drop, length, nat_eq, sym}
use Rattle.base_language.specs.Language.Matching.{begins}
use Rattle.matcher_code.specs.Comments.{closings}
use Rattle.matcher_code.proofs.CommentPositions.{closed, ended, found, missed, opened, passed}
use Rattle.matcher_code.proofs.comments.skip_closed.Goals as goal

pub loop-at-preserved-in-Some : goal.loop-at-preserved-in-Some
loop-at-preserved-in-Some c =
    let opening = c.args.opening.now in
    let at = c.loop-at.at in
    let f = found (begins nat_eq opening (drop at c.args.text.now)) (length opening) c.in-Some.size c.in-Some.ensures.value in
    record {
      passed = opened opening c.args.closing.now c.args.text.now c.requires.opening c.requires.closing c.args.from c.loop-at.depth at c.in-Some.size f.1 f.0 c.loop-at.invariant.passed;
      behind = omega (arith, f.1, c.requires.opening, c.loop-at.invariant.behind);
    }

pub returns-then-depth-eq0 : goal.returns-then-depth-eq0
returns-then-depth-eq0 c =
    let opening = c.args.opening.now in
    let closing = c.args.closing.now in
    let text = c.args.text.now in
    let at = c.loop-at.at in
    let size = c.in-Some-match_bytes.size in
    let f = found (begins nat_eq closing (drop at text)) (length closing) size c.in-Some-match_bytes.ensures.value in
    let n = missed (begins nat_eq opening (drop at text)) (length opening) (sym c.match_bytes.ensures.value ∙ c.in_default.is) in
    record {
      behind = omega (arith, c.loop-at.invariant.behind);
      within = omega (arith, c.in-Some-match_bytes.ensures.within, c.loop-at-test.true);
      others = closings opening closing 0 (drop (at + size) text);
      first = ended opening closing text c.requires.opening c.requires.closing c.args.from c.loop-at.depth at size c.if-depth-eq0.true f.1 n f.0 c.loop-at.invariant.passed;
    }

pub loop-at-preserved-in-Some-match_bytes : goal.loop-at-preserved-in-Some-match_bytes
loop-at-preserved-in-Some-match_bytes c =
    let opening = c.args.opening.now in
    let closing = c.args.closing.now in
    let text = c.args.text.now in
    let at = c.loop-at.at in
    let size = c.in-Some-match_bytes.size in
    let f = found (begins nat_eq closing (drop at text)) (length closing) size c.in-Some-match_bytes.ensures.value in
    let n = missed (begins nat_eq opening (drop at text)) (length opening) (sym c.match_bytes.ensures.value ∙ c.in_default.is) in
    let some : 0 < c.loop-at.depth = omega (arith, c.if-depth-eq0.false) in
    record {
      passed = closed opening closing text c.requires.opening c.requires.closing c.args.from c.loop-at.depth at size some f.1 n f.0 c.loop-at.invariant.passed;
      behind = omega (arith, c.loop-at.invariant.behind);
    }

pub loop-at-preserved : goal.loop-at-preserved
loop-at-preserved c =
    let opening = c.args.opening.now in
    let closing = c.args.closing.now in
    let text = c.args.text.now in
    let at = c.loop-at.at in
    let n = missed (begins nat_eq opening (drop at text)) (length opening) (sym c.match_bytes.ensures.value ∙ c.in_default.is) in
    let e = missed (begins nat_eq closing (drop at text)) (length closing) (sym c.match_bytes-in_default.ensures.value ∙ c.in_default-match_bytes.is) in
    record {
      passed = passed opening closing text c.requires.opening c.requires.closing c.args.from c.loop-at.depth at n e c.loop-at.invariant.passed;
      behind = omega (arith, c.loop-at.invariant.behind);
    }
