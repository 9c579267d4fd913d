use Rattle.std.proofs.Common.{◌≡◌, arith, false, subst, sym}
use Rattle.format_grammar.proofs.Ordering.{none_here, up_to_later}
use Rattle.format_grammar.specs.Gaps.{AreComments, starts_comment}
use Rattle.format_grammar.proofs.gaps.scan_gap.Goals as goal

pub loop-start-init : goal.loop-start-init
loop-start-init c =
    let bytes = c.args.bytes.now in
    let from = c.args.from in
    record {
      bound = λ h. h;
      comments = λ h.
          subst (λ cs. AreComments bytes from cs from) (sym c.new.ensures.items) (omega arith, none_here bytes from);
      none = none_here bytes from;
    }

pub loop-start-preserved : goal.loop-start-preserved
loop-start-preserved c =
    let scanned = c.in_ok-next.ensures in
    let start = c.loop-start.start in
    record {
      bound = λ h. scanned.bound (omega arith);
      comments = λ h.
          scanned.comments c.args.from (omega arith)
          (up_to_later c.args.bytes.now c.args.from c.loop-start.next start c.loop-start.gap.comments.items
          (c.loop-start.invariant.comments h) (omega arith) c.loop-start.invariant.none);
      none = λ k l r.
          let e : start ≡ k = omega (arith, l, r, scanned.within (omega arith)) in
          subst (λ n. starts_comment c.args.bytes.now n ≡ false) e (scanned.none (omega arith) (omega (arith, l, r)));
    }

pub returns : goal.returns
returns c = λ h.
    up_to_later c.args.bytes.now c.args.from c.loop-start.next c.args.end c.loop-start.gap.comments.items
    (c.loop-start.invariant.comments h) (c.loop-start.invariant.bound h)
    (λ k l r. c.loop-start.invariant.none k l (omega (arith, r)))
