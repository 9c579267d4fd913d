use Rattle.std.proofs.Common.{◌≡◌, ◌∙◌, ◌∷◌, [], ap, refl, reverse}
use Rattle.std.proofs.lemmas.List.{reverse-append}
use Rattle.matcher_machine.proofs.Expanding.{part_all, part_first, part_more}
use Rattle.matcher_machine.proofs.expansion.Expander.push_frame.Goals as goal

pub loop-last-init : goal.loop-last-init
loop-last-init c =
    (λ xs rest visits left s w. part_first c.args.log.now.entries.items c.args.from c.args.to (reverse c.args.self.now.waiting.items) xs rest visits left s w, refl)

pub loop-last-preserved : goal.loop-last-preserved
loop-last-preserved c =
    let l = c.loop-last in
    let es = c.args.log.now.entries.items in
    let i : reverse c.push.new.self.items ≡ l.last ∷ reverse l.self.waiting.items =
    ap reverse c.in_ok-push.ensures.items ∙ reverse-append l.self.waiting.items (l.last ∷ []) in (
      λ xs rest visits left s w. part_more es c.args.from l.last c.previous-last.result (reverse l.self.waiting.items) (reverse c.push.new.self.items) xs rest visits left
          c.loop-last-test.true c.previous-last.ensures.same i (l.invariant.0 xs rest visits left s w),
      l.invariant.1,
    )

pub returns-clause-waiting : goal.returns-clause-waiting
returns-clause-waiting c = λ xs rest visits left s w.
    let l = c.loop-last in
    part_all c.args.log.now.entries.items c.args.from l.last (reverse l.self.waiting.items) xs rest visits left c.loop-last-test.false (l.invariant.0 xs rest visits left s w)
