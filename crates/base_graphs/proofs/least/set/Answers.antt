use Rattle.std.proofs.Common.{◌≡◌, ◌<◌, arith, true, false, length}
use Rattle.std.proofs.lemmas.List.{length-set}
use Rattle.base_graphs.specs.Least.{is_set_at}
use Rattle.base_graphs.proofs.LeastLemmas.{asked_of, unset_less, sound_one, item_at}
use Rattle.base_graphs.proofs.least.set.Goals as goal

pub returns-clause-sound : goal.returns-clause-sound
returns-clause-sound g c =
    let infers = g.I.Inference.infers c.args.inference.now in
    let items = g.I.Inference.items c.args.inference.now in
    let flags = c.args.flags.now.items in
    let inside : c.args.number < length items = (let e = c.count.ensures in let h = c.if-number-count.false in omega (arith, e, h)) in
    let (item, at) = item_at items c.args.number inside in
    let f : infers (is_set_at flags) item ≡ true = asked_of (λ l. infers (is_set_at l) item) c.as_slice-2.result.now flags c.infers.result true c.as_slice-2.ensures.value (c.infers.ensures item at) c.if-not-infers.false in
    sound_one infers items flags c.args.number item at f (length-set flags c.args.number true) c.requires

pub returns-clause-fewer : goal.returns-clause-fewer
returns-clause-fewer g c = λ _.
    let flags = c.args.flags.now.items in
    let off : is_set_at flags c.args.number ≡ false = asked_of (λ l. is_set_at l c.args.number) c.as_slice.result.now flags c.is_set.result false c.as_slice.ensures.value c.is_set.ensures c.if-is_set.false in
    let a = c.requires.alike in
    let e = c.count.ensures in
    let h = c.if-number-count.false in
    let less = unset_less flags c.args.number (omega (arith, a, e, h)) off in omega arith
