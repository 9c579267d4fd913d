use Rattle.std.proofs.Common.{◌≡◌, arith, get_or}
use Rattle.matcher_sets.proofs.Starting.{more_starts, none_start, some_empty}
use Rattle.matcher_sets.proofs.texts.first_characters.Goals as goal

pub loop-text-init : goal.loop-text-init
loop-text-init c = none_start _

pub loop-text-preserved : goal.loop-text-preserved
loop-text-preserved c =
    let texts = c.args.texts.now.items in
    let i = c.loop-text.text-index in
    let here : get_or texts i c.text-item.result ≡ c.text-item.result = cc in
    more_starts texts i c.text-item.result c.loop-text.ranges.items c.push_range.new.ranges.items c.in-Some.c (omega arith) here
    c.loop-text.invariant (rw c.as_str.ensures.value at c.in-Some.ensures.some) c.in_ok-push_range.ensures

pub returns-in-None-clause-empty : goal.returns-in-None-clause-empty
returns-in-None-clause-empty c =
    let texts = c.args.texts.now.items in
    let i = c.loop-text.text-index in
    let here : get_or texts i c.text-item.result ≡ c.text-item.result = cc in
    some_empty texts i c.text-item.result (omega arith) here (rw c.as_str.ensures.value at c.in-None.ensures.none)
