use Rattle.std.proofs.Common.{◌∙◌, ◌++◌, ap, append-nil, false, map, sym, true}
use Rattle.lint_patterns.proofs.Known.{known_more, known_still, long_uncompared, missing_if_new, short_compared, there_if_old}
use Rattle.lint_patterns.proofs.AlternativeStacks.{push_piece, some_if}
use Rattle.front_spanned.specs.Erasure.{without_spans}
use Rattle.front_spanned.specs.Nodes.{piece_of, view}
use Rattle.lint_patterns.proofs.alternatives.add_where_repeated.Goals as goal

pub returns-in_ok-push-clause-spans : goal.returns-in_ok-push-clause-spans
returns-in_ok-push-clause-spans c = λ earlier known.
    let x = view c.args.alternative.now in
    let e = without_spans x in
    let has = rw c.in-Some.is at c.in_ok-key.ensures in
    let compared = short_compared e (sym c.is_plain.ensures ∙ c.if-is_plain.false) has.1 in
    let there = there_if_old earlier e c.args.seen.now c.in-Some.key c.in_ok-is_new.is_new known has.0 compared c.in_ok-is_new.ensures.added c.if-not-is_new.true in
    ap (map piece_of) c.in_ok-push.ensures.items
    ∙ (push_piece c.args.found.now.items c.args.alternative.now ∙ ap (λ l. map piece_of c.args.found.now.items ++ l) (sym (some_if earlier x true compared there)))

pub returns-in_ok-push-clause-known : goal.returns-in_ok-push-clause-known
returns-in_ok-push-clause-known c = λ earlier known.
    let has = rw c.in-Some.is at c.in_ok-key.ensures in
    known_more earlier (view c.args.alternative.now) c.args.seen.now c.insert.new.self c.in-Some.key has.0 c.in_ok-is_new.ensures.updates known

pub returns-else-not-is_new-clause-spans : goal.returns-else-not-is_new-clause-spans
returns-else-not-is_new-clause-spans c = λ earlier known.
    let x = view c.args.alternative.now in
    let e = without_spans x in
    let has = rw c.in-Some.is at c.in_ok-key.ensures in
    let compared = short_compared e (sym c.is_plain.ensures ∙ c.if-is_plain.false) has.1 in
    let missing = missing_if_new earlier e c.args.seen.now c.in-Some.key c.in_ok-is_new.is_new known has.0 compared c.in_ok-is_new.ensures.added c.if-not-is_new.false in
    sym (append-nil (map piece_of c.args.found.now.items)) ∙ ap (λ l. map piece_of c.args.found.now.items ++ l) (sym (some_if earlier x false compared missing))

pub returns-else-not-is_new-clause-known : goal.returns-else-not-is_new-clause-known
returns-else-not-is_new-clause-known c = λ earlier known.
    let has = rw c.in-Some.is at c.in_ok-key.ensures in
    known_more earlier (view c.args.alternative.now) c.args.seen.now c.insert.new.self c.in-Some.key has.0 c.in_ok-is_new.ensures.updates known

pub returns-in_default-clause-known : goal.returns-in_default-clause-known
returns-in_default-clause-known c = λ earlier known.
    let x = view c.args.alternative.now in
    known_still earlier x c.args.seen.now (long_uncompared (without_spans x) (rw c.in_default.is at c.in_ok-key.ensures)) known
