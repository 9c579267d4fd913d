use Rattle.std.proofs.Common.{◌≡◌, ◌∙◌, ◌<◌, ◌≤◌, ◌-◌, ℕ, List, [], ap, arith, get_or, length, map, sym}
use Rattle.std.proofs.lemmas.List.{get_or-map, length-map}
use Rattle.matcher_code.specs.Halves.{halved, middle, place_of}
use Rattle.matcher_code.specs.Words.{pair_in}
use Rattle.matcher_code.proofs.Searching.{found_there, missed_after, missed_before, missed_behind, no_turns, turn_down, turn_up}
use Rattle.matcher_code.proofs.halves.find_range.Goals.{else-start-c-via-else-start-c, else-start-c-via-then-start-c+else-c-end}
use Rattle.matcher_code.proofs.halves.find_range.Goals as goal

pub loop-low-preserved-then-end-c : goal.loop-low-preserved-then-end-c
loop-low-preserved-then-end-c c =
    let l = c.loop-low in
    let rs = map pair_in c.args.ranges.now in
    let m = middle l.low l.high in
    let h : l.low < l.high = omega (arith, c.loop-low-test.true) in
    let k : m < length c.args.ranges.now = omega (arith, h, l.invariant.within) in
    let e : (get_or rs m (0, 0)).1 ≡ c.pair_in-end.result.1 =
    ap (λ r. r.1) (get_or-map pair_in c.args.ranges.now m [] (0, 0) k ∙ sym c.pair_in-end.ensures) in
    record {
      order = omega (arith, h);
      within = l.invariant.within;
      least = omega (arith, l.invariant.least, c.if-end-c.true);
      most = l.invariant.most;
      rest = λ d p q.
          turn_up rs d l.low l.high h (omega (arith, e, p)) ∙ l.invariant.rest d (omega (arith, p)) q;
    }

pub loop-low-preserved : goal.loop-low-preserved
loop-low-preserved c =
    let l = c.loop-low in
    let rs = map pair_in c.args.ranges.now in
    let m = middle l.low l.high in
    let h : l.low < l.high = omega (arith, c.loop-low-test.true) in
    let k : m < length c.args.ranges.now = omega (arith, h, l.invariant.within) in
    let e : (get_or rs m (0, 0)).1 ≡ c.pair_in-end.result.1 =
    ap (λ r. r.1) (get_or-map pair_in c.args.ranges.now m [] (0, 0) k ∙ sym c.pair_in-end.ensures) in
    record {
      order = omega arith;
      within = omega (arith, k);
      least = l.invariant.least;
      most = omega (arith, l.invariant.most, c.if-end-c.false);
      rest = λ d p q.
          turn_down rs d l.low l.high h (omega (arith, e, q)) ∙ l.invariant.rest d p (omega (arith, q));
    }

-- where halving has come to a place, that is the place for each character
ended : (rs : List (ℕ × ℕ)) (low high d : ℕ) → low ≤ high → high ≤ low → halved rs d (high - low) low high ≡ place_of rs d
    → place_of rs d ≡ low
ended rs low high d h k e = sym e ∙ no_turns rs d low high k

pub returns-then-c-end-clause-all : goal.returns-then-c-end-clause-all
returns-then-c-end-clause-all c = λ d p q.
    let l = c.loop-low in
    let all = c.args.ranges.now in
    let rs = map pair_in all in
    let known = c.in-Some.ensures.lookup.3 in
    let k : l.low < length all = known.0 in
    let here : get_or rs l.low (0, 0) ≡ c.pair_in-start.result =
    get_or-map pair_in all l.low [] (0, 0) k ∙ (ap pair_in (sym (known.1 [])) ∙ sym c.pair_in-start.ensures) in
    let e : place_of rs d ≡ l.low =
    ended rs l.low l.high d l.invariant.order (omega (arith, c.loop-low-test.false))
    (l.invariant.rest d (omega (arith, p, c.larger.ensures)) (omega (arith, q, c.smaller.ensures))) in
    found_there rs d l.low e (omega (arith, k, length-map all pair_in))
    (omega (arith, ap (λ r. r.0) here, p, c.larger.ensures))
    (omega (arith, ap (λ r. r.1) here, q, c.smaller.ensures))

pub returns-else-start-c-clause-none : goal.returns-else-start-c-clause-none
returns-else-start-c-clause-none c = λ none.
    let l = c.loop-low in
    let all = c.args.ranges.now in
    let rs = map pair_in all in
    let known = c.in-Some.ensures.lookup.3 in
    let k : l.low < length all = known.0 in
    let here : get_or rs l.low (0, 0) ≡ c.pair_in-start.result =
    get_or-map pair_in all l.low [] (0, 0) k ∙ (ap pair_in (sym (known.1 [])) ∙ sym c.pair_in-start.ensures) in
    let e : place_of rs c.args.c ≡ l.low =
    ended rs l.low l.high c.args.c l.invariant.order (omega (arith, c.loop-low-test.false))
    (l.invariant.rest c.args.c l.invariant.least l.invariant.most) in
    elim c.else-start-c.branch [
      | else-start-c-via-then-start-c+else-c-end w ↦
          missed_after rs c.args.c l.low e (omega (arith, ap (λ r. r.1) here, w.if-c-end.false))
      | else-start-c-via-else-start-c w ↦
          missed_before rs c.args.c l.low e (omega (arith, ap (λ r. r.0) here, w.if-start-c.false))
    ]

pub returns-in-None-clause-none : goal.returns-in-None-clause-none
returns-in-None-clause-none c = λ none.
    let l = c.loop-low in
    let all = c.args.ranges.now in
    let rs = map pair_in all in
    missed_behind rs c.args.c l.low
    (ended rs l.low l.high c.args.c l.invariant.order (omega (arith, c.loop-low-test.false))
    (l.invariant.rest c.args.c l.invariant.least l.invariant.most))
    (omega (arith, c.in-None.ensures.lookup.3, length-map all pair_in))
