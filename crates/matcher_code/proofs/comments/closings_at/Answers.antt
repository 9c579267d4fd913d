use Rattle.std.proofs.Common.{◌≡◌, ◌∙◌, ◌≤◌, ◌+◌, ◌%◌, [], arith, drop, get_or, length, nat_eq, sym}
use Rattle.std.proofs.lemmas.List.{length-drop}
use Rattle.base_language.specs.Language.Matching.{begins}
use Rattle.matcher_code.specs.Within.{no_closings}
use Rattle.matcher_code.proofs.Closings.{few, inner}
use Rattle.matcher_code.proofs.CommentPositions.{around_last, around_nested, around_neither, around_other, found, left_open, missed, not_begun}
use Rattle.matcher_code.proofs.comments.closings_at.Goals as goal
use Rattle.matcher_code.proofs.comments.closings_at.Goals.{in-Some+else-inner-gt0, in_default}

pub returns-then-inner-gt0 : goal.returns-then-inner-gt0
returns-then-inner-gt0 c =
    let opening = c.args.opening.now in
    let text = c.args.text.now in
    let at = c.args.at in
    let size = c.in-Some.size in
    let f = found (begins nat_eq opening (drop at text)) (length opening) size c.in-Some.ensures.value in
    let w : at + size ≤ length text = omega (arith, c.in-Some.ensures.within, c.requires.inside) in
    around_nested opening c.args.closing.now text c.requires.opening.0 c.requires.closing.0 c.args.number at size (get_or c.args.behind.now ((at + size) % 256) no_closings) f.1 f.0 c.if-inner-gt0.true
    (c.requires.known (at + size) (omega (arith, f.1, c.requires.opening.0)) (omega (arith, f.1, c.requires.opening.1)) w)

pub overflow_add-count : goal.overflow_add-count
overflow_add-count c =
    let closing = c.args.closing.now in
    let text = c.args.text.now in
    let at = c.args.at in
    let size = c.in-Some-match_bytes.size in
    let f = found (begins nat_eq closing (drop at text)) (length closing) size c.in-Some-match_bytes.ensures.value in
    let w : at + size ≤ length text = omega (arith, c.in-Some-match_bytes.ensures.within, c.requires.inside) in
    let x = c.requires.known (at + size) (omega (arith, f.1, c.requires.closing.0)) (omega (arith, f.1, c.requires.closing.1)) w in
    let n = few c.args.opening.now closing c.requires.opening.0 c.requires.closing.0 (length (drop (at + size) text)) (drop (at + size) text) (omega arith) in
    omega (arith, x.all, n, length-drop (at + size) text, w, f.1, c.requires.closing.0)

pub returns-then-count-number : goal.returns-then-count-number
returns-then-count-number c =
    let opening = c.args.opening.now in
    let closing = c.args.closing.now in
    let text = c.args.text.now in
    let at = c.args.at in
    let none : inner opening closing (drop at text) ≡ [] =
    elim c.match-match_bytes.branch [
      | in-Some+else-inner-gt0 v ↦
          let size = v.in-Some.size in
          let f = found (begins nat_eq opening (drop at text)) (length opening) size v.in-Some.ensures.value in
          let w : at + size ≤ length text = omega (arith, v.in-Some.ensures.within, c.requires.inside) in
          left_open opening closing text at size (get_or c.args.behind.now ((at + size) % 256) no_closings) f.1 (omega (arith, v.if-inner-gt0.false))
          (c.requires.known (at + size) (omega (arith, f.1, c.requires.opening.0)) (omega (arith, f.1, c.requires.opening.1)) w)
      | in_default v ↦ not_begun opening closing text at (missed (begins nat_eq opening (drop at text)) (length opening) (sym c.match_bytes.ensures.value ∙ v.in_default.is))
    ] in
    let size = c.in-Some-match_bytes.size in
    let f = found (begins nat_eq closing (drop at text)) (length closing) size c.in-Some-match_bytes.ensures.value in
    let w : at + size ≤ length text = omega (arith, c.in-Some-match_bytes.ensures.within, c.requires.inside) in
    around_last opening closing text c.requires.opening.0 c.requires.closing.0 c.args.number at size (get_or c.args.behind.now ((at + size) % 256) no_closings) f.1 none f.0 w c.if-count-number.true
    (c.requires.known (at + size) (omega (arith, f.1, c.requires.closing.0)) (omega (arith, f.1, c.requires.closing.1)) w)

pub returns-else-count-number : goal.returns-else-count-number
returns-else-count-number c =
    let opening = c.args.opening.now in
    let closing = c.args.closing.now in
    let text = c.args.text.now in
    let at = c.args.at in
    let none : inner opening closing (drop at text) ≡ [] =
    elim c.match-match_bytes.branch [
      | in-Some+else-inner-gt0 v ↦
          let size = v.in-Some.size in
          let f = found (begins nat_eq opening (drop at text)) (length opening) size v.in-Some.ensures.value in
          let w : at + size ≤ length text = omega (arith, v.in-Some.ensures.within, c.requires.inside) in
          left_open opening closing text at size (get_or c.args.behind.now ((at + size) % 256) no_closings) f.1 (omega (arith, v.if-inner-gt0.false))
          (c.requires.known (at + size) (omega (arith, f.1, c.requires.opening.0)) (omega (arith, f.1, c.requires.opening.1)) w)
      | in_default v ↦ not_begun opening closing text at (missed (begins nat_eq opening (drop at text)) (length opening) (sym c.match_bytes.ensures.value ∙ v.in_default.is))
    ] in
    let size = c.in-Some-match_bytes.size in
    let f = found (begins nat_eq closing (drop at text)) (length closing) size c.in-Some-match_bytes.ensures.value in
    let w : at + size ≤ length text = omega (arith, c.in-Some-match_bytes.ensures.within, c.requires.inside) in
    around_other opening closing text c.requires.opening.0 c.requires.closing.0 c.args.number at size (get_or c.args.behind.now ((at + size) % 256) no_closings) f.1 none f.0 c.if-count-number.false
    (c.requires.known (at + size) (omega (arith, f.1, c.requires.closing.0)) (omega (arith, f.1, c.requires.closing.1)) w)

pub returns : goal.returns
returns c =
    let opening = c.args.opening.now in
    let closing = c.args.closing.now in
    let text = c.args.text.now in
    let at = c.args.at in
    let none : inner opening closing (drop at text) ≡ [] =
    elim c.match-match_bytes.branch [
      | in-Some+else-inner-gt0 v ↦
          let size = v.in-Some.size in
          let f = found (begins nat_eq opening (drop at text)) (length opening) size v.in-Some.ensures.value in
          let w : at + size ≤ length text = omega (arith, v.in-Some.ensures.within, c.requires.inside) in
          left_open opening closing text at size (get_or c.args.behind.now ((at + size) % 256) no_closings) f.1 (omega (arith, v.if-inner-gt0.false))
          (c.requires.known (at + size) (omega (arith, f.1, c.requires.opening.0)) (omega (arith, f.1, c.requires.opening.1)) w)
      | in_default v ↦ not_begun opening closing text at (missed (begins nat_eq opening (drop at text)) (length opening) (sym c.match_bytes.ensures.value ∙ v.in_default.is))
    ] in
    let e = missed (begins nat_eq closing (drop at text)) (length closing) (sym c.match_bytes-2.ensures.value ∙ c.in_default-match_bytes.is) in
    around_neither opening closing text c.requires.opening.0 c.requires.closing.0 c.args.number at (get_or c.args.behind.now ((at + 1) % 256) no_closings) none e
    (c.requires.known (at + 1) (omega arith) (omega arith) (omega (arith, c.requires.inside)))
