use Rattle.std.proofs.Common.{◌≡◌, arith, false}
use Rattle.std.proofs.lemmas.Grind.{common_steps}
use Rattle.matcher_sets.specs.Forms.{said}
use Rattle.matcher_sets.specs.Modes.{mode_of}
use Rattle.matcher_sets.proofs.Heading.{first_first_set, if_made, once_first_set, restore_first_set, tag_first_set}
use Rattle.matcher_sets.proofs.first_sets.+form_first_sets.Goals as goal

pub parts_first_set-returns-then-not-first : goal.parts_first_set-returns-then-not-first
parts_first_set-returns-then-not-first t c =
    let p = c.args.program.now in
    let q : c.in-Some.first.empty ≡ false = grind (arith, common_steps) in
    first_first_set p (mode_of c.args.mode) (said p c.args.left.now) (said p c.args.right.now) c.in-Some.first q (rw c.in-Some.is at c.in_ok-made.ensures)

pub repeated_first_set-returns-else-first_set : goal.repeated_first_set-returns-else-first_set
repeated_first_set-returns-else-first_set t c =
    let p = c.args.program.now in
    let q : c.in-Some.first_set.empty ≡ false = grind (arith, common_steps) in
    once_first_set p (mode_of c.args.mode) (said p c.args.body.now) (said p c.args.body.now) c.in-Some.first_set q (rw c.in-Some.is at c.in_ok-made.ensures)

pub wrapped_first_set-returns-clause-tag : goal.wrapped_first_set-returns-clause-tag
wrapped_first_set-returns-clause-tag t c =
    let p = c.args.program.now in
    let e = said p c.args.body.now in
    if_made c.form_first_set.result (λ first_set x tag. tag_first_set p (mode_of c.args.mode) e e first_set tag x) c.form_first_set.ensures

pub wrapped_first_set-returns-clause-restore : goal.wrapped_first_set-returns-clause-restore
wrapped_first_set-returns-clause-restore t c =
    let p = c.args.program.now in
    let e = said p c.args.body.now in
    if_made c.form_first_set.result (λ first_set x. restore_first_set p (mode_of c.args.mode) e e first_set x) c.form_first_set.ensures
