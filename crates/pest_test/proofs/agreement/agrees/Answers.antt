use Rattle.std.proofs.Common.{◌∙◌, length, refl, subst, sym, true≢false}
use Rattle.std.proofs.lemmas.Bool.{eqb-true}
use Rattle.std.proofs.lemmas.List.{nil_from_length}
use Rattle.pest_test.specs.Walking.{FollowAll}
use Rattle.pest_test.specs.Walking.FollowAll.{more}
use Rattle.pest_test.proofs.Soundness.{all_agree, all_followed, outside}
use Rattle.pest_test.proofs.agreement.agrees.Goals.{then-is_empty, else-is_empty}
use Rattle.pest_test.proofs.agreement.agrees.Goals as goal

pub visits-preserved : goal.visits-preserved
visits-preserved c = λ rest.
    let next = rw c.in-Some.is at c.in_ok-visit.ensures in
    c.visits.invariant (subst (FollowAll c.args.text.now c.visits.progress.rest.now c.visits.progress.is_inside_end) (sym next) (more c.in-Some-follow.ensures rest))

pub returns : goal.returns
returns c = λ rule trees e yes.
    let last = rw c.in_default.is at c.in_ok-visit.ensures in
    elim c.if-is_empty.branch [
      | then-is_empty w ↦
          let empty = nil_from_length c.visits.progress.rest.now (eqb-true (length c.visits.progress.rest.now) 0 (sym c.is_empty.ensures ∙ w.if-is_empty.true)) in
          let out = outside c.visits.progress.is_inside_end (sym w.result-is ∙ yes) in
          let all = c.visits.invariant (all_followed c.args.text.now _ _ _ empty out last) in
          all_agree c.args.text.now rule trees c.args.events.now (subst (FollowAll c.args.text.now c.args.events.now _) e all)
      | else-is_empty w ↦ absurd (true≢false (sym yes ∙ (w.result-is ∙ w.if-is_empty.false)))
    ]
