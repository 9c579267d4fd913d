use Rattle.std.proofs.Common.{◌∙◌, sym, ap, Some, if◌then◌else◌}
use Rattle.front_analysis.proofs.LastNames.{name_step}
use Rattle.front_analysis.proofs.places.rule_number.Goals as goal
use Rattle.front_analysis.proofs.places.rule_number.Goals.{then-eq, else-eq}

pub loop-place-preserved : goal.loop-place-preserved
loop-place-preserved c = name_step c.as_slice-names.result.now c.loop-place.place c.args.name.now _ c.eq.result c.loop-place.found c.if-eq.found c.loop-place-test.true c.eq.ensures c.loop-place.invariant
    (elim c.if-eq.branch [
      | then-eq w ↦ w.found-is ∙ sym (ap (λ x. if x then Some c.loop-place.place else c.loop-place.found) w.if-eq.true)
      | else-eq w ↦ w.found-is ∙ sym (ap (λ x. if x then Some c.loop-place.place else c.loop-place.found) w.if-eq.false)
    ])
