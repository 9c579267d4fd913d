use Rattle.std.proofs.Common.{◌≡◌, ◌∙◌, ap, ap₂, arith, subst, sym, true}
use Rattle.std.proofs.lemmas.Grind.{common_steps}
use Rattle.base_language.specs.Language.Expression.{Choice}
use Rattle.matcher_sets.specs.Differences.{MatchesOne}
use Rattle.matcher_sets.specs.Forms.{IsBoundIn, said}
use Rattle.matcher_sets.proofs.Choosing.{IsRest, bound_sides, last_one, no_rest, one_less_of_two}
use Rattle.matcher_sets.proofs.Excluding.{matches_joined}
use Rattle.matcher_sets.proofs.difference.choice_ranges.Goals as goal

pub alternatives-init : goal.alternatives-init
alternatives-init c = record {
  bound = c.requires.bound;
  rests = λ classes fits.
      subst (λ xs. IsRest (MatchesOne c.args.program.now classes) c.args.form.now c.args.form.now xs) (sym c.new-ranges.ensures.items) (no_rest (MatchesOne c.args.program.now classes) c.args.form.now);
}

pub push_set-requires : goal.push_set-requires
push_set-requires c =
    let p = c.args.program.now in
    let b = subst (λ f. IsBoundIn p f) c.in-Choice.is c.alternatives.invariant.bound in
    let sides = c.alternative_and_rest in
    record {
      bound = (bound_sides p c.deref.result.now c.deref-in-Choice.result.now sides.result.0.now sides.result.1.now sides.ensures
          (subst (λ f. IsBoundIn p f) (sym c.deref.ensures) b.0) (subst (λ f. IsBoundIn p f) (sym c.deref-in-Choice.ensures) b.1)).0;
    }

pub alternatives-preserved : goal.alternatives-preserved
alternatives-preserved c =
    let p = c.args.program.now in
    let b = subst (λ f. IsBoundIn p f) c.in-Choice.is c.alternatives.invariant.bound in
    let sides = c.alternative_and_rest in
    let t : c.in_ok-push_set.field-0 ≡ true = grind (arith, common_steps) in
    record {
      bound = (bound_sides p c.deref.result.now c.deref-in-Choice.result.now sides.result.0.now sides.result.1.now sides.ensures
          (subst (λ f. IsBoundIn p f) (sym c.deref.ensures) b.0) (subst (λ f. IsBoundIn p f) (sym c.deref-in-Choice.ensures) b.1)).1;
      rests = λ classes fits.
          one_less_of_two p (MatchesOne p classes) c.args.form.now c.alternatives.rest.now c.alternatives.ranges.items c.push_set.new.ranges.items (c.alternatives.invariant.rests classes fits)
          (matches_joined p classes) c.deref.result.now c.deref-in-Choice.result.now sides.result.0.now sides.result.1.now sides.ensures (c.in_ok-push_set.ensures t classes fits)
          (ap (said p) c.in-Choice.is ∙ ap₂ (λ a e. Choice (said p a) (said p e)) (sym c.deref.ensures) (sym c.deref-in-Choice.ensures));
    }

pub returns : goal.returns
returns c = λ classes fits.
    let p = c.args.program.now in
    let t : c.in_ok-push_set-2.field-0 ≡ true = grind (arith, common_steps) in
    last_one p (MatchesOne p classes) c.args.form.now c.alternatives.rest.now c.alternatives.ranges.items c.push_set-2.new.ranges.items (c.alternatives.invariant.rests classes fits)
    (c.in_ok-push_set-2.ensures t classes fits)
