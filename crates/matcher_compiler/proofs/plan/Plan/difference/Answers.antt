use Rattle.matcher_compiler.proofs.plan.Plan.difference.Goals as goal

pub returns-clause-means : goal.returns-clause-means
returns-clause-means c = λ p code laid m. record {
  ranges = c.in_ok-rest.rest.items;
  is = c.in_ok-set.ensures.means p code laid m;
  covers = c.in_ok-rest.ensures;
}
