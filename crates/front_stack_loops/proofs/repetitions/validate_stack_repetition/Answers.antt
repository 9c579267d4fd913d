use Rattle.std.proofs.Common.{map, subst}
use Rattle.std.proofs.lemmas.Result.{IfOk-weaker}
use Rattle.base_language.specs.Pieces.Saying.{AreErrorsFor}
use Rattle.front_spanned.specs.Nodes.{piece_of, rule_views}
use Rattle.front_stack_loops.specs.Certain.{AreReports, complaint_at}
use Rattle.front_stack_loops.proofs.repetitions.validate_stack_repetition.Goals as goal

pub returns-clause-exact : goal.returns-clause-exact
returns-clause-exact c =
    IfOk-weaker c.errors_at.result _ _ (λ errors told. record {
      spans = map piece_of c.in_ok-found.found.items;
      found = subst (λ z. AreReports (rule_views z) (map piece_of c.in_ok-found.found.items)) c.as_slice.ensures.value c.in_ok-found.ensures.exact;
      told = subst (λ z. AreErrorsFor (map complaint_at (map piece_of z)) errors.items) c.as_slice-2.ensures.value told;
    }) c.errors_at.ensures.told
