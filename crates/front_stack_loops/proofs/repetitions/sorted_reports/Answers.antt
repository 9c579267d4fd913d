use Rattle.std.proofs.Common.{map, subst}
use Rattle.front_spanned.specs.Nodes.{piece_of, rule_views}
use Rattle.front_stack_loops.specs.Certain.{AreReports}
use Rattle.front_stack_loops.proofs.repetitions.sorted_reports.Goals as goal

pub returns : goal.returns
returns c =
    let spans = map piece_of c.in_ok-found.found.items in
    record {
      exact = subst (λ rules. AreReports (rule_views rules) (map piece_of c.sort_spans.new.found.items)) c.in_ok-grammar.ensures.rules
          (record { reports = spans; plain = c.in_ok-found.ensures; sorted = c.in_ok-sort_spans.ensures });
    }
