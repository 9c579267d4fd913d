use Rattle.std.proofs.Common.{map}
use Rattle.front_spanned.specs.Nodes.{piece_of}
use Rattle.front_stack_loops.proofs.repetitions.sorted_reports_in.Goals as goal

pub returns : goal.returns
returns c = record {
  exact = record {
    reports = map piece_of c.in_ok-found.found.items;
    plain = c.in_ok-found.ensures;
    sorted = c.in_ok-sort_spans.ensures;
  };
}
