use Rattle.std.proofs.Common.{◌∙◌, ap, string_bytes}
use Rattle.matcher_support.specs.Lines.{flat}
use Rattle.matcher_support.proofs.LinesOfWalks.{all_lines, all_written, one_more}
use Rattle.matcher_support.proofs.lines.tree_lines.Goals as goal

pub visits-preserved : goal.visits-preserved
visits-preserved c =
    let next = rw c.in-Some.is at c.in_ok-visit.ensures in
    one_more _ (string_bytes c.visits.lines) (string_bytes c.write_visit.new.lines) _ _ _ next c.visits.invariant c.in_ok-write_visit.ensures

pub returns : goal.returns
returns c = λ rule trees e.
    let last = rw c.in_default.is at c.in_ok-visit.ensures in
    all_written _ (string_bytes c.visits.lines) _ last c.visits.invariant ∙ (ap flat e ∙ all_lines rule trees)
