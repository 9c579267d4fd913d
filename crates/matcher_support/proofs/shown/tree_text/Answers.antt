use Rattle.std.proofs.Common.{◌∙◌, string_bytes}
use Rattle.std.specs.Prelude.{option_map}
use Rattle.matcher_engine.specs.Walks.{visit_of}
use Rattle.matcher_support.proofs.TextOfWalks.{all_lines, all_written, one_more}
use Rattle.matcher_support.proofs.shown.tree_text.Goals as goal

pub visits-preserved : goal.visits-preserved
visits-preserved c =
    let next = rw c.in-Some.is at c.in_ok-visit.ensures in
    one_more c.args.text.now _ (string_bytes c.visits.lines) (string_bytes c.write_visit.new.lines) c.visits.level c.in_ok-level.level (option_map visit_of c.visits.before) _ _ _ next c.visits.invariant c.in_ok-write_visit.ensures c.in_ok-level.ensures

pub returns : goal.returns
returns c = λ rule trees e.
    let last = rw c.in_default.is at c.in_ok-visit.ensures in
    all_written c.args.text.now _ (string_bytes c.visits.lines) c.visits.level (option_map visit_of c.visits.before) _ last c.visits.invariant
    ∙ all_lines rule c.args.text.now trees _ e
