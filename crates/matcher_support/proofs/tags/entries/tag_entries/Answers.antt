use Rattle.std.proofs.Common.{◌∙◌, ap, sym, []}
use Rattle.matcher_support.specs.TagEntries.{Tagging, tagging_of, with_visits}
use Rattle.matcher_support.proofs.Tagging.{one_more, tags_of}
use Rattle.matcher_support.proofs.tags.entries.tag_entries.Goals as goal

pub visits-preserved : goal.visits-preserved
visits-preserved c =
    let next = rw c.in-Some.is at c.in_ok-visit.ensures in
    one_more _ _ _ _ _ _ next c.in_ok-add_visit.ensures c.visits.invariant

pub returns : goal.returns
returns c = λ rule us e.
    let start : Tagging = record { entries = []; open_trees = [] } in
    let last = rw c.in_default.is at c.in_ok-visit.ensures in
    let s = tagging_of c.visits.tagged.items c.visits.tags.items in
    ap (λ k. k.entries) (ap (λ vs. with_visits vs s) (sym last) ∙ (c.visits.invariant ∙ (ap (λ vs. with_visits vs start) e ∙ tags_of rule us)))
