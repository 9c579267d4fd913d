use Rattle.std.proofs.Common.{MatchOption, [], map, subst, sym}
use Rattle.std.specs.List.{filter}
use Rattle.base_graphs.specs.Least.{is_set_at}
use Rattle.front_spanned.specs.Nodes.{piece_of, rule_views}
use Rattle.front_stack_loops.specs.Certain.{AreFound}
use Rattle.front_stack_loops.specs.Reportable.{IsToVisit}
use Rattle.front_stack_loops.specs.Visiting.{FindsAll}
use Rattle.front_stack_loops.proofs.Whole.{all_plain}
use Rattle.front_stack_loops.proofs.Work.{where_ok}
use Rattle.front_stack_loops.proofs.repetitions.all_reports.Goals as goal

pub returns-in-Some : goal.returns-in-Some
returns-in-Some c =
    let rs = c.args.grammar.now.rules.now in
    let v = c.in-Some.visited in
    let h : IsToVisit rs v = subst (λ o. MatchOption o (AreFound (rule_views rs) []) (λ v. IsToVisit rs v)) c.in-Some.is c.in_ok-to_visit_in.ensures in
    where_ok c.visit_all.result (λ found g. all_plain rs v.table h.table v.reportable.items h.silent found.items
    (subst (λ l. FindsAll v.table (filter (is_set_at l) v.table.roots.items) found.items) c.as_slice.ensures.value g)) c.visit_all.ensures

pub returns-in-None : goal.returns-in-None
returns-in-None c =
    let rs = c.args.grammar.now.rules.now in
    let h : AreFound (rule_views rs) [] = subst (λ o. MatchOption o (AreFound (rule_views rs) []) (λ v. IsToVisit rs v)) c.in-None.is c.in_ok-to_visit_in.ensures in
    subst (λ z. AreFound (rule_views rs) (map piece_of z)) (sym c.new.ensures.items) h

pub visit_all-requires-clause-ordered : goal.visit_all-requires-clause-ordered
visit_all-requires-clause-ordered c =
    let rs = c.args.grammar.now.rules.now in
    let h : IsToVisit rs c.in-Some.visited = subst (λ o. MatchOption o (AreFound (rule_views rs) []) (λ v. IsToVisit rs v)) c.in-Some.is c.in_ok-to_visit_in.ensures in
    h.table.ordered

pub visit_all-requires-clause-inside : goal.visit_all-requires-clause-inside
visit_all-requires-clause-inside c =
    let rs = c.args.grammar.now.rules.now in
    let h : IsToVisit rs c.in-Some.visited = subst (λ o. MatchOption o (AreFound (rule_views rs) []) (λ v. IsToVisit rs v)) c.in-Some.is c.in_ok-to_visit_in.ensures in
    h.table.inside
