use Rattle.std.proofs.Common.{◌≡◌, ◌<◌, Some, true, sym, subst, rules, length, slice_get, get_or}
use Rattle.std.proofs.Math.ListN.{set}
use Rattle.std.proofs.lemmas.Option.{slice_get-get_or}
use Rattle.front_stack_loops.specs.Leading.{AreLed, IsOnward, turned}
use Rattle.base_graphs.specs.declared.links.Link.{Link}
use Rattle.front_stack_loops.proofs.GroupLemmas.{one_led}
use Rattle.front_stack_loops.proofs.groups.go_on.Goals as goal

pub returns-then-leads_on : goal.returns-then-leads_on
returns-then-leads_on c =
    let ls = c.args.ways.links.now in
    let ns = c.args.nodes.now in
    let roots = c.args.roots.now in
    let leaders = c.args.ways.leaders.now in
    let down = c.args.ways.down in
    let flags = c.args.flags.now.items in
    let none : Link = record { source = 0; target = 0 } in
    let l = get_or ls c.args.place none in
    let less : c.args.place < length ls = search rules in
    let at : slice_get ls c.args.place ≡ Some l = slice_get-get_or ls c.args.place none less in
    let is : c.orient-link.result ≡ turned down l = c.orient-link.ensures in
    let on = subst (λ z. IsOnward leaders z c.orient-link.result.source c.orient-link.result.target) c.as_slice.ensures.value (c.leads_on.ensures c.if-leads_on.true) in
    subst (λ m. AreLed ns roots down leaders (set flags m.target true)) (sym is)
    (one_led ns roots down leaders flags l c.requires.flags (c.requires.links c.args.place l at) (subst (λ m. IsOnward leaders flags m.source m.target) is on))
