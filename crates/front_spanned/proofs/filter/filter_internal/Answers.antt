use Rattle.front_spanned.specs.Nodes.{view}
use Rattle.front_spanned.proofs.Walks.{answered_alone}
use Rattle.front_spanned.proofs.Meeting.{on_err, stops_at_end}
use Rattle.front_spanned.proofs.filter.filter_internal.Goals as goal

pub returns-clause-appended : goal.returns-clause-appended
returns-clause-appended g c =
    let found = answered_alone _ c.args.f.now c.walk.new.f (view c.args.node) c.new-found.result.items c.walk.new.answers.items c.new-found.ensures.items c.in_ok-walk.ensures.appended in
    (c.walk.new.answers.items, found, c.in_ok-append.ensures.items)

pub returns-in_err-append-clause-interrupted : goal.returns-in_err-append-clause-interrupted
returns-in_err-append-clause-interrupted g c =
    on_err c.from_residual-in_err-append.result (stops_at_end _ _ _ _ _ _ c.in_ok-walk.ensures.appended)
