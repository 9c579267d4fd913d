use Rattle.std.proofs.Common.{[], ◌∷◌, ◌++◌, ap, length}
use Rattle.lint_patterns.proofs.AlternativeStacks.{no_choice, spans_along, spans_more}
use Rattle.front_spanned.specs.Nodes.{piece_of, view, view_at}
use Rattle.front_spanned.specs.Walk.{waiting}
use Rattle.lint_warnings.specs.Lists.{left_over}
use Rattle.lint_warnings.proofs.Known.{both_ok, ok_map}
use Rattle.lint_warnings.proofs.Steps.{fewer, sides_fewer, sides_left}
use Rattle.lint_patterns.proofs.alternatives.take_alternative.Goals as goal

pub returns-in_ok-push-in-Choice-2-clause-collected : goal.returns-in_ok-push-in-Choice-2-clause-collected
returns-in_ok-push-in-Choice-2-clause-collected c = λ all earlier before.
    let place = piece_of c.args.node.now.span in (
      earlier,
      spans_along all earlier _ _ _ _ (sides_left place (view c.args.node.now) c.args.stack.now.items c.push.new.self.items c.push-in-Choice.new.self.items c.deref-in-Choice.result c.deref.result
          (rw (c.deref-in-Choice.ensures, c.deref.ensures) (ap (view_at place) c.in-Choice.is)) c.in_ok-push-in-Choice.ensures.items c.in_ok-push-in-Choice-2.ensures.items) before,
    )

pub returns-in_ok-push-in-Choice-2-clause-less : goal.returns-in_ok-push-in-Choice-2-clause-less
returns-in_ok-push-in-Choice-2-clause-less c =
    let place = piece_of c.args.node.now.span in
    sides_fewer place (view c.args.node.now) c.args.stack.now.items c.push.new.self.items c.push-in-Choice.new.self.items c.deref-in-Choice.result c.deref.result
    (rw (c.deref-in-Choice.ensures, c.deref.ensures) (ap (view_at place) c.in-Choice.is)) c.in_ok-push-in-Choice.ensures.items c.in_ok-push-in-Choice-2.ensures.items

pub returns-in_default : goal.returns-in_default
returns-in_default c =
    let v = view c.args.node.now in
    let one = no_choice (piece_of c.args.node.now.span) c.args.node.now.expr c.in_default.not-Choice in
    record {
      collected = both_ok c.add_where_repeated.result _ _ _ c.add_where_repeated.ensures.spans c.add_where_repeated.ensures.known (λ spans known all earlier before.
          let here = spans_along all earlier _ (v ∷ left_over c.args.stack.now.items) _ _ (ap (λ l. l ++ left_over c.args.stack.now.items) one) before in
          (earlier ++ v ∷ [], spans_more all earlier (left_over c.args.stack.now.items) v _ _ _ _ here (spans earlier here.knows) (known earlier here.knows)));
      less = ok_map c.add_where_repeated.result _ _ c.add_where_repeated.ensures.spans (λ spans. fewer v (length (waiting c.args.stack.now.items)));
    }
