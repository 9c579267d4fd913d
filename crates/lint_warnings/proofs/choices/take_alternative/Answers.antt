use Rattle.std.proofs.Common.{refl, length, [], ◌∷◌, ◌++◌, ap}
use Rattle.front_spanned.specs.Nodes.{view}
use Rattle.front_spanned.specs.Walk.{waiting}
use Rattle.lint_warnings.specs.Choices.{calls, literals}
use Rattle.lint_warnings.specs.Lists.{left_over}
use Rattle.lint_warnings.proofs.Steps.{fewer, only_choice, sides_fewer, sides_left, spans_along, spans_more}
use Rattle.lint_warnings.proofs.choices.take_alternative.Goals as goal

pub returns-in_ok-push_both-in-Choice-clause-collected : goal.returns-in_ok-push_both-in-Choice-clause-collected
returns-in_ok-push_both-in-Choice-clause-collected c = λ all earlier before.
    let e = c.in-Choice.ensures in
    (earlier, spans_along all earlier _ _ _ _ _ (sides_left e.0 (view c.args.node.now) _ _ _ c.in-Choice.left c.in-Choice.right e.1 refl c.in_ok-push_both-in-Choice.ensures) before)

pub returns-in_ok-push_both-in-Choice-clause-less : goal.returns-in_ok-push_both-in-Choice-clause-less
returns-in_ok-push_both-in-Choice-clause-less c =
    let e = c.in-Choice.ensures in
    sides_fewer e.0 (view c.args.node.now) _ _ _ c.in-Choice.left c.in-Choice.right e.1 refl c.in_ok-push_both-in-Choice.ensures

pub returns-in_ok-add_own_call-in_default : goal.returns-in_ok-add_own_call-in_default
returns-in_ok-add_own_call-in_default c =
    let v = view c.args.node.now in
    let one = only_choice v c.operands_of.result c.operands_of.ensures c.in_default.not-Choice in
    record {
      collected = λ all earlier before.
          (earlier ++ v ∷ [], spans_more all earlier (left_over c.args.stack.now.items) v _ _ _ _ _ _ (spans_along all earlier _ _ _ _ _ (ap (λ l. l ++ left_over c.args.stack.now.items) one) before) (c.in_ok-add_where_begun-in_default.ensures (literals earlier) (calls earlier)) (c.in_ok-add_literal-in_default.ensures (literals earlier)) (c.in_ok-add_own_call-in_default.ensures (calls earlier)));
      less = fewer v (length (waiting c.args.stack.now.items));
    }
