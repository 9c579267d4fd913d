use Rattle.std.proofs.Common.{◌+◌, ◌∙◌, reverse, arith}
use Rattle.front_syntax.specs.TokenEvents.{named_events}
use Rattle.front_syntax.proofs.Writing.{all_ended, all_written, written_at}
use Rattle.front_syntax.proofs.events.write_events.Goals as goal

pub loop-number-preserved : goal.loop-number-preserved
loop-number-preserved c =
    let l = c.loop-number in
    written_at c.args.nodes.now l.number (l.number + 1) _
    (named_events l.events.items) (named_events c.end_trees.new.events.items) (named_events c.start_tree.new.events.items)
    (reverse l.pending.items) (reverse c.end_trees.new.pending.items) (reverse c.start_tree.new.pending.items)
    (omega arith) (omega arith)
    c.in_ok-end_trees.ensures.events c.in_ok-end_trees.ensures.pending c.in_ok-start_tree.ensures.events c.in_ok-start_tree.ensures.pending
    ∙ l.invariant

pub returns : goal.returns
returns c = λ us x.
    let l = c.loop-number in
    all_ended c.args.nodes.now _ l.number (named_events l.events.items) _ (reverse l.pending.items) (omega arith) (omega arith) c.in_ok-end_trees-2.ensures.events
    ∙ (l.invariant ∙ all_written c.args.nodes.now us x)
