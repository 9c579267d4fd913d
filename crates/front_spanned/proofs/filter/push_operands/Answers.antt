use Rattle.std.proofs.Common.{◌≡◌, inl, inr, ap}
use Rattle.front_spanned.specs.Nodes.{view, view_at, piece_of}
use Rattle.front_spanned.specs.Spanned.{Binary, Seq, Choice, Two}
use Rattle.front_spanned.proofs.Walks.{operands_wait}
use Rattle.front_spanned.proofs.filter.push_operands.Goals as goal

pub returns-in_ok-push-in-Seq-2 : goal.returns-in_ok-push-in-Seq-2
returns-in_ok-push-in-Seq-2 c =
    let place = piece_of c.args.node.now.span in
    let waits = λ (f : Binary) (e : view c.args.node.now ≡ Two place f (view c.in-Seq.left.value) (view c.in-Seq.right.value)).
    operands_wait place f (view c.args.node.now) c.args.stack.now.items c.push.new.self.items c.push-in-Seq.new.self.items c.deref-in-Seq.result c.deref.result
    (rw (c.deref-in-Seq.ensures, c.deref.ensures) e)
    c.in_ok-push-in-Seq.ensures.items c.in_ok-push-in-Seq-2.ensures.items in
    elim c.in-Seq.is [ inl e ↦ waits Seq (ap (view_at place) e) | inr e ↦ waits Choice (ap (view_at place) e) ]
