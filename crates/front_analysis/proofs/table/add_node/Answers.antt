use Rattle.std.proofs.Common.{◌≡◌, ◌∙◌, ◌-◌, ap, subst, rules, length}
use Rattle.front_spanned.specs.Nodes.{view, piece_of}
use Rattle.front_analysis.specs.Layout.{start_at}
use Rattle.front_analysis.specs.Shapes.{IsMadeOf}
use Rattle.front_analysis.specs.declared.shapes.Shape.TheVariants as is
use Rattle.front_analysis.specs.declared.table.Node.{Node}
use Rattle.front_analysis.proofs.LayoutLemmas.{put_leaf, put_one, put_two}
use Rattle.front_analysis.proofs.RuleNumbers.{numbers_push}
use Rattle.front_analysis.proofs.table.add_node.Goals as goal
use Rattle.front_analysis.proofs.table.add_node.Goals.{in-Nothing, in-Inside, in-Both}

pub returns-clause-nodes : goal.returns-clause-nodes
returns-clause-nodes c = λ done h b.
    let expr = c.args.expr.now in
    let t = piece_of c.args.span.now in
    let old = c.args.nodes.now.items in
    let new = c.push.new.self.items in
    let own = c.len-own.result in
    let placed = c.match-destructure.placed in
    let n : Node = record { expr = c.args.expr; span = c.args.span; shape = placed.shape; start = placed.start; rule = c.args.rule } in
    let is_own : own ≡ length old = search rules in
    let pushed = c.in_ok-push.ensures.items in
    elim c.match-destructure.branch [
      | in-Nothing w ↦
          let m = subst (IsMadeOf expr) w.in-Nothing.is c.destructure.ensures in
          put_leaf done old new own h is_own n pushed t m.0 m.1 (m.2 t) (ap (λ p. p.shape) w.placed-is) (ap (λ p. p.start) w.placed-is)
      | in-Inside w ↦
          let m = subst (IsMadeOf expr) w.in-Inside.is c.destructure.ensures in
          let shape = ap (λ p. p.shape) w.placed-is ∙ (w.shape_unary-placed.ensures.shape ∙ ap (λ u. is.One u (own - 1)) m.2) in
          let start = ap (λ p. p.start) w.placed-is ∙ (w.shape_unary-placed.ensures.start ∙ ap (λ z. start_at z (own - 1)) w.as_slice.ensures.value) in
          put_one done old new own h is_own n pushed t m.0 (view w.in-Inside.field-1.now) b (m.1 t) shape start
      | in-Both w ↦
          let m = subst (IsMadeOf expr) w.in-Both.is c.destructure.ensures in
          let same = w.as_slice-in-Both.ensures.value in
          let shape = ap (λ p. p.shape) w.placed-is ∙ (w.shape_binary-placed.ensures.shape
          ∙ (ap (λ z. is.Two w.in-Both.joint (start_at z (own - 1) - 1) (own - 1)) same ∙ ap (λ u. is.Two u (start_at old (own - 1) - 1) (own - 1)) m.2)) in
          let start = ap (λ p. p.start) w.placed-is ∙ (w.shape_binary-placed.ensures.start ∙ ap (λ z. start_at z (start_at z (own - 1) - 1)) same) in
          put_two done old new own h is_own n pushed t m.0 (view w.in-Both.field-1.now) (view w.in-Both.field-2.now) b (m.1 t) shape start
    ]

pub returns-clause-rules : goal.returns-clause-rules
returns-clause-rules c =
    let placed = c.match-destructure.placed in
    let n : Node = record { expr = c.args.expr; span = c.args.span; shape = placed.shape; start = placed.start; rule = c.args.rule } in
    numbers_push c.args.nodes.now.items c.push.new.self.items n c.in_ok-push.ensures.items
