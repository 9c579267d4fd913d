use Rattle.std.proofs.Common.{ap, arith}
use Rattle.std.proofs.lemmas.Result.{on_ok_weaker}
use Rattle.doc_diagram.proofs.Strokes.{begun, ended, one_stroke}
use Rattle.doc_diagram.specs.Rails.{Across, Along, Curve, point}
use Rattle.doc_diagram.proofs.rails.draw_return.Goals as goal

pub returns-clause-rail : goal.returns-clause-rail
returns-clause-rail c =
    let a0 = begun c.args.from _ _ c.in_ok-begin.ensures.tokens in
    let a1 = one_stroke _ _ _ _ _ (Curve (point _ _) (point _ _)) a0 c.in_ok-turn_down.ensures.tokens in
    let a2 = one_stroke _ _ _ _ _ (Along _) a1 c.in_ok-command.ensures in
    let a3 = one_stroke _ _ _ _ _ (Curve (point _ _) (point _ _)) a2 c.in_ok-turn_left.ensures.tokens in
    let a4 = one_stroke _ _ _ _ _ (Across _) a3 c.in_ok-command-2.ensures in
    let a5 = one_stroke _ _ _ _ _ (Curve (point _ _) (point _ _)) a4 c.in_ok-turn_down-2.ensures.tokens in
    let a6 = one_stroke _ _ _ _ _ (Along _) a5 c.in_ok-command-3.ensures in
    let a7 = one_stroke _ _ _ _ _ (Curve (point _ _) (point _ _)) a6 c.in_ok-turn_right.ensures.tokens in
    on_ok_weaker c.end.result (λ e. λ h. ended _ _ _ _ _ _ a7 e (ap (λ x. point x c.args.to.y) (omega arith))) c.end.ensures.tokens
