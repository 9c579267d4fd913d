use Rattle.std.proofs.Common.{refl}
use Rattle.std.proofs.lemmas.Result.{on_ok_weaker}
use Rattle.doc_diagram.proofs.Strokes.{begun, ended, one_stroke}
use Rattle.doc_diagram.specs.Rails.{Across, point}
use Rattle.doc_diagram.proofs.rails.draw_level.Goals as goal

pub returns-clause-rail : goal.returns-clause-rail
returns-clause-rail c =
    let a0 = begun (point c.args.left c.args.y) _ _ c.in_ok-begin.ensures.tokens in
    let a1 = one_stroke _ _ _ _ _ (Across _) a0 c.in_ok-command.ensures in
    on_ok_weaker c.end.result (λ e. λ h. ended _ _ _ _ _ _ a1 e refl) c.end.ensures.tokens
