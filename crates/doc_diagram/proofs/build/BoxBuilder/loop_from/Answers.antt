use Rattle.std.proofs.Common.{◌≡◌, ◌++◌, ◌==◌, [], codes, ap, arith, sym, ◌∙◌}
use Rattle.std.proofs.lemmas.Bool.{cond-false, ne_eqb}
use Rattle.std.proofs.lemmas.List.{append-nil}
use Rattle.std.specs.Fmt.{decimal}
use Rattle.std.specs.HashMap.{get_by_text}
use Rattle.doc_diagram.specs.Marks.{at_least, diagram_marks, text_marks}
use Rattle.doc_diagram.proofs.Walking.{ok_of_added}
use Rattle.doc_diagram.proofs.build.BoxBuilder.loop_from.Goals as goal

pub returns-then-least-eq0 : goal.returns-then-least-eq0
returns-then-least-eq0 c =
    let d = diagram_marks (get_by_text c.args.rules.now) c.args.operand.now in
    ok_of_added _ _ _ _ _ _ _ c.optional_loop.ensures.layout c.optional_loop.ensures.steps
    (append-nil (d ++ []) ∙ ap (λ m. d ++ text_marks (at_least m)) (sym c.if-least-eq0.true)) (omega arith)

pub returns-else-least-eq0 : goal.returns-else-least-eq0
returns-else-least-eq0 c =
    let d = diagram_marks (get_by_text c.args.rules.now) c.args.operand.now in
    ok_of_added _ _ _ _ _ _ _ c.enclose.ensures.layout c.enclose.ensures.steps
    (ap (λ t. d ++ text_marks t) (sym (cond-false (c.args.least == 0) [] (decimal c.args.least ++ codes " times or more") (ne_eqb c.args.least 0 c.if-least-eq0.false)))) (omega arith)
