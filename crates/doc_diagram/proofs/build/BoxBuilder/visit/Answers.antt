use Rattle.std.proofs.Common.{◌≡◌, ◌++◌, ap, arith, codes, refl, string_bytes, sym, ◌∙◌}
use Rattle.std.proofs.lemmas.List.{append-nil}
use Rattle.std.specs.HashMap.{get_by_text}
use Rattle.base_ast.specs.Ast.{expression_of}
use Rattle.doc_diagram.specs.Labels.{leaf_label, shortened}
use Rattle.doc_diagram.specs.Marks.{diagram_marks, link_marks, text_marks}
use Rattle.doc_diagram.specs.Steps.{size}
use Rattle.doc_diagram.proofs.Walking.{visit_inside, visit_joined, visit_of_drawn, visit_of_run}
use Rattle.doc_diagram.proofs.build.BoxBuilder.visit.Goals as goal

pub returns-in-PosPred : goal.returns-in-PosPred
returns-in-PosPred c =
    let n = get_by_text c.args.rules.now in
    visit_inside _ n _ _ _ _ _ _ _ c.deref-in-PosPred.ensures (ap (diagram_marks n) c.in-PosPred.is) (ap size c.in-PosPred.is) refl (omega arith) c.group.ensures.layout c.group.ensures.steps

pub returns-in-NegPred : goal.returns-in-NegPred
returns-in-NegPred c =
    let n = get_by_text c.args.rules.now in
    visit_inside _ n _ _ _ _ _ _ _ c.deref-in-NegPred.ensures (ap (diagram_marks n) c.in-NegPred.is) (ap size c.in-NegPred.is) refl (omega arith) c.group-in-NegPred.ensures.layout c.group-in-NegPred.ensures.steps

pub returns-in-Push : goal.returns-in-Push
returns-in-Push c =
    let n = get_by_text c.args.rules.now in
    visit_inside _ n _ _ _ _ _ _ _ c.deref-in-Push.ensures (ap (diagram_marks n) c.in-Push.is) (ap size c.in-Push.is) refl (omega arith) c.group-in-Push.ensures.layout c.group-in-Push.ensures.steps

pub returns-in-NodeTag : goal.returns-in-NodeTag
returns-in-NodeTag c =
    let n = get_by_text c.args.rules.now in
    visit_inside _ n _ _ _ _ _ _ _ c.deref-in-NodeTag.ensures (ap (diagram_marks n) c.in-NodeTag.is) (ap size c.in-NodeTag.is) (ap (λ t. diagram_marks n c.deref-in-NodeTag.result.now ++ text_marks (codes "#" ++ shortened t)) c.as_str.ensures.value) (omega arith) c.enclose.ensures.layout c.enclose.ensures.steps

pub returns-in-Opt : goal.returns-in-Opt
returns-in-Opt c =
    let n = get_by_text c.args.rules.now in
    visit_inside _ n _ _ _ _ _ _ _ c.deref-in-Opt.ensures (ap (diagram_marks n) c.in-Opt.is ∙ sym (append-nil _)) (ap size c.in-Opt.is) refl (omega arith) c.optional.ensures.layout c.optional.ensures.steps

pub returns-in-Rep : goal.returns-in-Rep
returns-in-Rep c =
    let n = get_by_text c.args.rules.now in
    visit_inside _ n _ _ _ _ _ _ _ c.deref-in-Rep.ensures (ap (diagram_marks n) c.in-Rep.is ∙ sym (append-nil _)) (ap size c.in-Rep.is) (append-nil _) (omega arith) c.optional_loop.ensures.layout c.optional_loop.ensures.steps

pub returns-in-RepOnce : goal.returns-in-RepOnce
returns-in-RepOnce c =
    let n = get_by_text c.args.rules.now in
    visit_inside _ n _ _ _ _ _ _ _ c.deref-in-RepOnce.ensures (ap (diagram_marks n) c.in-RepOnce.is ∙ sym (append-nil _)) (ap size c.in-RepOnce.is) refl (omega arith) c.enclose-in-RepOnce.ensures.layout c.enclose-in-RepOnce.ensures.steps

pub returns-in-RepExact : goal.returns-in-RepExact
returns-in-RepExact c =
    let n = get_by_text c.args.rules.now in
    visit_inside _ n _ _ _ _ _ _ _ c.deref-in-RepExact.ensures (ap (diagram_marks n) c.in-RepExact.is) (ap size c.in-RepExact.is) refl (omega arith) c.enclose-in-RepExact.ensures.layout c.enclose-in-RepExact.ensures.steps

pub returns-in-RepMax : goal.returns-in-RepMax
returns-in-RepMax c =
    let n = get_by_text c.args.rules.now in
    visit_inside _ n _ _ _ _ _ _ _ c.deref-in-RepMax.ensures (ap (diagram_marks n) c.in-RepMax.is) (ap size c.in-RepMax.is) (append-nil _) (omega arith) c.optional_loop-in-RepMax.ensures.layout c.optional_loop-in-RepMax.ensures.steps

pub returns-in-RepMin : goal.returns-in-RepMin
returns-in-RepMin c =
    let n = get_by_text c.args.rules.now in
    visit_of_run _ n _ _ _ _ _ _ c.deref-in-RepMin.ensures (ap (diagram_marks n) c.in-RepMin.is) (ap size c.in-RepMin.is) c.loop_from.ensures

pub returns-in-RepMinMax : goal.returns-in-RepMinMax
returns-in-RepMinMax c =
    let n = get_by_text c.args.rules.now in
    visit_of_run _ n _ _ _ _ _ _ c.deref-in-RepMinMax.ensures (ap (diagram_marks n) c.in-RepMinMax.is) (ap size c.in-RepMinMax.is) c.loop_between.ensures

pub returns-in-Str : goal.returns-in-Str
returns-in-Str c =
    let n = get_by_text c.args.rules.now in
    visit_of_drawn _ n _ _ c.args.expr.now _ (ap (λ e. text_marks (leaf_label (expression_of e))) c.in-Str.is ∙ sym (ap (diagram_marks n) c.in-Str.is)) c.push_leaf.ensures.boxes c.push_leaf.ensures.steps

pub returns-in-Insens : goal.returns-in-Insens
returns-in-Insens c =
    let n = get_by_text c.args.rules.now in
    visit_of_drawn _ n _ _ c.args.expr.now _ (ap (λ e. text_marks (leaf_label (expression_of e))) c.in-Insens.is ∙ sym (ap (diagram_marks n) c.in-Insens.is)) c.push_leaf-in-Insens.ensures.boxes c.push_leaf-in-Insens.ensures.steps

pub returns-in-Range : goal.returns-in-Range
returns-in-Range c =
    let n = get_by_text c.args.rules.now in
    visit_of_drawn _ n _ _ c.args.expr.now _ (ap (λ e. text_marks (leaf_label (expression_of e))) c.in-Range.is ∙ sym (ap (diagram_marks n) c.in-Range.is)) c.push_leaf-in-Range.ensures.boxes c.push_leaf-in-Range.ensures.steps

pub returns-in-Skip : goal.returns-in-Skip
returns-in-Skip c =
    let n = get_by_text c.args.rules.now in
    visit_of_drawn _ n _ _ c.args.expr.now _ (ap (λ e. text_marks (leaf_label (expression_of e))) c.in-Skip.is ∙ sym (ap (diagram_marks n) c.in-Skip.is)) c.push_leaf-in-Skip.ensures.boxes c.push_leaf-in-Skip.ensures.steps

pub returns-in-PeekSlice : goal.returns-in-PeekSlice
returns-in-PeekSlice c =
    let n = get_by_text c.args.rules.now in
    visit_of_drawn _ n _ _ c.args.expr.now _ (ap (λ e. text_marks (leaf_label (expression_of e))) c.in-PeekSlice.is ∙ sym (ap (diagram_marks n) c.in-PeekSlice.is)) c.push_leaf-in-PeekSlice.ensures.boxes c.push_leaf-in-PeekSlice.ensures.steps

pub returns-in-PushLiteral : goal.returns-in-PushLiteral
returns-in-PushLiteral c =
    let n = get_by_text c.args.rules.now in
    visit_of_drawn _ n _ _ c.args.expr.now _ (ap (λ e. text_marks (leaf_label (expression_of e))) c.in-PushLiteral.is ∙ sym (ap (diagram_marks n) c.in-PushLiteral.is)) c.push_leaf-in-PushLiteral.ensures.boxes c.push_leaf-in-PushLiteral.ensures.steps

pub returns-in-Ident : goal.returns-in-Ident
returns-in-Ident c =
    let n = get_by_text c.args.rules.now in
    let label = leaf_label (expression_of c.args.expr.now) in
    visit_of_drawn _ n _ _ c.args.expr.now _
    (c.call_content.ensures label ∙ ap (λ t. link_marks (n t) ++ text_marks label) c.as_str-in-Ident.ensures.value
    ∙ ap (λ e. link_marks (n (string_bytes c.in-Ident.name)) ++ text_marks (leaf_label (expression_of e))) c.in-Ident.is
    ∙ sym (ap (diagram_marks n) c.in-Ident.is))
    c.push_leaf-in-Ident.ensures.boxes c.push_leaf-in-Ident.ensures.steps

pub returns-in_ok-visits-in-Choice : goal.returns-in_ok-visits-in-Choice
returns-in_ok-visits-in-Choice c =
    let n = get_by_text c.args.rules.now in
    visit_joined _ n _ _ c.args.expr.now _ _ _ _ _ _ refl refl c.deref-in-Choice.ensures c.deref-in-Choice-2.ensures
    (ap (diagram_marks n) c.in-Choice.is) (ap size c.in-Choice.is)
    (c.in_ok-visits-in-Choice.ensures.marks n) c.in_ok-visits-in-Choice.ensures.work
    c.enclose_all-in-Choice.ensures.layout c.enclose_all-in-Choice.ensures.steps

pub returns-in_ok-visits-in-Seq : goal.returns-in_ok-visits-in-Seq
returns-in_ok-visits-in-Seq c =
    let n = get_by_text c.args.rules.now in
    visit_joined _ n _ _ c.args.expr.now _ _ _ _ _ _ refl refl c.deref.ensures c.deref-in-Seq.ensures
    (ap (diagram_marks n) c.in-Seq.is) (ap size c.in-Seq.is)
    (c.in_ok-visits-in-Seq.ensures.marks n) c.in_ok-visits-in-Seq.ensures.work
    c.enclose_all.ensures.layout c.enclose_all.ensures.steps
