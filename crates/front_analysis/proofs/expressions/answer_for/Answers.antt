use Rattle.std.proofs.Common.{◌≡◌, ◌∙◌, sym, ap, subst, ◌++◌, refl}
use Rattle.std.specs.Bool.{Decides}
use Rattle.front_spanned.specs.Erasure.{without_spans}
use Rattle.front_spanned.specs.Nodes.{piece_of, unplaced, view_at}
use Rattle.front_spanned.specs.Spanned.{Span}
use Rattle.front_spanned.specs.declared.node.ParserExpr.{ParserExpr}
use Rattle.front_spanned.specs.declared.node.ParserExpr.TheVariants as is
use Rattle.base_graphs.specs.Least.{is_set_at}
use Rattle.front_analysis.specs.Names.{grammar_of}
use Rattle.front_analysis.specs.Nodes.{all_nodes, postorder}
use Rattle.front_analysis.specs.Shapes as shapes
use Rattle.front_analysis.proofs.Numbered.{found_last}
use Rattle.front_analysis.specs.Facts.{IsTrueOf}
use Rattle.front_analysis.specs.NameKinds.{kind_in}
use Rattle.front_analysis.specs.declared.kind_table.KindTable.{KindTable}
use Rattle.front_analysis.proofs.Answering.{answers}
use Rattle.front_analysis.proofs.Roots.{table_of}
use Rattle.front_analysis.proofs.Tying.{stands_at, says}
use Rattle.front_analysis.proofs.expressions.answer_for.Goals as goal

-- an expression says the same wherever it stands
said_anywhere : (t : Span) (e : ParserExpr) → without_spans (view_at t e) ≡ without_spans (unplaced e)
said_anywhere t (is.Str s) = refl
said_anywhere t _ = refl

pub returns : goal.returns
returns c =
    let rs = c.args.rules.now in
    let g = grammar_of rs in
    let x = view_at (piece_of c.of-nowhere.result) c.args.expr.now in
    let names = kind_in g in
    let all = all_nodes rs ++ postorder x in
    let kinds = c.in_ok-kinds_of.field-0 in
    let t : KindTable = record { kinds = kinds; roots = c.in_ok-nodes.nodes.roots } in
    let nodes = c.in_ok-own.ensures.nodes (all_nodes rs) c.in_ok-nodes.ensures.numbered in
    let fit = c.in_ok-kinds_of.ensures rs c.in_ok-names.ensures all (subst (shapes.AreNodes all) (sym c.as_slice.ensures.value) nodes.nodes) in
    let at = found_last (all_nodes rs) x c.in_ok-own.own (sym nodes.nodes.alike ∙ c.in_ok-own.ensures.last) in
    let table = table_of rs t (postorder x) fit c.in_ok-nodes.ensures.roots in
    let right = answers rs t table c.args.question c.in_ok-answers.answers.items c.in_ok-answers.ensures.sound c.in_ok-answers.ensures.closed in
    let d = right c.in_ok-own.own (without_spans x) (says names kinds.items c.in_ok-own.own x (stands_at names all kinds.items fit x c.in_ok-own.own at)) in
    subst (λ z. Decides c.is_set-answer.result (IsTrueOf c.args.question g z)) (said_anywhere _ c.args.expr.now)
    (subst (λ b. Decides b (IsTrueOf c.args.question g (without_spans x))) (sym (c.is_set-answer.ensures ∙ ap (λ m. is_set_at m c.in_ok-own.own) c.as_slice-2.ensures.value)) d)
