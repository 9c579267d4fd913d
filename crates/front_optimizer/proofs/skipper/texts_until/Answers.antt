use Rattle.std.proofs.Common.{◌∙◌, sym, subst}
use Rattle.base_language.specs.Language.Expression as e
use Rattle.base_language.specs.Rewritings.Rewriting.{SkipsUntil}
use Rattle.base_ast.specs.Ast.{expression_of, text_of}
use Rattle.front_optimizer.specs.Bodies.{Serve}
use Rattle.front_optimizer.proofs.Skipping.{not_any, is_any, other_name, until, shape, any_shape, texts_differ, texts_same}
use Rattle.front_optimizer.proofs.skipper.texts_until.Goals as goal

pub returns-then-ne : goal.returns-then-ne
returns-then-ne c =
    let formed = shape c.args.expr.now _ _ _ _ c.in-Seq.is (sym c.deref.ensures ∙ c.in-NegPred.is) (sym c.deref-2.ensures ∙ c.in-Ident.is) in
    let other = not_any c.in-Ident.name (λ h. texts_differ _ _ c.ne.result c.ne.ensures c.if-ne.true (c.as_str.ensures.value ∙ h ∙ sym c.name.ensures)) in
    λ g h q s. other_name g (expression_of c.in-NegPred.inner.value) (text_of c.in-Ident.name) other q (subst (λ x. SkipsUntil g e.Atomic (e.Rep x) q) formed s)

pub returns : goal.returns
returns c =
    let formed = shape c.args.expr.now _ _ _ _ c.in-Seq.is (sym c.deref.ensures ∙ c.in-NegPred.is) (sym c.deref-2.ensures ∙ c.in-Ident.is) in
    let any = is_any c.in-Ident.name (sym c.as_str.ensures.value ∙ texts_same _ _ c.ne.result c.ne.ensures c.if-ne.false ∙ c.name.ensures) in
    until (Serve c.args.bodies.now c.args.names.now) (expression_of c.in-NegPred.inner.value) (expression_of c.args.expr.now) c.strings_of.result (any_shape _ _ c.in-Ident.name formed any)
    (rw c.deref-3.ensures at c.strings_of.ensures)
