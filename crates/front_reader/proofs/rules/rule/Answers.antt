use Rattle.std.proofs.Common.{refl}
use Rattle.std.proofs.lemmas.Result.{err_from_is_err_and}
use Rattle.front_spanned.specs.Nodes.{view}
use Rattle.front_reader.proofs.TreesStandInText.{first_piece, stand_inner, stand_behind}
use Rattle.front_reader.proofs.ReadRules.{may_be_modifier, lone_name, no_brace, no_body, rule_body, comment_rule, modifier_standing}
use Rattle.front_reader.proofs.rules.rule.Goals as goal

pub returns-in_default-clause-answers : goal.returns-in_default-clause-answers
returns-in_default-clause-answers c = rw c.leading_tree-first.ensures (comment_rule c.leading_tree-first.result.rule (rw c.leading_tree-first.ensures at c.requires.shape) refl c.in_default.not-identifier)

pub leading_tree-assignment-requires : goal.leading_tree-assignment-requires
leading_tree-assignment-requires c = λ z. lone_name (rw (c.leading_tree-first.ensures, c.in-identifier.is, z) at c.requires.shape)

pub modifier-ty-requires : goal.modifier-ty-requires
modifier-ty-requires c = (may_be_modifier (rw (c.leading_tree-first.ensures, c.in-identifier.is, c.leading_tree-assignment.ensures) at c.requires.shape))

pub leading_tree-brace-requires : goal.leading_tree-brace-requires
leading_tree-brace-requires c = λ z.
    let h = rw (c.leading_tree-first.ensures, c.in-identifier.is, c.leading_tree-assignment.ensures) at c.requires.shape in
    no_brace h (rw z at c.modifier-ty.ensures)

pub leading_tree-body-requires : goal.leading_tree-body-requires
leading_tree-body-requires c = λ z.
    let h = rw (c.leading_tree-first.ensures, c.in-identifier.is, c.leading_tree-assignment.ensures) at c.requires.shape in
    no_body h (rw (c.leading_tree-brace.ensures, z) at c.modifier-ty.ensures)

pub text_of-requires : goal.text_of-requires
text_of-requires c = first_piece (rw c.leading_tree-first.ensures at c.requires.nested)

pub expression-requires-clause-shape : goal.expression-requires-clause-shape
expression-requires-clause-shape c =
    let h = rw (c.leading_tree-first.ensures, c.in-identifier.is, c.leading_tree-assignment.ensures) at c.requires.shape in
    let m = rw (c.leading_tree-brace.ensures, c.leading_tree-body.ensures) at c.modifier-ty.ensures in
    let b = rule_body h m in
    b.inside

pub expression-requires-clause-nested : goal.expression-requires-clause-nested
expression-requires-clause-nested c =
    let s = rw (c.leading_tree-first.ensures, c.in-identifier.is, c.leading_tree-assignment.ensures) at c.requires.nested in
    let m = rw (c.leading_tree-brace.ensures, c.leading_tree-body.ensures) at c.modifier-ty.ensures in
    (stand_inner (stand_behind (modifier_standing (stand_behind (stand_behind s)) m)))

pub returns-in_err-node-clause-answers : goal.returns-in_err-node-clause-answers
returns-in_err-node-clause-answers c =
    let h = rw (c.leading_tree-first.ensures, c.in-identifier.is, c.leading_tree-assignment.ensures) at c.requires.shape in
    let m = rw (c.leading_tree-brace.ensures, c.leading_tree-body.ensures) at c.modifier-ty.ensures in
    let b = rule_body h m in
    let p = err_from_is_err_and c.from_residual-in_err-node.result c.from_residual-in_err-node.ensures.1 in
    rw (p.1, p.2, c.leading_tree-first.ensures, c.in-identifier.is, c.leading_tree-assignment.ensures, b.flaw) (c.in_err-node.ensures.reads)

pub span_of-span-requires : goal.span_of-span-requires
span_of-span-requires c = first_piece (rw c.leading_tree-first.ensures at c.requires.nested)

pub returns-clause-answers : goal.returns-clause-answers
returns-clause-answers c =
    let h = rw (c.leading_tree-first.ensures, c.in-identifier.is, c.leading_tree-assignment.ensures) at c.requires.shape in
    let m = rw (c.leading_tree-brace.ensures, c.leading_tree-body.ensures) at c.modifier-ty.ensures in
    let b = rule_body h m in
    let e = c.in_ok-node.ensures.reads in
    rw (c.leading_tree-first.ensures, c.in-identifier.is, c.leading_tree-assignment.ensures)
    (rw (b.flaw, e.0) refl, rw (c.in_ok-name.ensures.ok, c.text_of.ensures, c.span_of-span.ensures) (b.reads (view c.in_ok-node.node) e.1))
