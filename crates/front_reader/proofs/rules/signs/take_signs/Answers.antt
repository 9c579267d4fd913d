use Rattle.std.proofs.Common.{refl}
use Rattle.front_reader.proofs.Signs.{sign_piece, term_start, term_tag, term_positive, term_negative, term_operand}
use Rattle.front_reader.proofs.Terms.{lone_tag}
use Rattle.front_reader.proofs.rules.signs.take_signs.Goals as goal

pub loop-tree-init : goal.loop-tree-init
loop-tree-init c = rw c.new-signs.ensures.items (term_start c.requires.shape)

pub returns-in_default-first_tree : goal.returns-in_default-first_tree
returns-in_default-first_tree c =
    let k = c.loop-tree.invariant.shape in
    absurd (lone_tag (rw (c.in-Some.ensures, c.in-tag_id.is, c.in_default-first_tree.ensures) at k))

pub tag_name-requires : goal.tag_name-requires
tag_name-requires c =
    let s = c.loop-tree.invariant.stand c.requires.nested in
    sign_piece (rw c.in-Some.ensures at s)

pub loop-tree-preserved-in-tag_id : goal.loop-tree-preserved-in-tag_id
loop-tree-preserved-in-tag_id c =
    let g = c.loop-tree.invariant in
    rw c.in_ok-push-in-tag_id.ensures.items
    (term_tag _ c.tag_name.ensures (rw (c.in-Some.ensures, c.in-tag_id.is, c.in-Some-first_tree.ensures) at g))

pub loop-tree-preserved-in-positive_predicate_operator : goal.loop-tree-preserved-in-positive_predicate_operator
loop-tree-preserved-in-positive_predicate_operator c =
    let g = c.loop-tree.invariant in
    rw c.in_ok-push-in-positive_predicate_operator.ensures.items
    (term_positive (rw (c.in-Some.ensures, c.in-positive_predicate_operator.is) at g))

pub loop-tree-preserved : goal.loop-tree-preserved
loop-tree-preserved c =
    let g = c.loop-tree.invariant in
    rw c.in_ok-push-in-negative_predicate_operator.ensures.items
    (term_negative (rw (c.in-Some.ensures, c.in-negative_predicate_operator.is) at g))

pub returns-in_default-rule : goal.returns-in_default-rule
returns-in_default-rule c =
    let g = c.loop-tree.invariant in
    let d = c.in_default-rule in
    rw c.in-Some.ensures
    (term_operand c.in-Some.tree.rule (rw c.in-Some.ensures at g) refl d.not-tag_id d.not-positive_predicate_operator d.not-negative_predicate_operator)
