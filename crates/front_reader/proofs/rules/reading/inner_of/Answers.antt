use Rattle.std.proofs.Common.{refl}
use Rattle.front_reader.proofs.Levels.{push_node, paren_opens, push_opens}
use Rattle.front_reader.proofs.Terms.{paren_tree, lone_paren, open_group, node_tree, terminal_tree, lone_push, open_push}
use Rattle.front_reader.proofs.rules.reading.inner_of.Goals as goal

pub leading_tree-body-requires : goal.leading_tree-body-requires
leading_tree-body-requires c = λ z.
    let h = rw c.in-opening_paren.is at c.requires.1 in
    let e = paren_tree h in
    lone_paren (rw (e, z) at h)

pub leading_tree-close-requires : goal.leading_tree-close-requires
leading_tree-close-requires c = λ z.
    let h = rw c.in-opening_paren.is at c.requires.1 in
    let e = paren_tree h in
    open_group (rw (e, c.leading_tree-body.ensures, z) at h)

pub leading_tree-paren-requires : goal.leading_tree-paren-requires
leading_tree-paren-requires c = λ z.
    let h = push_node (rw c.in-_push.is at c.requires.1) in
    lone_push (rw z at h)

pub leading_tree-body-requires-in-_push : goal.leading_tree-body-requires-in-_push
leading_tree-body-requires-in-_push c = λ z.
    let h = push_node (rw c.in-_push.is at c.requires.1) in
    open_push (rw (c.leading_tree-paren.ensures, z) at h)

pub returns-in-opening_paren : goal.returns-in-opening_paren
returns-in-opening_paren c = λ text h.
    let k = rw c.in-opening_paren.is at h in
    let e = paren_tree k in
    rw (c.in-opening_paren.is, e, c.leading_tree-body.ensures, c.leading_tree-close.ensures) (paren_opens (rw (e, c.leading_tree-body.ensures, c.leading_tree-close.ensures) at k))

pub returns-in-_push : goal.returns-in-_push
returns-in-_push c = λ text h.
    let k = rw c.in-_push.is at h in
    rw (c.in-_push.is, c.leading_tree-paren.ensures, c.leading_tree-body-in-_push.ensures) (push_opens (rw (c.leading_tree-paren.ensures, c.leading_tree-body-in-_push.ensures) at k))

pub returns-in_default : goal.returns-in_default
returns-in_default c = λ text h.
    let d = c.in_default in
    let k = node_tree c.args.tree.rule h refl d.not-opening_paren in
    (terminal_tree c.args.tree.rule k.0 refl d.not-_push, k.1)
