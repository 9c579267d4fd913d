use Rattle.std.proofs.Common.{refl}
use Rattle.std.proofs.lemmas.Result.{err_from_is_err_and}
use Rattle.front_nodes.specs.Nodes.{named_trees_of}
use Rattle.front_reader.specs.Reading.{leaf, identifier}
use Rattle.front_reader.proofs.TreesStandInText.{first_piece}
use Rattle.front_reader.proofs.Terminals.{string_trees, insensitive_trees, identifier_trees, terminal_rule}
use Rattle.front_reader.proofs.rules.terminals.terminal.Goals as goal

pub span_of-span-requires : goal.span_of-span-requires
span_of-span-requires c = first_piece c.requires.nested

pub returns-in_err-read-in-string : goal.returns-in_err-read-in-string
returns-in_err-read-in-string c =
    let h = string_trees (rw c.in-string.is at c.requires.shape) in
    let p = err_from_is_err_and c.from_residual-in_err-read-in-string.result c.from_residual-in_err-read-in-string.ensures.1 in
    rw (p.1, p.2, c.in-string.is, h.flaw c.args.tree.start c.args.tree.end) c.in_err-read-in-string.ensures

pub literal-requires-in-insensitive_string-clause-shape : goal.literal-requires-in-insensitive_string-clause-shape
literal-requires-in-insensitive_string-clause-shape c =
    let h = insensitive_trees (rw (c.in-insensitive_string.is, c.leading_tree-string.ensures) at c.requires.shape) in
    h.quoted

pub returns-in_err-read-in-insensitive_string : goal.returns-in_err-read-in-insensitive_string
returns-in_err-read-in-insensitive_string c =
    let h = insensitive_trees (rw (c.in-insensitive_string.is, c.leading_tree-string.ensures) at c.requires.shape) in
    let p = err_from_is_err_and c.from_residual-in_err-read-in-insensitive_string.result c.from_residual-in_err-read-in-insensitive_string.ensures.1 in
    rw (p.1, p.2, c.in-insensitive_string.is, c.leading_tree-string.ensures, h.flaw c.args.tree.start c.args.tree.end) (c.in_err-read-in-insensitive_string.ensures)

pub unreachable-requires : goal.unreachable-requires
unreachable-requires c =
    let n = c.in_default in
    terminal_rule c.args.tree.rule c.requires.shape refl n.not-identifier n.not-string n.not-insensitive_string n.not-range n.not-peek_slice n.not-_push_literal

pub returns-in_ok-name-in-identifier : goal.returns-in_ok-name-in-identifier
returns-in_ok-name-in-identifier c =
    let e = identifier_trees c.args.tree.start c.args.tree.end (rw c.in-identifier.is at c.requires.shape) in
    rw c.in-identifier.is (e, rw (c.span_of-span.ensures, c.in_ok-name-in-identifier.ensures.ok, c.text_of.ensures) (leaf identifier))

pub returns-in_ok-read-in-string : goal.returns-in_ok-read-in-string
returns-in_ok-read-in-string c =
    let h = string_trees (rw c.in-string.is at c.requires.shape) in
    let e = c.in_ok-read-in-string.ensures in
    rw c.in-string.is (rw (h.flaw c.args.tree.start c.args.tree.end) e.0, rw (c.span_of-span.ensures, e.1) (leaf (h.reads c.args.tree.start c.args.tree.end)))

pub returns-in_ok-read-in-insensitive_string : goal.returns-in_ok-read-in-insensitive_string
returns-in_ok-read-in-insensitive_string c =
    let h = insensitive_trees (rw (c.in-insensitive_string.is, c.leading_tree-string.ensures) at c.requires.shape) in
    let e = c.in_ok-read-in-insensitive_string.ensures in
    rw (c.in-insensitive_string.is, c.leading_tree-string.ensures) (rw (h.flaw c.args.tree.start c.args.tree.end) e.0, rw (c.span_of-span.ensures, e.1) (leaf (h.reads c.args.tree.start c.args.tree.end)))
