use Rattle.std.proofs.Common.{refl, ◌∙◌}
use Rattle.std.proofs.lemmas.Result.{err_from_is_err_and}
use Rattle.front_nodes.specs.Nodes.{named_trees_of}
use Rattle.front_reader.specs.Reading.{bare}
use Rattle.front_grammar.specs.Shape.{terminal}
use Rattle.front_reader.proofs.FlawsInOrder.{first_in, answers_as}
use Rattle.front_reader.proofs.Terms.{node_flaw, before_operators}
use Rattle.front_reader.proofs.TreesStandInText.{stand_alone}
use Rattle.front_reader.proofs.rules.reading.operand.Goals as goal

pub terminal-requires-clause-nested : goal.terminal-requires-clause-nested
terminal-requires-clause-nested c = stand_alone c.requires.nested

pub returns-in_err-node : goal.returns-in_err-node
returns-in_err-node c =
    let u = c.args.tree in
    let p = err_from_is_err_and c.from_residual.result c.from_residual.ensures.1 in
    let f = node_flaw c.args.text.now u.start u.end (named_trees_of u.inner.now) (named_trees_of u.others.now) (terminal c.requires.shape.0) in
    rw (p.1, p.2, f) (first_in _ _ _ c.in_err-node.ensures)

pub apply_postfixes-requires-clause-place : goal.apply_postfixes-requires-clause-place
apply_postfixes-requires-clause-place c = before_operators c.in_ok-node.node c.requires.nested c.in_ok-node.ensures.1

pub returns : goal.returns
returns c =
    let u = c.args.tree in
    let e = c.in_ok-node.ensures in
    let f = node_flaw c.args.text.now u.start u.end (named_trees_of u.inner.now) (named_trees_of u.others.now) (terminal c.requires.shape.0) in
    answers_as _ _ _ _ _ (f ∙ rw e.0 refl) (λ n q. bare e.1 q) c.apply_postfixes.ensures
