use Rattle.std.proofs.Common.{refl, ◌∙◌}
use Rattle.front_nodes.specs.Nodes.{named_trees_of}
use Rattle.front_reader.proofs.Chains.{no_chain, rest_tree, expression_end}
use Rattle.front_reader.proofs.Levels.{alternative_piece, alternative_front, at_next_alternative}
use Rattle.front_reader.proofs.rules.reading.finish_alternative.Goals as goal

pub together-requires : goal.together-requires
together-requires c =
    let h = c.requires.1 in
    alternative_piece (named_trees_of c.args.rest.now) c.args.choice c.args.sequence.value h.begins.begins h.front.split h.front.reads

pub first_term-requires : goal.first_term-requires
first_term-requires c = λ z.
    let k = rest_tree (rw c.in-Some.ensures at c.requires.1.behind) in
    no_chain (rw z at k.2)

pub returns-in-Some-clause-goes_on : goal.returns-in-Some-clause-goes_on
returns-in-Some-clause-goes_on c = λ us h.
    let t = alternative_front h.begins.begins h.begins.nested h.front.split h.front.reads in
    let k = at_next_alternative t h.behind c.in-Some.ensures (h.begins.flaws ∙ h.flaws) h.begins.nested in
    c.first_term.ensures.goes_on c.args.text.now us (rw c.in_ok-choice.ensures k)

pub returns-in-None-clause-goes_on : goal.returns-in-None-clause-goes_on
returns-in-None-clause-goes_on c = λ us h.
    let t = alternative_front h.begins.begins h.begins.nested h.front.split h.front.reads in
    (h.begins.flaws ∙ h.flaws ∙ rw c.in-None.ensures refl, rw (c.into_inner.ensures, c.in_ok-choice.ensures) (expression_end c.args.text.now (rw c.in-None.ensures at t)))
