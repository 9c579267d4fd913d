use Rattle.std.proofs.Common.{refl, subst}
use Rattle.std.proofs.lemmas.Result.{err_from_is_err_and}
use Rattle.front_nodes.specs.Nodes.{named_trees_of}
use Rattle.front_reader.specs.Levels.{GoesOn}
use Rattle.front_reader.specs.declared.rules.levels.Next.{Next}
use Rattle.front_reader.proofs.Chains.{no_chain}
use Rattle.front_reader.proofs.Levels.{at_first_alternative, less_inside, less_outside, open_first, open_last, open_more, opened, stand_inside}
use Rattle.front_reader.proofs.rules.reading.expression.Goals as goal

-- the expression at hand is begun

pub first_term-next-requires : goal.first_term-next-requires
first_term-next-requires c = λ z.
    let b = c.skip_bar.ensures c.args.text.now c.requires.shape in
    no_chain (rw z at b.shape)

pub terms-init : goal.terms-init
terms-init c =
    let us = named_trees_of c.args.trees.now in
    let b = c.skip_bar.ensures c.args.text.now c.requires.shape in
    record {
      us = us;
      opens = rw c.requires.empty refl;
      goes_on = c.first_term-next.ensures.goes_on c.args.text.now us (at_first_alternative b c.requires.nested);
    }

-- a term

pub returns-in_err-next-in-Term-clause-reads : goal.returns-in_err-next-in-Term-clause-reads
returns-in_err-next-in-Term-clause-reads c =
    let i = c.terms.invariant in
    let P : Next → Type 0 = λ n. GoesOn c.args.text.now i.us n in
    let p = err_from_is_err_and c.from_residual.result c.from_residual.ensures.1 in
    let e = c.in_err-next-in-Term.ensures.goes_on i.us (subst P c.in-Term.is i.goes_on) in
    rw (p.1, p.2) (open_first c.args.text.now c.terms.levels.items i.us (named_trees_of c.args.trees.now) _ i.opens e)

-- an expression in a term

pub first_term-next-requires-in-Inner : goal.first_term-next-requires-in-Inner
first_term-next-requires-in-Inner c = λ z.
    let i = c.terms.invariant in
    let P : Next → Type 0 = λ n. GoesOn c.args.text.now i.us n in
    let h = subst P c.in-Inner.is i.goes_on in
    let o = opened h.opens in
    let b = c.skip_bar-in-Inner.ensures c.args.text.now o.inside in
    no_chain (rw z at b.shape)

pub terms-smaller-in-Inner : goal.terms-smaller-in-Inner
terms-smaller-in-Inner c =
    let i = c.terms.invariant in
    let P : Next → Type 0 = λ n. GoesOn c.args.text.now i.us n in
    let h = subst P c.in-Inner.is i.goes_on in
    let o = opened h.opens in
    let b = c.skip_bar-in-Inner.ensures c.args.text.now o.inside in
    less_inside c.terms.levels.items c.push.new.self.items c.terms.next c.first_term-next-in-Inner.result c.in-Inner.level c.in-Inner.trees (named_trees_of c.skip_bar-in-Inner.result.now) c.in-Inner.is c.in_ok-push-in-Inner.ensures.items c.first_term-next-in-Inner.ensures.work b.shorter

pub terms-preserved-in-Inner : goal.terms-preserved-in-Inner
terms-preserved-in-Inner c =
    let i = c.terms.invariant in
    let P : Next → Type 0 = λ n. GoesOn c.args.text.now i.us n in
    let h = subst P c.in-Inner.is i.goes_on in
    let inner = named_trees_of c.in-Inner.trees.now in
    let o = opened h.opens in
    let b = c.skip_bar-in-Inner.ensures c.args.text.now o.inside in
    record {
      us = inner;
      opens = rw c.in_ok-push-in-Inner.ensures.items (open_more c.args.text.now c.terms.levels.items c.in-Inner.level i.us inner (named_trees_of c.args.trees.now) i.opens h);
      goes_on = c.first_term-next-in-Inner.ensures.goes_on c.args.text.now inner (at_first_alternative b (stand_inside h));
    }

-- an expression that is read

pub finish_level-requires : goal.finish_level-requires
finish_level-requires c =
    let i = c.terms.invariant in
    let P : Next → Type 0 = λ n. GoesOn c.args.text.now i.us n in
    let w = open_last c.args.text.now c.pop.new.self.items c.in-Some.level i.us (named_trees_of c.args.trees.now) (rw c.in-Some.ensures.items at i.opens) in
    (w.us, record { inner = i.us; inside = w.stands; reads = subst P c.in-Done.is i.goes_on })

pub returns-in_err-next-in-Some-clause-reads : goal.returns-in_err-next-in-Some-clause-reads
returns-in_err-next-in-Some-clause-reads c =
    let i = c.terms.invariant in
    let P : Next → Type 0 = λ n. GoesOn c.args.text.now i.us n in
    let w = open_last c.args.text.now c.pop.new.self.items c.in-Some.level i.us (named_trees_of c.args.trees.now) (rw c.in-Some.ensures.items at i.opens) in
    let p = err_from_is_err_and c.from_residual-in_err-next-in-Some.result c.from_residual-in_err-next-in-Some.ensures.1 in
    let e = c.in_err-next-in-Some.ensures.goes_on w.us (record { inner = i.us; inside = w.stands; reads = subst P c.in-Done.is i.goes_on }) in
    rw (p.1, p.2) (open_first c.args.text.now c.pop.new.self.items w.us (named_trees_of c.args.trees.now) _ w.open_before e)

pub terms-smaller : goal.terms-smaller
terms-smaller c =
    less_outside c.terms.levels.items c.pop.new.self.items c.terms.next c.in_ok-next-in-Some.next c.in-Some.level c.in-Done.node c.in-Done.is c.in-Some.ensures.items c.in_ok-next-in-Some.ensures.work

pub terms-preserved : goal.terms-preserved
terms-preserved c =
    let i = c.terms.invariant in
    let P : Next → Type 0 = λ n. GoesOn c.args.text.now i.us n in
    let w = open_last c.args.text.now c.pop.new.self.items c.in-Some.level i.us (named_trees_of c.args.trees.now) (rw c.in-Some.ensures.items at i.opens) in
    record {
      us = w.us;
      opens = w.open_before;
      goes_on = c.in_ok-next-in-Some.ensures.goes_on w.us (record { inner = i.us; inside = w.stands; reads = subst P c.in-Done.is i.goes_on });
    }
