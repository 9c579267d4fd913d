use Rattle.std.proofs.Common.{length, refl, ap, arith, rules}
use Rattle.base_language.specs.Pieces.TokenTrees.{preorder}
use Rattle.base_language.specs.Pieces.TreeViews.{trees_of}
use Rattle.base_language.proofs.runtime.tokens.FlatPairsIterator.next.Goals as goal

pub returns-in-Err-clause-steps : goal.returns-in-Err-clause-steps
returns-in-Err-clause-steps g c =
    (c.take_first.ensures.text, (refl, c.in-Err.ensures.some, ap (λ ts. preorder (trees_of ts)) c.clear.ensures.items))

pub returns-in-Err-clause-goes : goal.returns-in-Err-clause-goes
returns-in-Err-clause-goes g c =
    let none = ap (λ ts. length (preorder (trees_of ts))) c.clear.ensures.items in
    record {
      on = λ _. (search rules, search rules, omega (arith, none, c.in-Err.ensures.some));
      keeps = search rules;
      rests = search rules;
    }
