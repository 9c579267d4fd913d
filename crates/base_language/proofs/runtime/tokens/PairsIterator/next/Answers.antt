use Rattle.std.proofs.Common.{refl}
use Rattle.base_language.proofs.PairLemmas.{AreNested-popped, AreNested-first, AreNested-le, trees_of_popped}
use Rattle.base_language.proofs.runtime.tokens.PairsIterator.next.Goals as goal

pub invariant_of-self : goal.invariant_of-self
invariant_of-self g c =
    record { nested = AreNested-popped _ _ _ _ _ c.pop.ensures.items c.args.self.now.nested }

pub invariant_of-result : goal.invariant_of-result
invariant_of-result g c =
    let first = AreNested-first _ _ _ c.in_ok-pop.field-0 _ _ _ _ _ c.in_ok-pop.ensures.items c.into_parts-rule.ensures c.args.self.now.nested in
    record {
      ordered = AreNested-le _ _ _ _ first.1.0;
      starts_at_character = first.0.1.0;
      ends_at_character = first.0.1.1;
      nested = first.1.0;
    }

pub returns-clause-steps : goal.returns-clause-steps
returns-clause-steps g c = (refl, (refl, trees_of_popped _ _ _ _ _ _ _ c.in_ok-pop.ensures.items c.into_parts-rule.ensures))
