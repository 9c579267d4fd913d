use Rattle.std.proofs.Common.{arith}
use Rattle.base_language.proofs.PairLemmas.{AreNested-wider}
use Rattle.base_language.proofs.runtime.tokens.Pair.into_inner.Goals as goal

pub invariant_of-result : goal.invariant_of-result
invariant_of-result g c =
    let pair = c.args.self in
    record { nested = AreNested-wider _ _ _ _ _ _ pair.nested (omega arith) pair.ends_at_character.0 }
