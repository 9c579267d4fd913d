use Rattle.std.proofs.Common.{refl}
use Rattle.base_language.proofs.PairLemmas.{AreNested-popped, AreNested-first, AreNested-le, AreNested-opened, AreNested-copied, preorder_opened, on_err, some_pairs}
use Rattle.base_language.proofs.runtime.tokens.FlatPairs.take_first.Goals as goal

pub invariant_of-self-in-Break-1 : goal.invariant_of-self-in-Break-1
invariant_of-self-in-Break-1 g c = record { nested = AreNested-popped _ _ _ _ _ c.pop.ensures.items c.args.self.now.nested }

pub invariant_of-self-2 : goal.invariant_of-self-2
invariant_of-self-2 g c =
    record { nested = AreNested-opened _ _ _ _ c.into_parts-rule.result.inner.items c.in-Some.tree _ _ _ _ _ c.in-Some.ensures.items c.into_parts-rule.ensures c.append.ensures.items c.args.self.now.nested }

pub invariant_of-result : goal.invariant_of-result
invariant_of-result g c =
    let first = AreNested-first _ _ _ c.in-Some.tree _ _ _ _ _ c.in-Some.ensures.items c.into_parts-rule.ensures c.args.self.now.nested in
    record {
      ordered = AreNested-le _ _ _ _ first.1.0;
      starts_at_character = first.0.1.0;
      ends_at_character = first.0.1.1;
      nested = AreNested-copied _ _ _ _ _ c.in_ok-copies.ensures first.1.0;
    }

pub returns-clause-ok : goal.returns-clause-ok
returns-clause-ok g c =
    (refl, (refl, preorder_opened _ _ _ c.into_parts-rule.result.inner.items _ c.in-Some.tree _ _ _ c.in-Some.ensures.items c.into_parts-rule.ensures c.in_ok-append.ensures.items c.in_ok-copies.ensures))

pub returns-in_err-copies-clause-some : goal.returns-in_err-copies-clause-some
returns-in_err-copies-clause-some g c = on_err _ (some_pairs _ _ c.in-Some.tree c.in-Some.ensures.items)

pub returns-in_err-append-clause-some : goal.returns-in_err-append-clause-some
returns-in_err-append-clause-some g c = on_err _ (some_pairs _ _ c.in-Some.tree c.in-Some.ensures.items)
