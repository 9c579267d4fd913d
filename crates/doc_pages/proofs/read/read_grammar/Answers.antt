use Rattle.std.proofs.Common.{◌∙◌, ap, length, subst, sym}
use Rattle.std.specs.HashMap.{get_by_text}
use Rattle.doc_pages.specs.Links.{AreFactsBelow, AreNumbersBelow}
use Rattle.doc_pages.proofs.Linking.{erased_length, numbers_below}
use Rattle.doc_pages.proofs.read.read_grammar.Goals as goal

pub invariant_of-result : goal.invariant_of-result
invariant_of-result c =
    let count = erased_length c.in_ok-rules.rules.items c.into_inner.result.items c.in_ok-rules.ensures
    ∙ ap (λ v. length v.items) c.into_inner.ensures in
    record {
      called = subst (λ n. AreFactsBelow n c.in_ok-facts.facts.items) (ap length c.deref.ensures.value ∙ sym count) c.in_ok-facts.ensures.below;
      numbered = subst (λ n. AreNumbersBelow n (get_by_text c.in_ok-names.names.places))
          (ap length c.deref-2.ensures.value ∙ sym count) (numbers_below c.deref-2.result.now c.in_ok-names.names c.in_ok-names.ensures);
    }
