use Rattle.std.proofs.Common.{◌∙◌, ap, arith, length}
use Rattle.std.proofs.lemmas.List.{length-append}
use Rattle.std.proofs.lemmas.List.Elements.{All-pop}
use Rattle.std.proofs.lemmas.List.Sorted.{All-permutation}
use Rattle.std.specs.List.{All}
use Rattle.std.specs.Prelude.{◌<◌}
use Rattle.doc_pages.proofs.Linking.{callers_taken, facts_more}
use Rattle.doc_pages.proofs.facts.find_facts.Goals as goal

pub loop-number-preserved : goal.loop-number-preserved
loop-number-preserved c =
    let n = length c.args.rules.now in
    let popped = All-pop (λ cs. All (λ r. r < n) cs.items) c.loop-number.callers.items c.pop.new.self.items c.pop.result
    c.pop.ensures.items c.loop-number.invariant.callers in
    record {
      each =
          let more = ap length c.in_ok-push.ensures.items ∙ length-append c.loop-number.facts.items _ in
          omega (arith, more, c.loop-number.invariant.each, c.loop-number-test.true);
      callers = popped.0;
      facts = facts_more n c.loop-number.facts.items c.push.new.self.items _ c.in_ok-push.ensures.items c.loop-number.invariant.facts
          (callers_taken n c.pop.result c.new.result c.unwrap_or-called_by.result popped.1 c.new.ensures.items c.unwrap_or-called_by.ensures);
    }

pub returns-clause-below : goal.returns-clause-below
returns-clause-below c =
    All-permutation (λ f. All (λ r. r < length c.args.rules.now) f.callers.items) c.loop-number.facts.items
    c.reverse.new.self.items c.reverse.ensures.permutation c.loop-number.invariant.facts
