use Rattle.std.proofs.Common.{◌≡◌, ◌↔◌, ◌∙◌, ◌+◌, ◌∷◌, ◌++◌, [], true, sym, ap, subst, refl, arith, length, slice_get}
use Rattle.std.proofs.lemmas.List.{length_push}
use Rattle.base_graphs.specs.Least.{is_set_at}
use Rattle.front_stack_loops.specs.Answers.{at_place}
use Rattle.front_stack_loops.specs.Leading.{AreRaised, LeadsBack}
use Rattle.front_stack_loops.proofs.LeadingLemmas.{back_told, holds_leads, leads_set}
use Rattle.front_stack_loops.proofs.RankLemmas.{AreSought, all_sought, one_sought}
use Rattle.front_stack_loops.proofs.recursion.search_calls.Goals as goal

pub loop-rule-preserved : goal.loop-rule-preserved
loop-rule-preserved c =
    let ns = c.args.nodes.now in
    let roots = c.args.roots.now in
    let rule = c.loop-rule.rule in
    let flags = c.in_ok-flags.flags.items in
    let before = c.loop-rule.recursive.items in
    let ranks = c.loop-rule.ranks.items in
    let b = c.is_root_set.result in
    let told = c.is_root_set.ensures ∙ ap (λ l. at_place (is_set_at l) (slice_get roots rule)) c.as_slice.ensures.value in
    let e : c.push.new.self.items ≡ before ++ b ∷ [] = c.in_ok-push.ensures.items in
    let exact = subst (λ x. (x ≡ true) ↔ LeadsBack ns roots rule) (sym told) (back_told ns roots rule flags c.in_ok-flags.ensures.sound c.in_ok-flags.ensures.closed) in
    let up = subst (λ z. AreRaised z flags c.in_ok-ranks-2.ranks.items) c.as_slice-in-loop-rule.ensures.value
    (subst (λ z. AreRaised c.as_slice-in-loop-rule.result.now z c.in_ok-ranks-2.ranks.items) c.as_slice-in-loop-rule-2.ensures.value c.in_ok-ranks-2.ensures) in
    one_sought ns roots rule before c.push.new.self.items ranks c.in_ok-ranks-2.ranks.items flags b c.loop-rule.invariant e
    (ap length e ∙ (length_push before b ∙ ap (λ n. n + 1) c.loop-rule.invariant.told)) exact up c.in_ok-flags.ensures.sound.alike
    (λ i h. holds_leads ns roots rule (c.in_ok-flags.ensures.sound.right i h)) (λ i h. leads_set ns roots rule flags c.in_ok-flags.ensures.closed h refl)

pub returns : goal.returns
returns c =
    let all : c.loop-rule.rule ≡ length c.args.roots.now = omega arith in
    all_sought c.args.nodes.now c.args.roots.now c.loop-rule.recursive.items c.loop-rule.ranks.items
    (subst (λ n. AreSought c.args.nodes.now c.args.roots.now n c.loop-rule.recursive.items c.loop-rule.ranks.items) all c.loop-rule.invariant)
