use Rattle.std.proofs.Common.{◌≡◌, ◌∙◌, Some, inl, inr, sym, ap, subst, arith, slice_get}
use Rattle.std.proofs.lemmas.Option.{slice_get_within}
use Rattle.base_graphs.specs.Least.{is_set_at}
use Rattle.front_stack_loops.specs.Answers.{at_place}
use Rattle.front_stack_loops.proofs.RankLemmas.{last_or_before}
use Rattle.front_stack_loops.proofs.reportable.is_some_root_set.Goals as goal

pub loop-rule-preserved : goal.loop-rule-preserved
loop-rule-preserved c = λ r i h at.
    let roots = c.args.roots.now in
    let flags = c.args.flags.now in
    let rule = c.loop-rule.rule in
    elim (last_or_before r rule h) [
      | inl a ↦ c.loop-rule.invariant r i a at
      | inr a ↦ ap (at_place (is_set_at flags)) (sym (subst (λ k. slice_get roots k ≡ Some i) a at)) ∙ (sym c.is_root_set.ensures ∙ c.if-is_root_set.false)
    ]

pub returns : goal.returns
returns c = λ e r i at.
    let w = slice_get_within c.args.roots.now r i at in
    c.loop-rule.invariant r i (omega arith) at
