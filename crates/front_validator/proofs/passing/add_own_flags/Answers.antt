use Rattle.std.proofs.Common.{◌≡◌, ◌∙◌, ◌≤◌, ◌+◌, ◌++◌, ◌∷◌, [], ap, sym, subst, length, slice_get, arith}
use Rattle.std.proofs.lemmas.List.{length_push}
use Rattle.base_graphs.specs.Least.{is_set_at}
use Rattle.base_graphs.proofs.FlagLists.{set_before}
use Rattle.front_validator.specs.Levels.{own_answer_at}
use Rattle.front_validator.specs.Regions.{ArePassingSoFar}
use Rattle.front_validator.proofs.PassingSteps.{passing_next}
use Rattle.front_validator.proofs.RegionLemmas.{rule_at}
use Rattle.front_validator.proofs.Settled.{own_more}
use Rattle.front_validator.proofs.passing.add_own_flags.Goals as goal

pub loop-flags-preserved : goal.loop-flags-preserved
loop-flags-preserved c =
    let facts = c.args.facts.now in
    let old = c.args.flags.now.items in
    let flags = c.loop-flags.flags.items in
    let b = c.own_flag_at-flag.result in
    let e : c.push.new.self.items ≡ flags ++ b ∷ [] = c.in_ok-push.ensures.items in
    let n : length c.push.new.self.items ≡ length flags + 1 = ap length e ∙ length_push flags b in
    let inv = c.loop-flags.invariant in
    let grown = inv.grown in
    let w : length flags ≤ c.args.root = (let a = c.loop-flags-test.true in let d = c.len.ensures in omega arith) in
    let last : c.len-in-loop-flags.result ≡ length flags = (let a = c.len-in-loop-flags.ensures in let d = c.loop-flags.flags.ok.0 in omega arith) in
    let is_flag : b ≡ own_answer_at facts c.args.rule (is_set_at flags) (slice_get facts.table.kinds.items (length flags)) =
    c.own_flag_at-flag.ensures ∙ (ap (λ z. own_answer_at facts c.args.rule (is_set_at z) (slice_get facts.table.kinds.items c.len-in-loop-flags.result)) c.as_slice.ensures.value
    ∙ ap (λ k. own_answer_at facts c.args.rule (is_set_at flags) (slice_get facts.table.kinds.items k)) last) in
    record {
      grown = omega arith;
      within = λ h. omega arith;
      kept = λ i l. ap (λ z. is_set_at z i) e ∙ (set_before flags b i (omega arith) ∙ inv.kept i l);
      right = λ rs right h. subst (λ z. ArePassingSoFar rs facts.table.roots.items z c.args.rule) (sym e)
          (own_more rs facts right c.args.levels.now c.requires.levels c.args.rule c.args.root (length old) c.requires.root c.requires.settled flags b grown w is_flag (inv.right rs right h));
    }

pub returns : goal.returns
returns c = λ rs right below.
    let facts = c.args.facts.now in
    let inv = c.loop-flags.invariant in
    let (rule, here) = rule_at rs facts.table.roots.items right.tabled.roots c.args.rule c.args.root c.requires.root in
    passing_next rs facts.table.roots.items right.tabled.roots c.args.rule c.args.root c.args.flags.now.items c.loop-flags.flags.items c.requires.root
    inv.kept (λ h. let w = inv.within h in let a = c.loop-flags-test.false in let d = c.len.ensures in omega arith) (inv.right rs right) rule here below
