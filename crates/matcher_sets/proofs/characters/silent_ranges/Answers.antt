use Rattle.std.proofs.Common.{subst, sym}
use Rattle.matcher_sets.specs.Differences.{HasRanges}
use Rattle.matcher_sets.specs.Forms.{IsBoundIn}
use Rattle.matcher_sets.proofs.Rules.{program_rule_bound}
use Rattle.matcher_sets.proofs.Silent.{call_has}
use Rattle.matcher_sets.proofs.characters.silent_ranges.Goals as goal

pub choice_ranges-requires : goal.choice_ranges-requires
choice_ranges-requires c =
    let p = c.args.program.now in
    record { bound = subst (λ f. IsBoundIn p f) (sym c.requires.body) (program_rule_bound p c.args.rule c.args.program_rule.now c.requires.within c.requires.is c.requires.sound) }

pub returns-in-Some : goal.returns-in-Some
returns-in-Some c =
    let p = c.args.program.now in
    let r = c.requires in
    let y = rw c.in-Some.is at c.in_ok-made.ensures in
    call_has p c.args.rule c.args.program_rule.now r.within r.is r.meant r.kind c.in-Some.ranges.items (subst (λ f. HasRanges p f c.in-Some.ranges.items) r.body y)
