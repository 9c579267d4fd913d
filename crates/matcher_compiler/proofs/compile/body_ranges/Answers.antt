use Rattle.std.proofs.Common.{subst, sym}
use Rattle.matcher_sets.specs.Differences.{BeginsWith}
use Rattle.matcher_sets.specs.Forms.{IsBoundIn}
use Rattle.matcher_sets.proofs.Rules.{program_rule_bound}
use Rattle.matcher_compiler.proofs.Skipping.{blanks_any}
use Rattle.matcher_compiler.proofs.compile.body_ranges.Goals as goal

pub first_ranges-requires : goal.first_ranges-requires
first_ranges-requires c =
    let p = c.args.program.now in
    record { bound = subst (λ f. IsBoundIn p f) (sym c.requires.body) (program_rule_bound p c.args.number c.args.program_rule.now c.requires.within c.requires.is c.requires.sound) }

pub returns-in-Some : goal.returns-in-Some
returns-in-Some c = λ classes fits.
    let p = c.args.program.now in
    let program_rule = c.args.program_rule.now in
    let y = rw c.in-Some.is at c.in_ok-made.ensures in
    let x = y classes fits in
    record {
      characters = x.characters;
      covers = x.covers;
      takes = blanks_any p c.args.number program_rule classes x.characters c.requires.sound c.requires.white c.requires.within c.requires.is c.requires.kind
          (subst (λ f. BeginsWith p classes f x.characters) c.requires.body x.holds);
    }
