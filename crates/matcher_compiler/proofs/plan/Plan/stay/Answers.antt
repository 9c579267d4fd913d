use Rattle.std.proofs.Common.{◌≡◌, arith, subst}
use Rattle.base_language.specs.Language.Meaning.{Skipping}
use Rattle.matcher_code.specs.Laid as lay
use Rattle.matcher_sets.specs.Modes.{mode_of}
use Rattle.matcher_compiler.specs.Exact.{is_exact}
use Rattle.matcher_compiler.specs.Names.{number_in}
use Rattle.matcher_sets.specs.Forms.{grammar_in}
use Rattle.matcher_compiler.proofs.plan.Plan.stay.Goals as goal

pub returns-then-at : goal.returns-then-at
returns-then-at c = record {
  lays = λ classes fits code laid m.
      let g = grammar_in c.args.program.now in
      let e : c.args.at.label ≡ c.args.at.next = omega arith in
      subst (λ n. lay.Lays (is_exact code) g classes code (number_in g) laid c.args.at.rank (Skipping (mode_of c.args.at.mode)) c.args.at.label n c.args.at.on_fail) e (lay.nothing (c.requires.tight classes));
}
