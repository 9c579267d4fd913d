use Rattle.base_language.specs.Language.Meaning.{rep, turn}
use Rattle.lint_warnings.proofs.Modes.{skipping_mode, nothing_skipped}
use Rattle.lint_warnings.proofs.laws.skipping_rules_skip_blanks.Goals as goal

pub returns : goal.returns
returns c = record {
  modes = λ f r h. skipping_mode f r h;
  turns = λ g classes e s t u v w us vs ws xs first blanks second rest. (_, rep first (turn blanks second rest));
  atomic = λ g classes s o d. nothing_skipped g classes s o d;
}
