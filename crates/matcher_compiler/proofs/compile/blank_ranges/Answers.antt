use Rattle.matcher_code.specs.Lists.{is_covered}
use Rattle.std.proofs.Common.{ap, false, subst}
use Rattle.base_language.specs.Language.Expression.{whitespace}
use Rattle.matcher_program.specs.Programs.{IsSkippedRule}
use Rattle.matcher_compiler.proofs.Skipping.{no_blanks}
use Rattle.matcher_sets.specs.Forms.{grammar_in}
use Rattle.matcher_compiler.proofs.compile.blank_ranges.Goals as goal

pub returns-in-None : goal.returns-in-None
returns-in-None c =
    let p = c.args.program.now in
    let w = subst (IsSkippedRule (grammar_in p) whitespace) c.in-None.is c.requires.sound.whitespace_is in
    λ classes fits. record {
      characters = λ x. false;
      covers = λ x l. ap (λ rs. is_covered rs x) c.new.ensures.items;
      takes = no_blanks (grammar_in p) classes w;
    }
