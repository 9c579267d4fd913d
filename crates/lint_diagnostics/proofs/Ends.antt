-- Ends of rules, from the answers of the matcher.
use Rattle.std.proofs.Common.{sym, ℕ, List, chars}
use Rattle.base_language.specs.Language.Expression.{Grammar}
use Rattle.matcher_engine.specs.ParseTrees.{HasParseTree}
use Rattle.matcher_engine.specs.declared.matcher.ParseTree.{ParseTree}
use Rattle.matcher_program.specs.Answers.{start_of}
use Rattle.matcher_support.specs.Compiled.{FailsIn}
use Rattle.matcher_support.specs.Sets.{is_in_property}
use Rattle.lint_diagnostics.specs.Differences.{EndsAs}
use Rattle.lint_diagnostics.specs.declared.difference.RuleEnd.TheVariants as rule_end

-- a match ends where its trees end
pub of_match : (g : Grammar) (rule text : List ℕ) (it : ParseTree) → HasParseTree g (chars rule) (start_of text) is_in_property it → EndsAs g (chars rule) text (rule_end.At it.end)
of_match g rule text it x = (x.state, x.trees, sym x.ends, x.found)

pub of_failure : (g : Grammar) (rule text : List ℕ) (place : ℕ) → FailsIn g rule text place → EndsAs g (chars rule) text rule_end.Failure
of_failure g rule text place f = f.0
