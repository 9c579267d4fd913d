-- The messages of what can be wrong with rules.
use Rattle.std.specs.Prelude.{ℕ, List, string_bytes}
use Rattle.std.specs.List.{join_by}
use Rattle.base_language.specs.Language.Expression.{comment, whitespace}
use Rattle.front_names.specs.Messages.{arrow, cannot_fail, left_recursion, non_progressing, repeated_expression, tag_on_builtin, tag_on_silent_rule, unreachable_choices}
use Rattle.front_validator.specs.declared.problems.LoopBody.{LoopBody}
use Rattle.front_validator.specs.declared.problems.LoopBody.TheVariants as body_is
use Rattle.front_validator.specs.declared.problems.RuleProblem.{RuleProblem}
use Rattle.front_validator.specs.declared.problems.RuleProblem.TheVariants as problem_is

-- the subject of messages about what is repeated
abbrev pub subject : LoopBody → List ℕ
subject body_is.Expression = repeated_expression
subject body_is.Whitespace = whitespace
subject body_is.Comment = comment

-- the message about a piece that is written like this
abbrev pub message_of : RuleProblem → List ℕ → List ℕ
message_of (problem_is.CannotFail body) written = cannot_fail (subject body)
message_of (problem_is.NonProgressing body) written = non_progressing (subject body)
message_of problem_is.UnreachableChoices written = unreachable_choices
message_of (problem_is.LeftRecursion names) written =
    left_recursion written (join_by string_bytes arrow names.items)
message_of problem_is.TagOnSilentRule written = tag_on_silent_rule
message_of problem_is.TagOnBuiltin written = tag_on_builtin
