use Rattle.std.proofs.Common.{◌≡◌, ℕ, List, length, not, ◌&&◌, ◌||◌, bytes_eq}
use Rattle.std.specs.Prelude.{flat_map}
use Rattle.std.specs.Str.{IsUtf8, chars}
use Rattle.base_ast.specs.Ast.{text_of}
use Rattle.base_language.specs.Language.Builtins.{is_one_of}
use Rattle.front_spanned.specs.Nodes.{rule_view}
use Rattle.front_spanned.specs.Walk.{waiting}
use Rattle.lint_warnings.specs.Lists.{has_name}
use Rattle.lint_warnings.specs.Rules.{calls_another, name_called}
use Rattle.lint_warnings.proofs.rules.add_calls.Given as goal

abbrev pub invariant-loop-next : goal.invariant-loop-next
invariant-loop-next l = (name : List ℕ) → IsUtf8 name →
    (has_name l.called name || (not (bytes_eq (text_of l.fn.rule.name) (chars name)) && is_one_of (flat_map name_called (waiting l.stack.items)) (chars name)))
    ≡ (has_name l.fn.called name || calls_another (rule_view l.fn.rule) (chars name))

abbrev pub decreases-loop-next : goal.decreases-loop-next
decreases-loop-next l = length (waiting l.stack.items)
