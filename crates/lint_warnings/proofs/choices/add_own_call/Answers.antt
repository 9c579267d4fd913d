use Rattle.std.proofs.Common.{◌∙◌, ◌++◌, ap, chars, option_to_list}
use Rattle.base_language.specs.Language.Builtins.{is_one_of}
use Rattle.lint_warnings.proofs.Known.{ok_map}
use Rattle.lint_warnings.proofs.Names.{name_at_end}
use Rattle.lint_warnings.proofs.choices.add_own_call.Goals as goal

pub returns-in-Some : goal.returns-in-Some
returns-in-Some c =
    ok_map c.add_name.result _ _ c.add_name.ensures (λ added names known other u.
    name_at_end names (chars c.in-Some.name.now) (chars other) _ _ (added other u) (known other u)
    ∙ ap (λ o. is_one_of (names ++ option_to_list o) (chars other)) c.in-Some.ensures)
