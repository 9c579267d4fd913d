use Rattle.std.proofs.Common.{◌≡◌, ◌∙◌, ◌++◌, ap, ap₂, rules, string_bytes}
use Rattle.std.specs.Prelude.{codes}
use Rattle.base_language.specs.Pieces.LineColumn.{line_column}
use Rattle.pest_run.specs.Messages.{place_text}
use Rattle.pest_run.proofs.messages.unnamed_note.Goals as goal

pub returns : goal.returns
returns c =
    let shown : string_bytes c.in_ok-shown.shown ≡ place_text (line_column c.args.text.now c.args.place) = search rules in
    c.in_ok-push_str-3.ensures.bytes
    ∙ ap₂ (λ a b. a ++ b)
    (c.in_ok-push_str-2.ensures.bytes
    ∙ ap₂ (λ a b. a ++ b)
    (c.in_ok-push_str.ensures.bytes ∙ ap (λ a. a ++ codes "; what is expected at ") c.in_ok-note.ensures)
    (c.as_str.ensures.value ∙ shown))
    (c.as_str-2.ensures.value ∙ c.in_ok-limit.ensures)
