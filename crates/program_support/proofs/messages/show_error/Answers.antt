use Rattle.std.proofs.Common.{◌∙◌, ap, ap₂, string_bytes}
use Rattle.std.proofs.lemmas.Result.{IfOk-weaker}
use Rattle.std.specs.Option.{option_copied}
use Rattle.base_language.specs.Pieces.PrintedError.{start_of}
use Rattle.program_support.specs.Messages.{error_lines, file_prefix}
use Rattle.program_support.proofs.messages.show_error.Goals as goal

pub returns : goal.returns
returns c =
    let prefix = file_prefix (option_copied c.args.file) in
    let start = start_of c.args.error.now.line_col in
    let said = c.as_str-3.result.now in
    IfOk-weaker c.error_lines.result _ _
    (λ shown written. record {
      lines = string_bytes c.in_ok-lines.lines;
      excerpt = c.in_ok-lines.ensures;
      whole = written
          ∙ ap (λ before. error_lines before c.start_of-start.result c.as_str-2.result.now said) (c.as_str.ensures.value ∙ c.in_ok-prefix.ensures)
          ∙ ap₂ (λ place lines. error_lines prefix place lines said) c.start_of-start.ensures c.as_str-2.ensures.value
          ∙ ap (error_lines prefix start (string_bytes c.in_ok-lines.lines)) (c.as_str-3.ensures.value ∙ c.in_ok-message.ensures);
    })
    c.error_lines.ensures
