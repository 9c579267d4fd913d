use Rattle.std.proofs.Common.{◌∙◌, ◌++◌, ap, ap₂, codes, refl, string_bytes}
use Rattle.std.proofs.lemmas.Result.{IfOk-weaker}
use Rattle.program_support.specs.Messages.{placed_lines}
use Rattle.program_support.proofs.messages.place_error.Goals as goal

pub returns : goal.returns
returns c =
    IfOk-weaker c.place_lines.result _ _
    (λ placed written. record {
      error = c.args.error.now;
      lines = string_bytes c.in_ok-lines.lines;
      prints = refl;
      excerpt = c.in_ok-lines.ensures;
      whole = written
          ∙ ap (λ before. placed_lines before c.start_of-start.result c.as_str-2.result.now) (c.as_str.ensures.value ∙ c.in_ok-prefix.ensures.ok)
          ∙ ap₂ (placed_lines (c.args.name.now ++ codes ":")) c.start_of-start.ensures c.as_str-2.ensures.value;
    })
    c.place_lines.ensures
