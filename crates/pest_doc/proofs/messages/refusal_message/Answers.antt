use Rattle.std.proofs.Common.{◌∙◌, ap, string_bytes}
use Rattle.std.proofs.lemmas.Result.{IfOk-weaker}
use Rattle.program_support.specs.Escapes.{escaped_lines}
use Rattle.pest_doc.proofs.messages.refusal_message.Goals as goal

pub returns : goal.returns
returns c =
    IfOk-weaker c.escape_lines.result _ _ (λ message e. record {
      errors = c.in-Ok.errors.items;
      made = c.in-Ok.ensures.made;
      diagnostics = c.in_ok-diagnostics.diagnostics.items;
      reported = c.in_ok-diagnostics.ensures;
      shown = string_bytes c.in_ok-shown.shown;
      parts = rw (c.deref.ensures.value, c.deref-2.ensures.value, c.as_str.ensures.value, c.in_ok-name.ensures) at c.in_ok-shown.ensures;
      escaped = e ∙ ap escaped_lines c.as_str-2.ensures.value;
    }) c.escape_lines.ensures
