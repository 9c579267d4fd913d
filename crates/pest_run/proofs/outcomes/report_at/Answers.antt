use Rattle.std.proofs.Common.{◌∙◌, ap, ap₂}
use Rattle.base_language.specs.Pieces.LineColumn.{line_column}
use Rattle.base_language.specs.Pieces.PrintedError.{message_of, printed_line}
use Rattle.base_language.specs.declared.runtime.errors.LineColLocation.TheVariants.{Pos}
use Rattle.pest_run.proofs.outcomes.report_at.Goals as goal

pub returns : goal.returns
returns c =
    let text = c.in-Some.ensures.text in
    let place = c.in-Some.ensures.place in
    record {
      error = c.in_ok-error.error;
      says = ap message_of c.in_ok-error.ensures.variant;
      at_place = c.in_ok-error.ensures.line_col ∙ ap₂ (λ t p. Pos (line_column t p)) text place;
      line = c.in_ok-error.ensures.line ∙ ap₂ printed_line text place;
      shows = c.in_ok-show_error.ensures;
    }
