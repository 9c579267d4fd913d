use Rattle.std.proofs.Common.{string_bytes}
use Rattle.lint_diagnostics.specs.Fixing.{none}
use Rattle.lint_diagnostics.proofs.fixes.fix_text.Goals as goal

pub returns-then-is_some : goal.returns-then-is_some
returns-then-is_some c = record {
  count = c.in_ok-mended.mended.count;
  between = string_bytes c.in_ok-mended.mended.text;
  syntax = c.in_ok-mended.ensures.fixed;
  others = none;
}
