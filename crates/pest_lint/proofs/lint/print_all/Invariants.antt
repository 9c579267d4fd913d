use Rattle.std.proofs.Common.{◌≡◌, ℕ, List, Option, drop}
use Rattle.std.specs.List.{AllZip}
use Rattle.std.specs.Io.KnownBytes.{Appends}
use Rattle.lint_output.specs.Locations.{IsIndexOf}
use Rattle.lint_output.specs.Prints.{IsExact}
use Rattle.pest_lint.specs.Shows.{ArePrinted, joined}
use Rattle.pest_lint.proofs.lint.print_all.Given as goal

-- nothing was refused, and with the diagnostics that are left all are printed
abbrev pub invariant-loop-diagnostic : goal.invariant-loop-diagnostic
invariant-loop-diagnostic g l = record {
  taken : l.out.refused ≡ l.fn.out.refused;
  rest : IsIndexOf l.origin.text.now l.origin.lines.now → (texts : List (List ℕ)) (final : Option (List ℕ))
      → AllZip (IsExact l.style l.origin.name.now l.origin.text.now) (drop l.diagnostic-index l.diagnostics) texts
      → Appends (g.W.Write.contents l.out.writer) final (joined texts)
      → (bytes : List ℕ) × ArePrinted l.style l.origin.name.now l.origin.text.now l.diagnostics bytes
      × Appends (g.W.Write.contents l.fn.out.writer) final bytes;
}
