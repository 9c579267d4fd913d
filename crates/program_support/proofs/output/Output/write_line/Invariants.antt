use Rattle.std.proofs.Common.{◌≡◌, ℕ, List, Option, drop}
use Rattle.std.specs.Io.KnownBytes.{Appends}
use Rattle.program_support.specs.Lines.{line_of}
use Rattle.program_support.proofs.output.Output.write_line.Given as goal

-- nothing was refused, and with the rest of the line the whole of it is gained
abbrev pub invariant-loop-text : goal.invariant-loop-text
invariant-loop-text g l = record {
  taken : l.self.refused ≡ l.fn.self.refused;
  gained : (final : Option (List ℕ))
      → Appends (g.W.Write.contents l.self.writer) final (line_of (drop l.text-index l.texts))
      → Appends (g.W.Write.contents l.fn.self.writer) final (line_of l.texts);
}
