use Rattle.std.proofs.Common.{◌≡◌, ◌≤◌, ℕ, List, All, Option, drop, max, take}
use Rattle.std.specs.List.{AllZip}
use Rattle.std.specs.Io.KnownBytes.{Appends}
use Rattle.pest_lint.specs.Shows.{GainsAll, IsClean, Look, Shows, asked_of, bytes_of, highest}
use Rattle.pest_lint.proofs.lint.print_files.Given as goal

-- nothing was refused, and with the files that are left all are shown
abbrev pub invariant-loop-source : goal.invariant-loop-source
invariant-loop-source g l = record {
  known : l.status ≤ 3;
  clean : l.status ≡ 0 → All IsClean (take l.source-index l.sources);
  taken : l.out.refused ≡ l.fn.out.refused;
  rest : (looks : List Look) (n : ℕ) (final : Option (List ℕ))
      → AllZip (λ source look. Shows (asked_of l.settings) l.style source look.bytes look.status) (drop l.source-index l.sources) looks
      → n ≡ max l.status (highest looks) → Appends (g.W.Write.contents l.out.writer) final (bytes_of looks)
      → GainsAll (asked_of l.settings) l.style l.sources n (g.W.Write.contents l.fn.out.writer) final;
}
