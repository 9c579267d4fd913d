use Rattle.std.proofs.Common.{◌≡◌, string_bytes}
use Rattle.lint_findings.specs.Fixes.{AreFixed, IsErrorOf}
use Rattle.lint_findings.proofs.fixes.mend.Given as goal

abbrev pub invariant-loop-count : goal.invariant-loop-count
invariant-loop-count l = record {
  fixed : AreFixed l.takes_unsafe l.text l.mended.count (string_bytes l.mended.text);
  error : IsErrorOf (string_bytes l.mended.text) l.mended.error;
  count : l.mended.count ≡ l.count;
}
