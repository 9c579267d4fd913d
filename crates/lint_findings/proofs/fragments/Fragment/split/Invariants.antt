use Rattle.std.proofs.Common.{◌≡◌, ◌==◌, ◌++◌, ◌+◌, drop, length, map}
use Rattle.std.specs.List.{slice_split}
use Rattle.lint_findings.specs.Fragments.{fragment_of, placed_from, trimmed}
use Rattle.lint_findings.proofs.Placing.{Ends}
use Rattle.lint_findings.proofs.fragments.Fragment.split.Given as goal

abbrev pub invariant-loop-part : goal.invariant-loop-part
invariant-loop-part l =
    let left = drop (length l.yielded) (slice_split (λ b. b == l.fn.separator) l.fn.self.text.now) in
    record {
      ends : Ends l.at left (l.fn.self.start + length l.fn.self.text.now);
      whole : map fragment_of l.parts.items ++ map trimmed (placed_from l.at left)
          ≡ map trimmed (placed_from l.fn.self.start (slice_split (λ b. b == l.fn.separator) l.fn.self.text.now));
    }
