use Rattle.std.proofs.Common.{◌≡◌, drop, take}
use Rattle.std.specs.List.{AllZip}
use Rattle.lint_warnings.specs.Lists.{texts_of}
use Rattle.pest_lint.specs.Fixing.{IsKept}
use Rattle.pest_lint.proofs.fixes.fix_all.Given as goal

abbrev pub invariant-loop-source : goal.invariant-loop-source
invariant-loop-source l = record {
  made : AllZip (IsKept l.options.takes_unsafe (texts_of l.options.starts.now)) (take l.source-index l.fn.sources) (take l.source-index l.sources);
  others : drop l.source-index l.sources ≡ drop l.source-index l.fn.sources;
}
