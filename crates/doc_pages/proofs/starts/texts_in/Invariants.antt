use Rattle.std.proofs.Common.{◌≡◌, map, take}
use Rattle.lint_findings.specs.Fragments.{fragment_of}
use Rattle.lint_findings.specs.Starts.{names_of}
use Rattle.lint_warnings.specs.Lists.{texts_of}
use Rattle.doc_pages.proofs.starts.texts_in.Given as goal

abbrev pub invariant-loop-fragment : goal.invariant-loop-fragment
invariant-loop-fragment l = texts_of l.texts.items ≡ names_of (map fragment_of (take l.fragment-index l.fragments))
