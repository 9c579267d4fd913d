use Rattle.std.specs.Prelude.{Contains, IfSome}
use Rattle.lint_lexemes.specs.Lexemes.{bytes_of}
use Rattle.lint_lexemes.proofs.names.nearest_name.Given as goal

abbrev pub invariant-loop-other : goal.invariant-loop-other
invariant-loop-other l = IfSome l.best (λ found. Contains (bytes_of l.names) found.now)
