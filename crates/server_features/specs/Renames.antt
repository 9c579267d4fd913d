-- Names that comments state.
use Rattle.std.specs.Prelude.{ℕ, ◌+◌, List, length, map}
use Rattle.lint_findings.specs.Fragments.{Fragment}
use Rattle.lint_findings.specs.Starts.{stated_starts}
use Rattle.server_symbols.specs.declared.tokens.Extent.{Extent}

-- the bytes of a part of a text
abbrev pub extent_of : Fragment → Extent
extent_of part = record { start = part.start; end = part.start + length part.text }

-- where a text states the names of its starts
abbrev pub stated_names : List ℕ → List Extent
stated_names text = map extent_of (stated_starts text)
