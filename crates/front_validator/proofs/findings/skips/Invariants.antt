use Rattle.std.proofs.Common.{take}
use Rattle.front_spanned.specs.Nodes.{rule_views}
use Rattle.front_validator.specs.Findings.{OfSkipped, Reports}
use Rattle.front_analysis.specs.Names.{grammar_of}
use Rattle.front_validator.specs.Reporting.{findings_of}
use Rattle.front_validator.proofs.findings.skips.Given as goal

abbrev pub invariant-loop-place : goal.invariant-loop-place
invariant-loop-place l = Reports (OfSkipped (grammar_of l.rules)) (rule_views (take l.place l.rules)) (findings_of l.found.items)
