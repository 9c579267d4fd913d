use Rattle.std.proofs.Common.{◌≡◌, take, encode_utf8_all, string_bytes}
use Rattle.base_ast.specs.Optimized.{optimized_rules_of}
use Rattle.pest_check.proofs.checks.lines_of.Given as goal
use Rattle.pest_meta.specs.ReadsBack.{grammar_text}

abbrev pub invariant-loop-rule : goal.invariant-loop-rule
invariant-loop-rule l = string_bytes l.text ≡ encode_utf8_all (grammar_text (optimized_rules_of (take l.rule-index l.rules)))
