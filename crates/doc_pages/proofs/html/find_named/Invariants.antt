use Rattle.std.proofs.Common.{take}
use Rattle.base_ast.specs.Ast.{rules_of}
use Rattle.doc_pages.specs.Documents.{HasNoneNamed}
use Rattle.doc_pages.proofs.html.find_named.Given as goal

abbrev pub invariant-loop-rule : goal.invariant-loop-rule
invariant-loop-rule l = HasNoneNamed l.name (rules_of (take l.rule-index l.rules))
