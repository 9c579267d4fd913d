use Rattle.std.proofs.Common.{take}
use Rattle.base_ast.specs.Ast.{rules_of}
use Rattle.doc_markup.specs.Pages.{AreNames}
use Rattle.doc_pages.proofs.read.GrammarDoc.names.Given as goal

abbrev pub invariant-loop-rule : goal.invariant-loop-rule
invariant-loop-rule l = AreNames (rules_of (take l.rule-index l.self.rules.value.items)) l.names.items
