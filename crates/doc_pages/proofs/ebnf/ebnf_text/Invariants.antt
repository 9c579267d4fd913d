use Rattle.std.proofs.Common.{string_bytes, take}
use Rattle.base_ast.specs.Ast.{rules_of}
use Rattle.doc_markup.specs.Pages.{AreDefinitions}
use Rattle.doc_pages.proofs.ebnf.ebnf_text.Given as goal

abbrev pub invariant-loop-rule : goal.invariant-loop-rule
invariant-loop-rule l = AreDefinitions (rules_of (take l.rule-index l.doc.rules.value.items)) (string_bytes l.text)
