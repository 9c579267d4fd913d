use Rattle.std.proofs.Common.{string_bytes, take}
use Rattle.base_ast.specs.Ast.{rules_of}
use Rattle.doc_pages.specs.Documents.{EndsWithSections}
use Rattle.doc_pages.proofs.html.push_sections.Given as goal

abbrev pub invariant-loop-number : goal.invariant-loop-number
invariant-loop-number l =
    EndsWithSections l.names (rules_of (take l.number l.doc.rules.value.items)) (string_bytes l.fn.page) (string_bytes l.page)
