use Rattle.pest_language_server.proofs.requests.answer_in.Goals as goal

pub returns-in-DocumentSymbol : goal.returns-in-DocumentSymbol
returns-in-DocumentSymbol c = rw c.in-DocumentSymbol.is c.document_symbols.ensures

pub returns-in-FoldingRange : goal.returns-in-FoldingRange
returns-in-FoldingRange c = rw c.in-FoldingRange.is c.folding_ranges.ensures

pub returns-in-SelectionRange : goal.returns-in-SelectionRange
returns-in-SelectionRange c = rw c.in-SelectionRange.is c.selection_ranges.ensures

pub returns-in-Definition : goal.returns-in-Definition
returns-in-Definition c = rw c.in-Definition.is c.definition.ensures

pub returns-in-References : goal.returns-in-References
returns-in-References c = rw c.in-References.is c.references.ensures

pub returns-in-DocumentHighlight : goal.returns-in-DocumentHighlight
returns-in-DocumentHighlight c = rw c.in-DocumentHighlight.is c.highlights.ensures

pub returns-in-PrepareRename : goal.returns-in-PrepareRename
returns-in-PrepareRename c = rw c.in-PrepareRename.is c.prepare_rename.ensures

pub returns-in-Rename : goal.returns-in-Rename
returns-in-Rename c = rw c.in-Rename.is c.rename_rule.ensures

pub returns-in-Hover : goal.returns-in-Hover
returns-in-Hover c = rw c.in-Hover.is c.hover.ensures

pub returns-in-Completion : goal.returns-in-Completion
returns-in-Completion c = rw c.in-Completion.is c.completions.ensures

pub returns-in-Formatting : goal.returns-in-Formatting
returns-in-Formatting c = rw c.in-Formatting.is c.format_document.ensures

pub returns-in-RangeFormatting : goal.returns-in-RangeFormatting
returns-in-RangeFormatting c = rw c.in-RangeFormatting.is c.format_range.ensures

pub returns-in-CodeAction : goal.returns-in-CodeAction
returns-in-CodeAction c = rw c.in-CodeAction.is c.code_actions.ensures

pub returns-in-SemanticTokens : goal.returns-in-SemanticTokens
returns-in-SemanticTokens c = rw c.in-SemanticTokens.is c.semantic_tokens.ensures
