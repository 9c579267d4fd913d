use Rattle.std.proofs.Common.{◌∙◌, sym}
use Rattle.base_ast.specs.Ast.{text_of}
use Rattle.front_analysis.proofs.NameLemmas.{empty_text}
use Rattle.front_stack_loops.proofs.NameLemmas.{still_text, other_text}
use Rattle.front_stack_loops.proofs.kinds.kind_of_text.Goals as goal

pub returns-then-is_empty : goal.returns-then-is_empty
returns-then-is_empty c = still_text (text_of c.args.text.now) (sym (c.is_empty.ensures ∙ empty_text c.args.text.now) ∙ c.if-is_empty.true)

pub returns-else-is_empty : goal.returns-else-is_empty
returns-else-is_empty c = other_text (text_of c.args.text.now) (sym (c.is_empty.ensures ∙ empty_text c.args.text.now) ∙ c.if-is_empty.false)
