use Rattle.std.proofs.Common.{◌∙◌}
use Rattle.front_analysis.proofs.NameLemmas.{empty_text}
use Rattle.front_stack_loops.proofs.kinds.is_empty_text.Goals as goal

pub returns : goal.returns
returns c = c.is_empty.ensures ∙ empty_text c.args.text.now
