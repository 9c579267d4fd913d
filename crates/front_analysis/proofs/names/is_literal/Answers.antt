use Rattle.std.proofs.Common.{◌∙◌, ap, nat_eq}
use Rattle.base_ast.proofs.Characters.{literal_eq}
use lib.Pointwise.{pointwise}
use Rattle.front_analysis.proofs.names.is_literal.Goals as goal

pub returns : goal.returns
returns c = c.eq.ensures ∙ ap (λ t. pointwise nat_eq t c.args.literal.now) c.as_str.ensures.value ∙ literal_eq c.args.name.now c.args.literal.now c.requires
