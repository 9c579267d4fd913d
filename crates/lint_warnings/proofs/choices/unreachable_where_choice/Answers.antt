use Rattle.std.proofs.Common.{◌∙◌, ap, map, sym}
use Rattle.front_spanned.specs.Nodes.{piece_of, view}
use Rattle.lint_warnings.proofs.Choosing.{alone_has_none}
use Rattle.lint_warnings.proofs.Steps.{only_choice}
use Rattle.lint_warnings.proofs.choices.unreachable_where_choice.Goals as goal

pub returns-in_default : goal.returns-in_default
returns-in_default c =
    let v = view c.args.whole.now in
    let one = only_choice v c.operands_of.result c.operands_of.ensures c.in_default.not-Choice in
    ap (map piece_of) c.new.ensures.items ∙ sym (alone_has_none v one)
