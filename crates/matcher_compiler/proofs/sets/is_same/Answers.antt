use Rattle.std.proofs.Common.{◌∙◌, sym}
use Rattle.matcher_compiler.proofs.Sharing.{same_ranges}
use Rattle.matcher_compiler.proofs.sets.is_same.Goals as goal

pub returns : goal.returns
returns c = λ e. same_ranges c.args.one.now.items c.args.other.now.items (sym c.eq.ensures ∙ e)
