use Rattle.std.proofs.lemmas.Result.{IfOk-weaker}
use Rattle.matcher_compiler.specs.Names.{number_in}
use Rattle.test_calls.proofs.matcher.tree_text.Goals as goal

pub returns : goal.returns
returns c =
    IfOk-weaker c.tree_text.result _ _
    (λ lines h g named n s classes x. h (number_in g) x.trees (c.walk_names.ensures g named n s classes x))
    c.tree_text.ensures
