use Rattle.std.proofs.Common.{rules, tests}
use Rattle.std.proofs.lemmas.Iterator.{YieldsList-from_slice}
use Rattle.std.proofs.lemmas.Iterator.Search.{any_from_yields_List}
use Rattle.pest_lint.specs.Shows.{has_code}
use Rattle.pest_lint.proofs.lint.has_one_of.Goals as goal

pub returns : goal.returns
returns c =
    any_from_yields_List (has_code c.args.diagnostic.now) _ _ _ c.any.ensures.ran
    (YieldsList-from_slice c.args.codes.now cc) (λ x b q k. search (rules, tests))
