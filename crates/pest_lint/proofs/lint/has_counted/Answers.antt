use Rattle.std.proofs.Common.{rules, tests}
use Rattle.std.proofs.lemmas.Iterator.{YieldsList-from_slice}
use Rattle.std.proofs.lemmas.Iterator.Search.{any_from_yields_List}
use Rattle.pest_lint.specs.Shows.{asked_of, counts}
use Rattle.pest_lint.proofs.lint.has_counted.Goals as goal

pub returns : goal.returns
returns c =
    any_from_yields_List (counts (asked_of c.args.settings)) _ _ _ c.any.ensures.ran
    (YieldsList-from_slice c.args.diagnostics.now cc) (λ x b q k. search (rules, tests))
