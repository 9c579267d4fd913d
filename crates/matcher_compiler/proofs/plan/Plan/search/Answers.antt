use Rattle.std.proofs.Common.{map}
use Rattle.base_ast.specs.Ast.{text_of}
use Rattle.base_language.specs.Language.Expression.{Skip}
use Rattle.base_language.specs.Language.Meaning.{Run}
use Rattle.matcher_sets.specs.Modes.{mode_of}
use Rattle.matcher_compiler.proofs.plan.Plan.search.Goals as goal

pub returns-in_ok-span-in-Some-clause-lays : goal.returns-in_ok-span-in-Some-clause-lays
returns-in_ok-span-in-Some-clause-lays c =
    let p = c.args.program.now in
    let q = mode_of c.args.at.mode in
    c.in_ok-span-in-Some.ensures.lays p (Run q (Skip (map text_of c.args.texts.now.items))) ((rw c.in-Some.is at c.in_ok-made.ensures) p q)
