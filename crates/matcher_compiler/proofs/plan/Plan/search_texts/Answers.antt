use Rattle.std.proofs.Common.{map}
use Rattle.base_ast.specs.Ast.{text_of}
use Rattle.base_language.specs.Language.Expression.{Skip}
use Rattle.base_language.specs.Language.Meaning.{Run}
use Rattle.matcher_sets.specs.Modes.{mode_of}
use Rattle.matcher_compiler.proofs.Spanning.{nothing_searched}
use Rattle.matcher_compiler.proofs.plan.Plan.search_texts.Goals as goal

pub search_from-requires : goal.search_from-requires
search_from-requires c = record { starts = rw c.in-Some.is at c.in_ok-made.ensures.starts }

pub returns-in_ok-span-in-None-clause-lays : goal.returns-in_ok-span-in-None-clause-lays
returns-in_ok-span-in-None-clause-lays c =
    let p = c.args.program.now in
    let q = mode_of c.args.at.mode in
    let ts = map text_of c.args.texts.now.items in
    c.in_ok-span-in-None.ensures.lays p (Run q (Skip ts)) (nothing_searched ts _ (rw c.in-None.is at c.in_ok-made.ensures.empty) c.new.ensures.items p q)
