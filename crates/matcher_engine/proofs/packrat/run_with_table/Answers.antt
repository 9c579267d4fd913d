use Rattle.std.proofs.Common.{◌<◌, inl, inr, length, subst, sym}
use Rattle.matcher_code.specs.Bytecodes.{lists_in}
use Rattle.matcher_machine.specs.Packrats.{most_turns}
use Rattle.matcher_engine.specs.declared.matcher.ParseTree.{ParseTree}
use Rattle.matcher_engine.proofs.Recognized.{ends_here, failed_here, packrat_here, within_here}
use Rattle.matcher_engine.proofs.packrat.run_with_table.Goals as goal

pub returns-in-Found-clause-right : goal.returns-in-Found-clause-right
returns-in-Found-clause-right c = λ p exact is framed n meant classes fits.
    let run = c.in_ok-run.run' in
    let it : ParseTree = record { trees = run.trees; end = c.in-Found.end; furthest = run.furthest } in
    packrat_here p exact (lists_in c.args.code.now) is n c.args.number meant c.args.start c.whole_text-text.result.now c.pos.result c.whole_text-text.ensures c.pos.ensures c.whole_text-text.utf8 c.args.start.at_character c.in-Some.entry c.in-Some.ensures classes fits
    it (c.in_ok-run.ensures.matched framed c.in-Found.end c.in-Found.is)

pub returns-in-Failed-clause-right : goal.returns-in-Failed-clause-right
returns-in-Failed-clause-right c = λ p exact is framed n meant classes fits.
    let run = c.in_ok-run.run' in
    failed_here p exact (lists_in c.args.code.now) is n c.args.number meant c.args.start c.whole_text-text.result.now c.pos.result c.whole_text-text.ensures c.pos.ensures c.whole_text-text.utf8 c.args.start.at_character c.in-Some.entry c.in-Some.ensures classes fits run.furthest
    (rw c.in-Failed.is at c.in_ok-run.ensures.answer)

pub returns-in-Endless-clause-answered : goal.returns-in-Endless-clause-answered
returns-in-Endless-clause-answered c = λ p exact is n meant enough x.
    let text = c.whole_text-text.result.now in
    let code = lists_in c.args.code.now in
    let e = c.whole_text-text.ensures in
    let ends = ends_here p exact code is n c.args.number meant c.args.start text c.pos.result e c.pos.ensures c.whole_text-text.utf8 c.args.start.at_character c.in-Some.entry c.in-Some.ensures x.classes x.fits x.outcome x.found in
    let within = within_here p exact code is n c.args.number meant c.args.start text c.pos.result e c.pos.ensures c.whole_text-text.utf8 c.args.start.at_character c.in-Some.entry c.in-Some.ensures x.classes x.fits in
    let more = subst (λ t. most_turns (length code.ops) (length t) < c.args.turns) (sym e) enough.more in
    let answered = c.in_ok-run.ensures.answered enough.stackless within more ends.0 ends.1 in
    elim c.in-Endless.is [
      | inl e ↦ rw e at answered
      | inr f ↦ elim f [ inl e ↦ rw e at answered | inr e ↦ rw e at answered ]
    ]
