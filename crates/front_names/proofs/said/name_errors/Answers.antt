use Rattle.std.proofs.Common.{◌≡◌, ◌∙◌, [], ◌∷◌, ◌+◌, List, add-one, append-nil, append_assoc, drop, drop-cons, get_or, map, refl, rules, sym}
use Rattle.std.proofs.lemmas.List.{drop_all}
use Rattle.base_language.specs.Pieces.Saying.{AreErrorsFor, piece_of}
use Rattle.base_language.specs.declared.grammar.Rule.{Rule}
use Rattle.base_language.specs.declared.runtime.errors.Error.{Error}
use Rattle.front_names.specs.NameFindings.{told_by}
use Rattle.front_names.specs.Names.{AreIn}
use Rattle.front_names.proofs.said.name_errors.Goals as goal

pub error_in-requires : goal.error_in-requires
error_in-requires c =
    let x = c.finding-item.result in
    let at : x ≡ get_or c.args.findings.now c.loop-finding.finding-index x = search (rules, c.finding-item.is) in
    let left : drop c.loop-finding.finding-index c.args.findings.now ≡ x ∷ drop (c.loop-finding.finding-index + 1) c.args.findings.now =
    rw (drop-cons c.args.findings.now c.loop-finding.finding-index x c.loop-finding-test.true, ← at, add-one) refl in
    let here : AreIn c.args.text.now (map (λ finding. piece_of finding.span) (x ∷ drop (c.loop-finding.finding-index + 1) c.args.findings.now)) = rw left at c.loop-finding.invariant.in_text in
    record { in_text = here.0 ∙ sym c.loop-finding.invariant.text }

pub loop-finding-preserved : goal.loop-finding-preserved
loop-finding-preserved c =
    let x = c.finding-item.result in
    let at : x ≡ get_or c.args.findings.now c.loop-finding.finding-index x = search (rules, c.finding-item.is) in
    let left : drop c.loop-finding.finding-index c.args.findings.now ≡ x ∷ drop (c.loop-finding.finding-index + 1) c.args.findings.now =
    rw (drop-cons c.args.findings.now c.loop-finding.finding-index x c.loop-finding-test.true, ← at, add-one) refl in
    let here : AreIn c.args.text.now (map (λ finding. piece_of finding.span) (x ∷ drop (c.loop-finding.finding-index + 1) c.args.findings.now)) = rw left at c.loop-finding.invariant.in_text in
    let told : (more : List (Error Rule)) → AreErrorsFor (told_by (x ∷ drop (c.loop-finding.finding-index + 1) c.args.findings.now)) more → _ = rw left at c.loop-finding.invariant.told in
    record {
      text = c.in_ok-error.ensures.survey ∙ c.loop-finding.invariant.text;
      in_text = here.1;
      told = λ more t. rw (c.in_ok-push.ensures.items, append_assoc) (told (c.in_ok-error.error ∷ more) (c.in_ok-error.ensures.says, t));
    }

pub returns-clause-told : goal.returns-clause-told
returns-clause-told c =
    let none : drop c.loop-finding.finding-index c.args.findings.now ≡ [] = drop_all c.loop-finding.finding-index c.args.findings.now c.loop-finding-test.false in
    let t : AreErrorsFor (told_by (drop c.loop-finding.finding-index c.args.findings.now)) [] = rw none tt in
    rw append-nil at (c.loop-finding.invariant.told [] t)
