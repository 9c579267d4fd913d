use Rattle.std.proofs.Common.{◌≡◌, ◌∙◌, ap, sym, subst, take, Some, slice_get, get_or, rules}
use Rattle.std.specs.Option.{option_map}
use Rattle.std.proofs.lemmas.Option.{slice_get-get_or, slice_get-map}
use Rattle.base_language.specs.Pieces.Saying.{IsErrorAt, AreErrorsFor}
use Rattle.front_validator.specs.Reporting.{finding_of, findings_of}
use Rattle.front_validator.proofs.PlacedLemmas.{InText, at_one}
use Rattle.front_validator.proofs.SortedLemmas.{told_nothing, told_step}
use Rattle.front_validator.proofs.reported.errors_in.Goals as goal

pub returns-then-is_empty-clause-told : goal.returns-then-is_empty-clause-told
returns-then-is_empty-clause-told c =
    subst (λ z. AreErrorsFor (findings_of c.args.found.now) z) (sym c.new-errors.ensures.items) (told_nothing c.args.found.now (sym c.is_empty.ensures ∙ c.if-is_empty.true))

pub loop-place-init : goal.loop-place-init
loop-place-init c = record {
  told = subst (λ z. AreErrorsFor (findings_of (take 0 c.args.found.now)) z) (sym c.new-errors.ensures.items) tt;
  text = search rules;
}

pub error_in-requires : goal.error_in-requires
error_in-requires c =
    let fs = c.args.found.now in
    let i = c.loop-place.place in
    let f = get_or fs i c.index-found-place.result in
    let at : slice_get fs i ≡ Some f = slice_get-get_or fs i c.index-found-place.result c.loop-place-test.true in
    let here = at_one (InText c.args.text.now) (findings_of fs) i (finding_of f) c.requires.in_text (slice_get-map finding_of fs i ∙ ap (option_map finding_of) at) in
    record { in_text = subst (λ z. InText c.args.text.now (finding_of z)) (sym c.index-found-place.is) here ∙ sym c.loop-place.invariant.text }

pub loop-place-preserved : goal.loop-place-preserved
loop-place-preserved c =
    let fs = c.args.found.now in
    let i = c.loop-place.place in
    let f = get_or fs i c.index-found-place.result in
    let at : slice_get fs i ≡ Some f = slice_get-get_or fs i c.index-found-place.result c.loop-place-test.true in
    record {
      told = told_step fs i f c.loop-place.errors.items c.push.new.self.items c.in_ok-error.error at c.in_ok-push.ensures.items
          (subst (λ z. IsErrorAt (finding_of z).message (finding_of z).span c.in_ok-error.error) c.index-found-place.is c.in_ok-error.ensures.tells) c.loop-place.invariant.told;
      text = c.in_ok-error.ensures.survey ∙ c.loop-place.invariant.text;
    }
