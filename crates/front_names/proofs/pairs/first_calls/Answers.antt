use Rattle.std.proofs.Common.{◌≡◌, ◌∙◌, ◌∷◌, ◌++◌, ap, get_or, rules, subst, sym, map, refl, append-nil}
use Rattle.std.specs.Prelude.{bytes_eq}
use Rattle.std.specs.HashSet.{contains_by}
use Rattle.base_language.specs.Pieces.Saying.{piece_of, written}
use Rattle.base_language.specs.Language.Text.{Text}
use Rattle.base_language.specs.Language.Builtins.{is_one_of}
use Rattle.front_names.specs.Names.{first_places}
use Rattle.front_names.specs.NameSets.{HasNames}
use Rattle.front_names.proofs.Places.{has_more, none_left, pieces_left, first_more, first_less, was_there, was_not_there}
use Rattle.front_names.proofs.pairs.first_calls.Goals as goal
use Rattle.front_names.proofs.pairs.first_calls.Goals.{then-branch+in_ok-push, else-branch}

pub loop-call-init : goal.loop-call-init
loop-call-init c = λ before has. (before, has, rw c.new-first.ensures.items refl)

pub loop-call-preserved : goal.loop-call-preserved
loop-call-preserved c = λ before has.
    let i = c.loop-call.invariant before has in
    let x = c.call-item.result in
    let name = c.as_str-name.result in
    let at : x ≡ get_or c.args.calls.now c.loop-call.call-index x = search (rules, c.call-item.is) in
    let left = pieces_left c.args.calls.now c.loop-call.call-index x at c.loop-call-test.true in
    let more : HasNames (written (piece_of x) ∷ i.0) c.insert.new.self =
    subst (λ (n : Text). HasNames (n ∷ i.0) c.insert.new.self) c.as_str-name.ensures (has_more i.0 c.loop-call.known c.insert.new.self name i.1 c.in_ok-insert.ensures.updates) in
    let named = subst (λ (n : Text). contains_by (λ k. bytes_eq name.now k.now) c.loop-call.known ≡ is_one_of i.0 n) c.as_str-name.ensures (i.1 name) in
    elim c.if-branch.branch [
      | then-branch+in_ok-push w ↦ (
        written (piece_of x) ∷ i.0,
        more,
        rw (w.first-is, w.in_ok-push.ensures.items) (first_more _ i.0 c.loop-call.first.items name (piece_of x) _ _ left c.as_str-name.ensures (was_not_there _ _ _ c.in_ok-insert.ensures.added w.if-branch.true named) i.2),
      )
      | else-branch w ↦ (
        written (piece_of x) ∷ i.0,
        more,
        rw w.first-is (first_less _ i.0 c.loop-call.first.items (piece_of x) _ _ left (was_there _ _ _ c.in_ok-insert.ensures.added w.if-branch.false named) i.2),
      )
    ]

pub returns : goal.returns
returns c = λ before has.
    let i = c.loop-call.invariant before has in
    sym (i.2 ∙ ap (λ rest. map (λ t. t.now) c.loop-call.first.items ++ map written (first_places i.0 rest)) (none_left c.args.calls.now c.loop-call.call-index c.loop-call-test.false) ∙ append-nil _)
