use Rattle.std.proofs.Common.{◌≡◌, ◌∷◌, ℕ, List, [], Bor, get_or, refl, rules, subst}
use Rattle.std.specs.Prelude.{bytes_eq}
use Rattle.std.specs.HashSet.{contains_by}
use Rattle.base_language.specs.Pieces.Saying.{piece_of, written}
use Rattle.base_language.specs.Language.Text.{Text}
use Rattle.base_language.specs.Language.Builtins.{is_one_of}
use Rattle.front_names.specs.NameSets.{HasNames}
use Rattle.front_names.proofs.Places.{all_taken, has_more, name_taken, none_left, pieces_left, later_more, later_less, was_there, was_not_there}
use Rattle.front_names.proofs.keywords.later.Goals as goal
use Rattle.front_names.proofs.keywords.later.Goals.{then-not-branch+in_ok-push, else-not-branch}

pub loop-place-init : goal.loop-place-init
loop-place-init c = record {
  later = ([], c.requires.empty, rw c.new-later.ensures.items refl);
  taken = λ name. rw (c.requires.empty name) refl;
}

pub loop-place-preserved : goal.loop-place-preserved
loop-place-preserved c =
    let i = c.loop-place.invariant.later in
    let x = c.place-item.result in
    let at : x ≡ get_or c.args.places.now c.loop-place.place-index x = search (rules, c.place-item.is) in
    let left = pieces_left c.args.places.now c.loop-place.place-index x at c.loop-place-test.true in
    let has : HasNames (written (piece_of x) ∷ i.0) c.insert.new.self =
    subst (λ (n : Text). HasNames (n ∷ i.0) c.insert.new.self) c.as_str.ensures (has_more i.0 c.loop-place.known c.insert.new.self c.as_str.result i.1 c.in_ok-insert.ensures.updates) in
    let named = subst (λ (n : Text). contains_by (λ k. bytes_eq c.as_str.result.now k.now) c.loop-place.known ≡ is_one_of i.0 n) c.as_str.ensures (i.1 c.as_str.result) in
    let taken : (name : Bor (List ℕ)) → _ = λ name. name_taken _ c.loop-place.known c.insert.new.self c.as_str.result name (piece_of x) _ _ left c.as_str.ensures c.in_ok-insert.ensures.updates (c.loop-place.invariant.taken name) in
    elim c.if-not-branch.branch [
      | then-not-branch+in_ok-push w ↦ record {
        taken = taken;
        later = (
          written (piece_of x) ∷ i.0,
          has,
          rw (w.later-is, w.in_ok-push.ensures.items) (later_more _ i.0 c.loop-place.later.items x _ _ left (was_there _ _ _ c.in_ok-insert.ensures.added w.if-not-branch.true named) i.2),
        );
      }
      | else-not-branch w ↦ record {
        taken = taken;
        later = (
          written (piece_of x) ∷ i.0,
          has,
          rw w.later-is (later_less _ i.0 c.loop-place.later.items x _ _ left (was_not_there _ _ _ c.in_ok-insert.ensures.added w.if-not-branch.false named) i.2),
        );
      }
    ]

pub returns-clause-known : goal.returns-clause-known
returns-clause-known c = λ name.
    all_taken _ _ name.now _ (none_left c.args.places.now c.loop-place.place-index c.loop-place-test.false) (c.loop-place.invariant.taken name)
