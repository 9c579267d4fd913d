use Rattle.std.proofs.Common.{◌≡◌, ◌∙◌, Bool, true, List, [], ◌∷◌, ◌++◌, length, nat_eq, eqb-true, sym, ap, map}
use Rattle.std.proofs.lemmas.List.{nil_from_length}
use Rattle.front_nodes.specs.Nodes.{named_trees_of}
use Rattle.base_language.specs.Pieces.Saying.{piece_of}
use Rattle.front_names.specs.GrammarNames.{names_in}
use Rattle.front_names.proofs.Trees.{all_stand-last, all_stand-push, all_stand-rest, names_inside, names_next, stand_behind, stand_inner, waiting_names, waiting_names-push}
use Rattle.front_names.proofs.found.add_names.Goals as goal
use Rattle.front_names.proofs.found.add_names.Goals.{then-not-is_empty+in_ok-push-in-Some, else-not-is_empty}

none_there : {X : Type 0} (xs : List X) (b : Bool) → b ≡ nat_eq (length xs) 0 → b ≡ true → xs ≡ []
none_there xs b p q = nil_from_length xs (eqb-true (length xs) 0 (sym p ∙ q))

pub trees-preserved-in-Some : goal.trees-preserved-in-Some
trees-preserved-in-Some c =
    let text = c.args.text.now in
    let ws = c.trees.waiting.items in
    let first = c.in-Some.tree in
    let s = rw c.in-Some.ensures at c.trees.invariant.here in
    elim c.if-not-is_empty.branch [
      | then-not-is_empty+in_ok-push-in-Some w ↦ rw (w.waiting-is, w.in_ok-push-in-Some.ensures.items) (record {
        here = stand_inner s;
        stand = all_stand-push text ws first.others c.trees.invariant.stand (stand_behind s);
        split = names_inside text ws (ws ++ first.others ∷ []) c.trees.rest first.inner first.others first.rule first.start first.end c.in-Some.ensures (map piece_of c.trees.names.items) (map piece_of c.add_own_name.new.names.items) _ c.in_ok-add_own_name-in-Some.ensures (waiting_names-push text ws first.others) c.trees.invariant.split;
      })
      | else-not-is_empty w ↦
          let none = none_there first.others.now c.is_empty.result c.is_empty.ensures w.if-not-is_empty.false in
          rw w.waiting-is (record {
            here = stand_inner s;
            stand = c.trees.invariant.stand;
            split = names_inside text ws ws c.trees.rest first.inner first.others first.rule first.start first.end c.in-Some.ensures (map piece_of c.trees.names.items) (map piece_of c.add_own_name.new.names.items) _ c.in_ok-add_own_name-in-Some.ensures (sym (ap (λ z. names_in text (named_trees_of z) ++ waiting_names text ws) none)) c.trees.invariant.split;
          })
    ]

pub trees-preserved : goal.trees-preserved
trees-preserved c =
    let text = c.args.text.now in
    let ws = c.pop.new.self.items in
    let next = c.in-Some-pop.next in
    let stand = rw c.in-Some-pop.ensures.items at c.trees.invariant.stand in
    record {
      here = all_stand-last text ws next stand;
      stand = all_stand-rest text ws next stand;
      split = names_next text ws c.trees.rest next c.in-None.ensures _ _ (rw c.in-Some-pop.ensures.items at c.trees.invariant.split);
    }
