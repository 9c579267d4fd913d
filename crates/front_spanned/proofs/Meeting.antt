-- How far a walk over nodes has come: the calls so far, and the nodes that wait.
use Rattle.std.proofs.Common.{◌≡◌, List, [], ◌∷◌, ◌++◌, Option, option_to_list, subst, refl, sym, ap, ◌∙◌, append_assoc, append-nil, Bor, Result, Ok, Err, OnErr}
use Rattle.front_spanned.proofs.Walks.{waiting_push}
use Rattle.front_spanned.specs.Nodes.{view}
use Rattle.front_spanned.specs.Spanned.{Spanned, Leaf, One, Two}
use Rattle.front_spanned.specs.Walk.{preorder, waiting, Answered, AnsweredAt, AnsweredFirst, Appended}
use Rattle.front_spanned.specs.declared.node.ParserNode.{ParserNode}

-- what holds anyway
pub on_err : {X E P : Type 0} (r : Result X E) → P → OnErr r P
on_err (Ok x) h = tt
on_err (Err e) h = h

-- a node comes before those inside it
node_first : (x : Spanned) → (others : List Spanned) × (preorder x ≡ x ∷ others)
node_first (Leaf s e) = ([], refl)
node_first (One s f x) = (preorder x, refl)
node_first (Two s f x y) = (preorder x ++ preorder y, refl)

module _ {F T : Type 0} (step : F → ParserNode → Option T → F → Type 0) where
  -- calls at the nodes of x that do not wait left `last`
  abbrev pub Met : F → Spanned → F → List Spanned → Type 0
  Met f x last others = (met : List Spanned) × (answers : List T) × (met ++ others ≡ preorder x) × Answered step f met last answers

  -- one more call after some
  answered_then : (f g last : F) (xs : List Spanned) (x : Spanned) (found : List T) (r : Option T) → Answered step f xs g found → AnsweredAt step g x r last
      → (answers : List T) × Answered step f (xs ++ x ∷ []) last answers
  answered_then f g last [] x found r h at =
      let P : F → Type 0 = λ k. AnsweredAt step k x r last in
      (option_to_list r ++ [], (r, last, [], subst P h.0 at, (refl, refl), refl))
  answered_then f g last (y ∷ xs) x found r (q, k, others, first, rest, e) at =
      let more = answered_then k g last xs x others r rest at in
      (option_to_list q ++ more.0, (q, k, more.0, first, more.1, refl))

  -- a call at the first that waits
  pub met_next : (f g last : F) (x : Spanned) (m : ParserNode) (y : Spanned) (r : Option T) (ws vs : List Spanned) → view m ≡ y → step g m r last → ws ≡ y ∷ vs → Met f x g ws → Met f x last vs
  met_next f g last x m y r ws vs e h i (met, answers, whole, calls) =
      let more = answered_then f g last met y answers r calls (record { node = m; reads = e; called = h }) in
      (met ++ y ∷ [], more.0, append_assoc met (y ∷ []) vs ∙ (ap (λ l. met ++ l) (sym i) ∙ whole), more.1)

  -- a walk that stops after the call at the node on top of its stack
  pub stops_after : (f g last : F) (x : Spanned) (m : ParserNode) (r : Option T) (ss ps : List (Bor ParserNode)) (n : Bor ParserNode)
      → view m ≡ view n.now → step g m r last → ss ≡ ps ++ n ∷ [] → Met f x g (waiting ss) → AnsweredFirst step f x last
  stops_after f g last x m r ss ps n e h i met =
      let first = node_first (view n.now) in
      let whole : waiting ss ≡ view n.now ∷ (first.0 ++ waiting ps) = ap waiting i ∙ (waiting_push ps n ∙ ap (λ l. l ++ waiting ps) first.1) in
      let after = met_next f g last x m (view n.now) r (waiting ss) (first.0 ++ waiting ps) e h whole met in
      (after.0, first.0 ++ waiting ps, after.1, after.2, after.3)

  -- a walk that comes to its end
  pub stops_at_end : (f : F) (x : Spanned) (last : F) (before after : List T) → Appended step f x last before after → AnsweredFirst step f x last
  stops_at_end f x last before after (answers, calls, e) = (preorder x, [], answers, append-nil (preorder x), calls)
