-- How maps go on: one node more, one frame less; and how they stop.
use Rattle.std.proofs.Common.{◌≡◌, List, [], ◌∷◌, ◌++◌, refl, ap, ◌∙◌, subst, sym, Result, Ok, Err}
use Rattle.std.specs.Global.{Box}
use Rattle.base_language.specs.Language.Expression.{Expression}
use Rattle.base_language.specs.Language.Expression as e
use Rattle.base_language.specs.declared.runtime.faults.Fault.{Fault}
use Rattle.base_ast.specs.Operands.{operands, over}
use Rattle.base_ast.specs.Maps.{Progress, Becomes, answered, refused, stayed, TopDown, EachTopDown, BottomUp, EachBottomUp, met, none_met, next_met, left, none_left, next_left}
use Rattle.base_ast.specs.Frames.{Unary, around, joined, Opens, leaf, one, two, Closes, enclosed, put_together, turned, AllClose, ClosesTopDown, ClosesBottomUp, EndsTopDown, EndsBottomUp}
use Rattle.base_ast.proofs.Frames.{operands-around, over-around, operands-joined, over-joined, over-nil, over-operands, last_closes, split_last}
use Rattle.base_ast.specs.declared.shape.Joint.{Joint}
use Rattle.base_ast.specs.declared.walks.WalkFrame.{WalkFrame}
use Rattle.base_ast.specs.declared.walks.WalkFrame.TheVariants as frame
use Rattle.base_ast.specs.declared.walks.Onward.{Onward}
use Rattle.base_ast.specs.declared.walks.Onward.TheVariants as onward

module _ {F E : Type 0} (says : E → Expression) (step : F → E → Result E Fault → F → Type 0) where
  answers : {f g : F} {x y : E} → step f x (Ok y) g → Becomes says step (Ok f) (says x) (says y) (Ok g)
  answers {x = x} {y = y} c = answered (record { node = x; answer = y; node_says = refl; answer_says = refl; called = c })

  refuses : {f g : F} {x : E} {fault : Fault} → step f x (Err fault) g → Becomes says step (Ok f) (says x) (says x) (Err fault)
  refuses {g = g} {x = x} c = refused (record { node = x; after = g; node_says = refl; called = c })

  met_around : (u : Unary) {f g h : Progress F} {a m x y : Expression} → Becomes says step f a m g → m ≡ around u x → TopDown says step g x y h → TopDown says step f a (around u y) h
  met_around u {f = f} {g = g} {h = h} {a = a} {m = m} {x = x} {y = y} c p t =
      let d : EachTopDown says step g (operands m) (y ∷ []) h = rw (p, operands-around u x) (next_met t none_met) in
      subst (λ z. TopDown says step f a z h) (ap (λ z. over z (y ∷ [])) p ∙ over-around u x y) (met c d)

  met_joined : (j : Joint) {f g h k : Progress F} {a m x y v w : Expression} → Becomes says step f a m g → m ≡ joined j x y → TopDown says step g x v h → TopDown says step h y w k → TopDown says step f a (joined j v w) k
  met_joined j {f = f} {g = g} {k = k} {a = a} {m = m} {x = x} {y = y} {v = v} {w = w} c p t s =
      let d : EachTopDown says step g (operands m) (v ∷ (w ∷ [])) k = rw (p, operands-joined j x y) (next_met t (next_met s none_met)) in
      subst (λ z. TopDown says step f a z k) (ap (λ z. over z (v ∷ (w ∷ []))) p ∙ over-joined j x y v w) (met c d)

  pub met_leaf : {f g : Progress F} {a m : Expression} → Becomes says step f a m g → operands m ≡ [] → TopDown says step f a m g
  met_leaf {f = f} {g = g} {a = a} {m = m} c p =
      let d : EachTopDown says step g (operands m) [] g = rw p none_met in
      subst (λ z. TopDown says step f a z g) (over-nil m) (met c d)

  left_around : (u : Unary) {f g h : Progress F} {a b x y : Expression} → a ≡ around u x → BottomUp says step f x y g → Becomes says step g (around u y) b h → BottomUp says step f a b h
  left_around u {f = f} {g = g} {h = h} {a = a} {b = b} {x = x} {y = y} p t c =
      let d : EachBottomUp says step f (operands a) (y ∷ []) g = rw (p, operands-around u x) (next_left t none_left) in
      left d (subst (λ z. Becomes says step g z b h) (sym (ap (λ z. over z (y ∷ [])) p ∙ over-around u x y)) c)

  left_joined : (j : Joint) {f g h k : Progress F} {a b x y v w : Expression} → a ≡ joined j x y → BottomUp says step f x v g → BottomUp says step g y w h → Becomes says step h (joined j v w) b k → BottomUp says step f a b k
  left_joined j {f = f} {h = h} {k = k} {a = a} {b = b} {x = x} {y = y} {v = v} {w = w} p t s c =
      let d : EachBottomUp says step f (operands a) (v ∷ (w ∷ [])) h = rw (p, operands-joined j x y) (next_left t (next_left s none_left)) in
      left d (subst (λ z. Becomes says step h z b k) (sym (ap (λ z. over z (v ∷ (w ∷ []))) p ∙ over-joined j x y v w)) c)

  pub left_leaf : {f g : Progress F} {a b : Expression} → operands a ≡ [] → Becomes says step f a b g → BottomUp says step f a b g
  left_leaf {f = f} {g = g} {a = a} {b = b} p c =
      let d : EachBottomUp says step f (operands a) [] f = rw p none_left in
      left d (subst (λ z. Becomes says step f z b g) (sym (over-nil a)) c)

  -- where a call answered a fault, nothing changes
  stays_top_down : (fault : Fault) (x : Expression) → TopDown says step (Err fault) x x (Err fault)
  stays_top_down fault (e.Str s) = met stayed none_met
  stays_top_down fault (e.Insens s) = met stayed none_met
  stays_top_down fault (e.Range s t) = met stayed none_met
  stays_top_down fault (e.Ident s) = met stayed none_met
  stays_top_down fault (e.PeekSlice i j) = met stayed none_met
  stays_top_down fault (e.Skip ss) = met stayed none_met
  stays_top_down fault (e.PushLiteral s) = met stayed none_met
  stays_top_down fault (e.RestoreOnErr x) = met stayed none_met
  stays_top_down fault (e.PosPred x) = met stayed (next_met (stays_top_down fault x) none_met)
  stays_top_down fault (e.NegPred x) = met stayed (next_met (stays_top_down fault x) none_met)
  stays_top_down fault (e.Opt x) = met stayed (next_met (stays_top_down fault x) none_met)
  stays_top_down fault (e.Rep x) = met stayed (next_met (stays_top_down fault x) none_met)
  stays_top_down fault (e.RepOnce x) = met stayed (next_met (stays_top_down fault x) none_met)
  stays_top_down fault (e.RepExact x i) = met stayed (next_met (stays_top_down fault x) none_met)
  stays_top_down fault (e.RepMin x i) = met stayed (next_met (stays_top_down fault x) none_met)
  stays_top_down fault (e.RepMax x i) = met stayed (next_met (stays_top_down fault x) none_met)
  stays_top_down fault (e.RepMinMax x i j) = met stayed (next_met (stays_top_down fault x) none_met)
  stays_top_down fault (e.Push x) = met stayed (next_met (stays_top_down fault x) none_met)
  stays_top_down fault (e.NodeTag x s) = met stayed (next_met (stays_top_down fault x) none_met)
  stays_top_down fault (e.Seq x y) = met stayed (next_met (stays_top_down fault x) (next_met (stays_top_down fault y) none_met))
  stays_top_down fault (e.Choice x y) = met stayed (next_met (stays_top_down fault x) (next_met (stays_top_down fault y) none_met))

  each_stays_top_down : (fault : Fault) (x : Expression) → EachTopDown says step (Err fault) (operands x) (operands x) (Err fault)
  each_stays_top_down fault (e.Str s) = none_met
  each_stays_top_down fault (e.Insens s) = none_met
  each_stays_top_down fault (e.Range s t) = none_met
  each_stays_top_down fault (e.Ident s) = none_met
  each_stays_top_down fault (e.PeekSlice i j) = none_met
  each_stays_top_down fault (e.Skip ss) = none_met
  each_stays_top_down fault (e.PushLiteral s) = none_met
  each_stays_top_down fault (e.RestoreOnErr x) = none_met
  each_stays_top_down fault (e.PosPred x) = next_met (stays_top_down fault x) none_met
  each_stays_top_down fault (e.NegPred x) = next_met (stays_top_down fault x) none_met
  each_stays_top_down fault (e.Opt x) = next_met (stays_top_down fault x) none_met
  each_stays_top_down fault (e.Rep x) = next_met (stays_top_down fault x) none_met
  each_stays_top_down fault (e.RepOnce x) = next_met (stays_top_down fault x) none_met
  each_stays_top_down fault (e.RepExact x i) = next_met (stays_top_down fault x) none_met
  each_stays_top_down fault (e.RepMin x i) = next_met (stays_top_down fault x) none_met
  each_stays_top_down fault (e.RepMax x i) = next_met (stays_top_down fault x) none_met
  each_stays_top_down fault (e.RepMinMax x i j) = next_met (stays_top_down fault x) none_met
  each_stays_top_down fault (e.Push x) = next_met (stays_top_down fault x) none_met
  each_stays_top_down fault (e.NodeTag x s) = next_met (stays_top_down fault x) none_met
  each_stays_top_down fault (e.Seq x y) = next_met (stays_top_down fault x) (next_met (stays_top_down fault y) none_met)
  each_stays_top_down fault (e.Choice x y) = next_met (stays_top_down fault x) (next_met (stays_top_down fault y) none_met)

  stays_bottom_up : (fault : Fault) (x : Expression) → BottomUp says step (Err fault) x x (Err fault)
  stays_bottom_up fault (e.Str s) = left none_left stayed
  stays_bottom_up fault (e.Insens s) = left none_left stayed
  stays_bottom_up fault (e.Range s t) = left none_left stayed
  stays_bottom_up fault (e.Ident s) = left none_left stayed
  stays_bottom_up fault (e.PeekSlice i j) = left none_left stayed
  stays_bottom_up fault (e.Skip ss) = left none_left stayed
  stays_bottom_up fault (e.PushLiteral s) = left none_left stayed
  stays_bottom_up fault (e.RestoreOnErr x) = left none_left stayed
  stays_bottom_up fault (e.PosPred x) = left (next_left (stays_bottom_up fault x) none_left) stayed
  stays_bottom_up fault (e.NegPred x) = left (next_left (stays_bottom_up fault x) none_left) stayed
  stays_bottom_up fault (e.Opt x) = left (next_left (stays_bottom_up fault x) none_left) stayed
  stays_bottom_up fault (e.Rep x) = left (next_left (stays_bottom_up fault x) none_left) stayed
  stays_bottom_up fault (e.RepOnce x) = left (next_left (stays_bottom_up fault x) none_left) stayed
  stays_bottom_up fault (e.RepExact x i) = left (next_left (stays_bottom_up fault x) none_left) stayed
  stays_bottom_up fault (e.RepMin x i) = left (next_left (stays_bottom_up fault x) none_left) stayed
  stays_bottom_up fault (e.RepMax x i) = left (next_left (stays_bottom_up fault x) none_left) stayed
  stays_bottom_up fault (e.RepMinMax x i j) = left (next_left (stays_bottom_up fault x) none_left) stayed
  stays_bottom_up fault (e.Push x) = left (next_left (stays_bottom_up fault x) none_left) stayed
  stays_bottom_up fault (e.NodeTag x s) = left (next_left (stays_bottom_up fault x) none_left) stayed
  stays_bottom_up fault (e.Seq x y) = left (next_left (stays_bottom_up fault x) (next_left (stays_bottom_up fault y) none_left)) stayed
  stays_bottom_up fault (e.Choice x y) = left (next_left (stays_bottom_up fault x) (next_left (stays_bottom_up fault y) none_left)) stayed

  module _ {S : Type 0} (stands_for : S → Unary) where
    -- a node with one operand, which is to be met next
    down_one : (ks ls : List (WalkFrame E S)) (s : S) (room : Box E) (o y x : E) (f g : F) → step f o (Ok y) g → says y ≡ around (stands_for s) (says x) → ls ≡ ks ++ (frame.Around s room ∷ [])
        → (w : Expression) (k : Progress F) → EndsTopDown says stands_for step (onward.Next x) ls (Ok g) w k → EndsTopDown says stands_for step (onward.Next o) ks (Ok f) w k
    down_one ks ls s room o y x f g c p q w k (d, h, t, a) =
        let i = split_last (ClosesTopDown says stands_for step) ks (frame.Around s room) h k d w (rw q at a) in
        (i.middle, i.state, rw (i.last.0, i.last.1) (met_around (stands_for s) (answers c) p t), i.others)

    -- a node with two, of which the left one is to be met next
    down_two : (ks ls : List (WalkFrame E S)) (j : Joint) (room y : Box E) (o z x : E) (f g : F) → step f o (Ok z) g → says z ≡ joined j (says x) (says y.value) → ls ≡ ks ++ (frame.Before j room y ∷ [])
        → (w : Expression) (k : Progress F) → EndsTopDown says stands_for step (onward.Next x) ls (Ok g) w k → EndsTopDown says stands_for step (onward.Next o) ks (Ok f) w k
    down_two ks ls j room y o z x f g c p q w k (d, h, t, a) =
        let i = split_last (ClosesTopDown says stands_for step) ks (frame.Before j room y) h k d w (rw q at a) in
        (i.middle, i.state, rw i.last.2 (met_joined j (answers c) p t i.last.1), i.others)

    -- the last frame is closed
    up_around : (ks ls : List (WalkFrame E S)) (s : S) (room : Box E) (x y : E) (f : Progress F) → says y ≡ around (stands_for s) (says x) → ls ≡ ks ++ (frame.Around s room ∷ [])
        → (w : Expression) (k : Progress F) → AllClose (ClosesTopDown says stands_for step) ks f (says y) w k → AllClose (ClosesTopDown says stands_for step) ls f (says x) w k
    up_around ks ls s room x y f p q w k a = rw q (last_closes (ClosesTopDown says stands_for step) ks (frame.Around s room) f k f (says x) (says y) w (p, refl) a)

    up_after : (ks ls : List (WalkFrame E S)) (j : Joint) (l room : Box E) (x y : E) (f : Progress F) → says y ≡ joined j (says l.value) (says x) → ls ≡ ks ++ (frame.After j l room ∷ [])
        → (w : Expression) (k : Progress F) → AllClose (ClosesTopDown says stands_for step) ks f (says y) w k → AllClose (ClosesTopDown says stands_for step) ls f (says x) w k
    up_after ks ls j l room x y f p q w k a = rw q (last_closes (ClosesTopDown says stands_for step) ks (frame.After j l room) f k f (says x) (says y) w (p, refl) a)

    -- the left side is done, and the right one is to be met next
    over_to_right : (ks ls ms : List (WalkFrame E S)) (j : Joint) (x room y rest : Box E) (f : Progress F) → ls ≡ ks ++ (frame.After j x rest ∷ []) → ms ≡ ks ++ (frame.Before j room y ∷ [])
        → (w : Expression) (k : Progress F) → EndsTopDown says stands_for step (onward.Next y.value) ls f w k → AllClose (ClosesTopDown says stands_for step) ms f (says x.value) w k
    over_to_right ks ls ms j x room y rest f q r w k (d, h, t, a) =
        let i = split_last (ClosesTopDown says stands_for step) ks (frame.After j x rest) h k d w (rw q at a) in
        rw r (last_closes (ClosesTopDown says stands_for step) ks (frame.Before j room y) f k i.state (says x.value) i.middle w (d, rw i.last.1 t, i.last.0) i.others)

    -- from what is opened on, and from what is closed on, a map ends as before
    pub opens_top_down : (ks ls : List (WalkFrame E S)) (o y : E) (f g : F) (next : Onward E) → step f o (Ok y) g → Opens says stands_for (says y) ks next ls
        → (w : Expression) (k : Progress F) → EndsTopDown says stands_for step next ls (Ok g) w k → EndsTopDown says stands_for step (onward.Next o) ks (Ok f) w k
    opens_top_down ks ls o y f g (onward.Done x) c (leaf p q e) w k a = (says y, Ok g, met_leaf (answers c) q, rw (e, p) at a)
    opens_top_down ks ls o y f g (onward.Next x) c (one s room p q) w k t = down_one ks ls s room o y x f g c p q w k t
    opens_top_down ks ls o y f g (onward.Next x) c (two j room z p q) w k t = down_two ks ls j room z o y x f g c p q w k t

    pub closes_top_down : (ks ls ms : List (WalkFrame E S)) (d : E) (k : WalkFrame E S) (next : Onward E) (f : Progress F) → ms ≡ ks ++ (k ∷ []) → Closes says stands_for ks d k next ls
        → (w : Expression) (t : Progress F) → EndsTopDown says stands_for step next ls f w t → EndsTopDown says stands_for step (onward.Done d) ms f w t
    closes_top_down ks ls ms d (frame.Around s room) (onward.Done x) f m (enclosed p q) w t a = up_around ks ms s room d x f p m w t (rw q at a)
    closes_top_down ks ls ms d (frame.After j l room) (onward.Done x) f m (put_together p q) w t a = up_after ks ms j l room d x f p m w t (rw q at a)
    closes_top_down ks ls ms d (frame.Before j room y) (onward.Next x) f m (turned done rest p r q) w t a =
        subst (λ z. AllClose (ClosesTopDown says stands_for step) ms f (says z) w t) p (over_to_right ks ls ms j done room y rest f q m w t (subst (λ z. EndsTopDown says stands_for step (onward.Next z) ls f w t) r a))
    closes_top_down ks ls ms d (frame.Around s room) (onward.Next _) f m c w t a = elim c [ ]
    closes_top_down ks ls ms d (frame.After j l room) (onward.Next _) f m c w t a = elim c [ ]
    closes_top_down ks ls ms d (frame.Before j room y) (onward.Done _) f m c w t a = elim c [ ]

    -- the same of maps from the leaves up
    open_one : (ks ls : List (WalkFrame E S)) (s : S) (room : Box E) (o x : E) (f : Progress F) → says o ≡ around (stands_for s) (says x) → ls ≡ ks ++ (frame.Around s room ∷ [])
        → (w : Expression) (k : Progress F) → EndsBottomUp says stands_for step (onward.Next x) ls f w k → EndsBottomUp says stands_for step (onward.Next o) ks f w k
    open_one ks ls s room o x f p q w k (d, h, t, a) =
        let i = split_last (ClosesBottomUp says stands_for step) ks (frame.Around s room) h k d w (rw q at a) in
        (i.middle, i.state, left_around (stands_for s) p t i.last, i.others)

    open_two : (ks ls : List (WalkFrame E S)) (j : Joint) (room y : Box E) (o x : E) (f : Progress F) → says o ≡ joined j (says x) (says y.value) → ls ≡ ks ++ (frame.Before j room y ∷ [])
        → (w : Expression) (k : Progress F) → EndsBottomUp says stands_for step (onward.Next x) ls f w k → EndsBottomUp says stands_for step (onward.Next o) ks f w k
    open_two ks ls j room y o x f p q w k (d, h, t, a) =
        let i = split_last (ClosesBottomUp says stands_for step) ks (frame.Before j room y) h k d w (rw q at a) in
        (i.middle, i.state, left_joined j p t i.last.2 i.last.3, i.others)

    turn_to_right : (ks ls ms : List (WalkFrame E S)) (j : Joint) (x room y rest : Box E) (f : Progress F) → ls ≡ ks ++ (frame.After j x rest ∷ []) → ms ≡ ks ++ (frame.Before j room y ∷ [])
        → (w : Expression) (k : Progress F) → EndsBottomUp says stands_for step (onward.Next y.value) ls f w k → AllClose (ClosesBottomUp says stands_for step) ms f (says x.value) w k
    turn_to_right ks ls ms j x room y rest f q r w k (d, h, t, a) =
        let i = split_last (ClosesBottomUp says stands_for step) ks (frame.After j x rest) h k d w (rw q at a) in
        rw r (last_closes (ClosesBottomUp says stands_for step) ks (frame.Before j room y) f k i.state (says x.value) i.middle w (d, h, t, i.last) i.others)

    pub opens_bottom_up : (ks ls : List (WalkFrame E S)) (o : E) (f : Progress F) (next : Onward E) → Opens says stands_for (says o) ks next ls
        → (w : Expression) (k : Progress F) → EndsBottomUp says stands_for step next ls f w k → EndsBottomUp says stands_for step (onward.Next o) ks f w k
    opens_bottom_up ks ls o f (onward.Done x) (leaf p q e) w k (d, r, b, a) = (d, r, left_leaf q (rw p at b), rw e at a)
    opens_bottom_up ks ls o f (onward.Next x) (one s room p q) w k t = open_one ks ls s room o x f p q w k t
    opens_bottom_up ks ls o f (onward.Next x) (two j room y p q) w k t = open_two ks ls j room y o x f p q w k t

    -- a call at what is done, and its frame closed
    pub closes_bottom_up : (ks ls ms : List (WalkFrame E S)) (o d : E) (k : WalkFrame E S) (next : Onward E) (f g : F) → step f o (Ok d) g → ms ≡ ks ++ (k ∷ []) → Closes says stands_for ks d k next ls
        → (w : Expression) (t : Progress F) → EndsBottomUp says stands_for step next ls (Ok g) w t → EndsBottomUp says stands_for step (onward.Done o) ms (Ok f) w t
    closes_bottom_up ks ls ms o d (frame.Around s room) (onward.Done x) f g c m (enclosed p q) w t (v, r, b, a) =
        (says d, Ok g, answers c, rw m (last_closes (ClosesBottomUp says stands_for step) ks (frame.Around s room) (Ok g) t r (says d) v w (rw p at b) (rw q at a)))
    closes_bottom_up ks ls ms o d (frame.After j l room) (onward.Done x) f g c m (put_together p q) w t (v, r, b, a) =
        (says d, Ok g, answers c, rw m (last_closes (ClosesBottomUp says stands_for step) ks (frame.After j l room) (Ok g) t r (says d) v w (rw p at b) (rw q at a)))
    closes_bottom_up ks ls ms o d (frame.Before j room y) (onward.Next x) f g c m (turned done rest p r q) w t a =
        (says d, Ok g, answers c, subst (λ z. AllClose (ClosesBottomUp says stands_for step) ms (Ok g) (says z) w t) p (turn_to_right ks ls ms j done room y rest (Ok g) q m w t (subst (λ z. EndsBottomUp says stands_for step (onward.Next z) ls (Ok g) w t) r a)))
    closes_bottom_up ks ls ms o d (frame.Around s room) (onward.Next _) f g c m h w t a = elim h [ ]
    closes_bottom_up ks ls ms o d (frame.After j l room) (onward.Next _) f g c m h w t a = elim h [ ]
    closes_bottom_up ks ls ms o d (frame.Before j room y) (onward.Done _) f g c m h w t a = elim h [ ]

    -- a call answers a fault: all that is left stays
    pub record IsLeft (Closes : WalkFrame E S → Progress F → Expression → Expression → Progress F → Type 0) (ks : List (WalkFrame E S)) (fault : Fault) (d : Expression) : Type 0 where
      pub whole : Expression
      pub closes : AllClose Closes ks (Err fault) d whole (Err fault)

    left_top_down : (ks : List (WalkFrame E S)) (fault : Fault) (d : Expression) → IsLeft (ClosesTopDown says stands_for step) ks fault d
    left_top_down [] fault d = record { whole = d; closes = (refl, refl) }
    left_top_down (frame.Around s room ∷ ks) fault d =
        let i = left_top_down ks fault d in record { whole = around (stands_for s) i.whole; closes = (i.whole, Err fault, i.closes, (refl, refl)) }
    left_top_down (frame.Before j room x ∷ ks) fault d =
        let i = left_top_down ks fault d in
        record { whole = joined j i.whole (says x.value); closes = (i.whole, Err fault, i.closes, (says x.value, stays_top_down fault (says x.value), refl)) }
    left_top_down (frame.After j x room ∷ ks) fault d =
        let i = left_top_down ks fault d in record { whole = joined j (says x.value) i.whole; closes = (i.whole, Err fault, i.closes, (refl, refl)) }

    left_bottom_up : (ks : List (WalkFrame E S)) (fault : Fault) (d : Expression) → IsLeft (ClosesBottomUp says stands_for step) ks fault d
    left_bottom_up [] fault d = record { whole = d; closes = (refl, refl) }
    left_bottom_up (frame.Around s room ∷ ks) fault d =
        let i = left_bottom_up ks fault d in record { whole = around (stands_for s) i.whole; closes = (i.whole, Err fault, i.closes, stayed) }
    left_bottom_up (frame.Before j room x ∷ ks) fault d =
        let i = left_bottom_up ks fault d in
        record { whole = joined j i.whole (says x.value); closes = (i.whole, Err fault, i.closes, (says x.value, Err fault, stays_bottom_up fault (says x.value), stayed)) }
    left_bottom_up (frame.After j x room ∷ ks) fault d =
        let i = left_bottom_up ks fault d in record { whole = joined j (says x.value) i.whole; closes = (i.whole, Err fault, i.closes, stayed) }

    pub stops_at : (ks : List (WalkFrame E S)) (o : E) (f g : F) (fault : Fault) → step f o (Err fault) g → (w : Expression) × EndsTopDown says stands_for step (onward.Next o) ks (Ok f) w (Err fault)
    stops_at ks o f g fault c =
        let i = left_top_down ks fault (says o) in
        let t : TopDown says step (Ok f) (says o) (over (says o) (operands (says o))) (Err fault) = met (refuses c) (each_stays_top_down fault (says o)) in
        (i.whole, (says o, Err fault, subst (λ z. TopDown says step (Ok f) (says o) z (Err fault)) (over-operands (says o)) t, i.closes))

    -- a call at what is done, with no frame round it
    pub ends_at_done : (ks : List (WalkFrame E S)) (o d : E) (f g : F) → step f o (Ok d) g → ks ≡ [] → EndsBottomUp says stands_for step (onward.Done o) ks (Ok f) (says d) (Ok g)
    ends_at_done ks o d f g c p = (says d, Ok g, answers c, rw p (refl, refl))

    pub stops_at_done : (ks : List (WalkFrame E S)) (o : E) (f g : F) (fault : Fault) → step f o (Err fault) g → (w : Expression) × EndsBottomUp says stands_for step (onward.Done o) ks (Ok f) w (Err fault)
    stops_at_done ks o f g fault c =
        let i = left_bottom_up ks fault (says o) in
        (i.whole, (says o, Err fault, refuses c, i.closes))
