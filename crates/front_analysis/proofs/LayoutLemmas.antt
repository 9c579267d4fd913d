-- Nodes that are laid out stand behind those inside them.
use Rattle.std.proofs.Common.{◌≡◌, ℕ, ◌+◌, ◌-◌, ◌<◌, List, [], ◌∷◌, ◌++◌, Some, None, slice_get, length, refl, sym, ◌∙◌, ap, subst, arith, Bor}
use Rattle.std.proofs.lemmas.List.{append_assoc, append-nil, length_push, length-append}
use Rattle.base_language.specs.Language.Expression.{Expression}
use Rattle.front_spanned.specs.Nodes.{view, view_at, piece_of}
use Rattle.front_spanned.specs.Spanned.{Span, Spanned, Leaf, One, Two, Unary, Binary}
use Rattle.front_spanned.specs.declared.node.ParserNode.{ParserNode}
use Rattle.front_analysis.specs.Nodes.{postorder, size, IsSimple}
use Rattle.front_analysis.specs.Layout.{all_below, forwards, IsAfter, AreLaidOut, start_at, AreNumbered}
use Rattle.front_analysis.specs.Shapes.{IsShape, sign_of, joint_of}
use Rattle.front_analysis.specs.declared.shapes.Shape.TheVariants as is
use Rattle.front_analysis.specs.declared.table.Node.{Node}
use Rattle.front_analysis.proofs.Numbered.{found_last, got_before, nodes_pushed}

-- 1. where an element of two lists stands
data Split {A : Type 0} (xs ys us : List A) (z : A) (vs : List A) : Type 0 where
  in_first : (back : List A) → xs ≡ us ++ z ∷ back → Split xs ys us z vs
  in_second : (w : List A) → us ≡ xs ++ w → ys ≡ w ++ z ∷ vs → Split xs ys us z vs

pub tails : {A : Type 0} {x y : A} {xs ys : List A} → x ∷ xs ≡ y ∷ ys → xs ≡ ys
tails e = cc

pub heads : {A : Type 0} {x y : A} {xs ys : List A} → x ∷ xs ≡ y ∷ ys → x ≡ y
heads e = cc

joined : {A : Type 0} {x y : A} {xs ys : List A} → x ≡ y → xs ≡ ys → x ∷ xs ≡ y ∷ ys
joined e f = cc

split : {A : Type 0} (xs ys us : List A) (z : A) (vs : List A) → xs ++ ys ≡ us ++ z ∷ vs → Split xs ys us z vs
split [] ys us z vs e = in_second us refl e
split (x ∷ xs) ys [] z vs e = in_first xs (joined (heads e) refl)
split (x ∷ xs) ys (u ∷ us) z vs e = elim (split xs ys us z vs (tails e)) [
  | in_first b h ↦ in_first b (joined (heads e) h)
  | in_second w h k ↦ in_second w (joined (sym (heads e)) h) k
]

none_before : {A : Type 0} (us : List A) (z : A) (vs : List A) → [] ≡ us ++ z ∷ vs → ⊥
none_before [] z vs e = cc
none_before (u ∷ us) z vs e = cc

-- 2. trees are laid out
behind_more : (pre front : List Spanned) (z : Spanned) → IsAfter front z → IsAfter (pre ++ front) z
behind_more pre front (Leaf s e) b = tt
behind_more pre front (One s f x) b = (pre ++ b.0, ap (λ z. pre ++ z) b.1 ∙ sym (append_assoc pre b.0 (postorder x)))
behind_more pre front (Two s f x y) b = (pre ++ b.0, ap (λ z. pre ++ z) b.1 ∙ (sym (append_assoc pre (b.0 ++ postorder x) (postorder y)) ∙ ap (λ z. z ++ postorder y) (sym (append_assoc pre b.0 (postorder x)))))

alone : (pre : List Spanned) (y : Spanned) → IsAfter pre y → (us : List Spanned) (z : Spanned) (vs : List Spanned) → y ∷ [] ≡ us ++ z ∷ vs → IsAfter (pre ++ us) z
alone pre y b [] z vs e = subst (λ p. IsAfter p z) (sym (append-nil pre)) (subst (λ w. IsAfter pre w) (heads e) b)
alone pre y b (u ∷ us) z vs e = absurd (none_before us z vs (tails e))

laid_tree : (t : Spanned) (front : List Spanned) (z : Spanned) (back : List Spanned) → postorder t ≡ front ++ z ∷ back → IsAfter front z
laid_tree (Leaf s e) front z back h = alone [] (Leaf s e) tt front z back h
laid_tree (One s f x) front z back h = elim (split (postorder x) (One s f x ∷ []) front z back h) [
  | in_first b g ↦ laid_tree x front z b g
  | in_second w g k ↦ subst (λ p. IsAfter p z) (sym g) (alone (postorder x) (One s f x) ([], refl) w z back k)
]
laid_tree (Two s f x y) front z back h = elim (split (postorder x ++ postorder y) (Two s f x y ∷ []) front z back h) [
  | in_first b g ↦ elim (split (postorder x) (postorder y) front z b g) [
    | in_first d i ↦ laid_tree x front z d i
    | in_second w i k ↦ subst (λ p. IsAfter p z) (sym i) (behind_more (postorder x) w z (laid_tree y w z b k))
  ]
  | in_second w g k ↦ subst (λ p. IsAfter p z) (sym g) (alone (postorder x ++ postorder y) (Two s f x y) ([], refl) w z back k)
]

pub laid_none : AreLaidOut []
laid_none front x back e = absurd (none_before front x back e)

pub laid_more : (nodes : List Spanned) → AreLaidOut nodes → (t : Spanned) → AreLaidOut (nodes ++ postorder t)
laid_more nodes h t front z back e = elim (split nodes (postorder t) front z back e) [
  | in_first b g ↦ h front z b g
  | in_second w g k ↦ subst (λ p. IsAfter p z) (sym g) (behind_more nodes w z (laid_tree t w z back k))
]

laid_one : (nodes : List Spanned) → AreLaidOut nodes → (x : Spanned) → IsAfter nodes x → AreLaidOut (nodes ++ x ∷ [])
laid_one nodes h x b front z back e = elim (split nodes (x ∷ []) front z back e) [
  | in_first d g ↦ h front z d g
  | in_second w g k ↦ subst (λ p. IsAfter p z) (sym g) (alone nodes x b w z back k)
]

pub laid_all : (nodes : List Spanned) → AreLaidOut nodes → (ns : List (Bor ParserNode)) → AreLaidOut (nodes ++ all_below ns)
laid_all nodes h [] = subst AreLaidOut (sym (append-nil nodes)) h
laid_all nodes h (n ∷ ns) = subst AreLaidOut (append_assoc nodes (postorder (view n.now)) (all_below ns)) (laid_all (nodes ++ postorder (view n.now)) (laid_more nodes h (view n.now)) ns)

-- 3. numbers of those inside
pub length-postorder : (x : Spanned) → length (postorder x) ≡ size x
length-postorder (Leaf s e) = refl
length-postorder (One s f x) = let a = length_push (postorder x) (One s f x) in let b = length-postorder x in omega arith
length-postorder (Two s f x y) =
    let a = length_push (postorder x ++ postorder y) (Two s f x y) in
    let d = length-append (postorder x) (postorder y) in
    let b = length-postorder x in let c = length-postorder y in omega arith

pub some_size : (x : Spanned) → 0 < size x
some_size (Leaf s e) = omega arith
some_size (One s f x) = omega arith
some_size (Two s f x y) = omega arith

module _ (done : List Spanned) (old new : List Node) (own : ℕ) (h : AreNumbered done old) (is_own : own ≡ length old) (n : Node) (pushed : new ≡ old ++ n ∷ []) where
  abbrev pub said : Spanned
  said = view_at (piece_of n.span.now) n.expr.now

  put : (x : Spanned) → said ≡ x → IsAfter done x → IsShape done own n.shape x → n.start + size x ≡ own + 1 → AreNumbered (done ++ said ∷ []) new
  put x e b shape start = subst (λ z. AreNumbered (done ++ z ∷ []) new) (sym e) (record {
    laid_out = laid_one done h.laid_out x b;
    nodes = nodes_pushed done old new n own x pushed is_own h.nodes (record { said = e; shape = shape; start = start });
  })

  own_done : own ≡ length done
  own_done = is_own ∙ h.nodes.alike

  begins_at : (j : ℕ) (x : Spanned) → slice_get done j ≡ Some x → start_at old j + size x ≡ j + 1
  begins_at j x at =
      let (m, got, is) = h.nodes.fit j x at in
      ap (λ o. (elim o [ Some k ↦ k.start | None ↦ 0 ]) + size x) got ∙ is.start

  pub put_leaf : (s : Span) (e : Expression) → IsSimple e → said ≡ Leaf s e → n.shape ≡ is.Leaf → n.start ≡ own → AreNumbered (done ++ said ∷ []) new
  put_leaf s e i v f g = put (Leaf s e) v tt (i, f) (omega arith)

  pub put_one : (s : Span) (f : Unary) (x : Spanned) → IsAfter done said → said ≡ One s f x → n.shape ≡ is.One (sign_of f) (own - 1) → n.start ≡ start_at old (own - 1) → AreNumbered (done ++ said ∷ []) new
  put_one s f x behind v shape start =
      let b : IsAfter done (One s f x) = subst (IsAfter done) v behind in
      let l : length done ≡ length (b.0 ++ postorder x) = ap (λ z. length z) b.1 in
      let m = length-append b.0 (postorder x) in
      let n = length-postorder x in
      let p = some_size x in
      let q = own_done in
      let at : slice_get done (own - 1) ≡ Some x = ap (λ z. slice_get z (own - 1)) b.1 ∙ found_last b.0 x (own - 1) (omega arith) in
      let begins = begins_at (own - 1) x at in
      put (One s f x) v b (own - 1, omega arith, at, shape) (omega arith)

  pub put_two : (s : Span) (f : Binary) (x y : Spanned) → IsAfter done said → said ≡ Two s f x y → n.shape ≡ is.Two (joint_of f) (start_at old (own - 1) - 1) (own - 1)
      → n.start ≡ start_at old (start_at old (own - 1) - 1) → AreNumbered (done ++ said ∷ []) new
  put_two s f x y behind v shape start =
      let b : IsAfter done (Two s f x y) = subst (IsAfter done) v behind in
      let l : length done ≡ length ((b.0 ++ postorder x) ++ postorder y) = ap (λ z. length z) b.1 in
      let m = length-append (b.0 ++ postorder x) (postorder y) in
      let m2 = length-append b.0 (postorder x) in
      let n = length-postorder x in
      let n2 = length-postorder y in
      let p = some_size x in
      let p2 = some_size y in
      let q = own_done in
      let second : slice_get done (own - 1) ≡ Some y = ap (λ z. slice_get z (own - 1)) b.1 ∙ found_last (b.0 ++ postorder x) y (own - 1) (omega arith) in
      let begins = begins_at (own - 1) y second in
      let j = start_at old (own - 1) - 1 in
      let before : slice_get (b.0 ++ postorder x) j ≡ Some x = found_last b.0 x j (omega arith) in
      let first : slice_get done j ≡ Some x = ap (λ z. slice_get z j) b.1 ∙ got_before (b.0 ++ postorder x) (postorder y) j x before in
      let begins2 = begins_at j x first in
      put (Two s f x y) v b (j, own - 1, omega arith, omega arith, first, second, shape) (omega arith)

-- 4. lists of nodes from behind
pub forwards_push : (ns : List (Bor ParserNode)) (n : Bor ParserNode) → forwards (ns ++ n ∷ []) ≡ view n.now ∷ forwards ns
forwards_push [] n = refl
forwards_push (m ∷ ns) n = ap (λ z. z ++ view m.now ∷ []) (forwards_push ns n)

pub below_push : (ns : List (Bor ParserNode)) (n : Bor ParserNode) → all_below (ns ++ n ∷ []) ≡ all_below ns ++ postorder (view n.now)
below_push [] n = append-nil (postorder (view n.now))
below_push (m ∷ ns) n = ap (λ z. postorder (view m.now) ++ z) (below_push ns n) ∙ sym (append_assoc (postorder (view m.now)) (all_below ns) (postorder (view n.now)))

-- one node is taken, and its operands wait in its place
pub taken_one : (old popped waiting nodes more : List (Bor ParserNode)) (n : Bor ParserNode) (all : List Spanned) → old ≡ popped ++ n ∷ [] → all_below waiting ++ view n.now ∷ [] ≡ all_below popped ++ postorder (view n.now) → more ≡ nodes ++ n ∷ []
    → all_below old ++ forwards nodes ≡ all → all_below waiting ++ forwards more ≡ all
taken_one old popped waiting nodes more n all e h m inv =
    ap (λ z. all_below waiting ++ forwards z) m ∙ (ap (λ z. all_below waiting ++ z) (forwards_push nodes n) ∙ (sym (append_assoc (all_below waiting) (view n.now ∷ []) (forwards nodes))
    ∙ (ap (λ z. z ++ forwards nodes) h ∙ (ap (λ z. z ++ forwards nodes) (sym (ap (λ z. all_below z) e ∙ below_push popped n)) ∙ inv))))

pub waits_less : (old popped waiting : List (Bor ParserNode)) (n : Bor ParserNode) → old ≡ popped ++ n ∷ [] → all_below waiting ++ view n.now ∷ [] ≡ all_below popped ++ postorder (view n.now) → length (all_below waiting) < length (all_below old)
waits_less old popped waiting n e h =
    let a = length_push (all_below waiting) (view n.now) in
    let b = ap (λ z. length z) h in
    let d = ap (λ z. length z) (ap (λ z. all_below z) e ∙ below_push popped n) in
    omega arith
