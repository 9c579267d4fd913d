-- The walk that builds boxes.
use Rattle.std.proofs.Common.{◌≡◌, ◌<◌, ◌≤◌, ℕ, ◌+◌, ◌*◌, List, [], ◌∷◌, ◌++◌, Err, Ok, OnOk, Option, Result, add_assoc, ap, append_assoc, arith, sym, zero-add, ◌∙◌}
use Rattle.std.proofs.lemmas.Grind.{flat_map-append}
use Rattle.std.proofs.lemmas.List.{append-nil}
use Rattle.std.specs.Borrow.{Bor}
use Rattle.std.specs.List.{flat_map}
use Rattle.base_ast.specs.declared.ast.Expr.{Expr, Str, Insens, Range, Ident, PeekSlice, PosPred', NegPred', Seq', Choice', Opt', Rep', RepOnce', RepExact', RepMin', RepMax', RepMinMax', Skip, Push', PushLiteral, NodeTag'}
use Rattle.doc_diagram.specs.Marks.{Mark, box_marks, diagram_marks}
use Rattle.doc_diagram.specs.Steps.{IsRun, all_sizes, in_turn, load, size, step_load, step_marks}
use Rattle.doc_diagram.specs.declared.build.BoxBuilder.{BoxBuilder}
use Rattle.doc_diagram.specs.declared.build.BuildStep.{BuildStep}
use Rattle.doc_diagram.specs.declared.build.BuildStep.TheVariants as step

-- what holds on success, from two facts that do
pub on_ok_both : {T E P Q R : Type 0} (r : Result T E) → (P → Q → R) → OnOk r P → OnOk r Q → OnOk r R
on_ok_both (Ok x) f p q = f p q
on_ok_both (Err e) f p q = tt

pub in_turn-append : (n : List ℕ → Option ℕ) (a b : List BuildStep) → in_turn n (a ++ b) ≡ in_turn n b ++ in_turn n a
in_turn-append n [] b = sym (append-nil (in_turn n b))
in_turn-append n (s ∷ ss) b =
    ap (λ t. t ++ step_marks n s) (in_turn-append n ss b) ∙ append_assoc (in_turn n b) (in_turn n ss) (step_marks n s)

pub load-append : (a b : List BuildStep) → load (a ++ b) ≡ load a + load b
load-append [] b = sym (zero-add (load b))
load-append (s ∷ ss) b =
    ap (λ k. step_load s + k) (load-append ss b) ∙ sym (add_assoc (step_load s) (load ss) (load b))

-- steps are added that are to show marks
pub run_of_added : (n : List ℕ → Option ℕ) (old new : BoxBuilder) (steps : List BuildStep) (marks : List Mark) (work : ℕ)
    → new.layout ≡ old.layout → new.steps.items ≡ old.steps.items ++ steps → in_turn n steps ≡ marks
    → load steps < work → IsRun n old new marks work
run_of_added n old new steps marks work layout added same less = record {
  shown = ap (λ l. flat_map box_marks l.boxes.items ++ in_turn n new.steps.items) layout
      ∙ ap (λ t. flat_map box_marks old.layout.boxes.items ++ t)
      (ap (in_turn n) added ∙ in_turn-append n old.steps.items steps ∙ ap (λ t. t ++ in_turn n old.steps.items) same);
  lighter = let e : load new.steps.items ≡ load old.steps.items + load steps = ap load added ∙ load-append old.steps.items steps in
      omega arith;
}

-- a box is added that shows marks
pub run_of_drawn : (n : List ℕ → Option ℕ) (old new : BoxBuilder) (marks : List Mark) (work : ℕ)
    → flat_map box_marks new.layout.boxes.items ≡ flat_map box_marks old.layout.boxes.items ++ marks
    → new.steps.items ≡ old.steps.items → 0 < work → IsRun n old new marks work
run_of_drawn n old new marks work drawn same some = record {
  shown = ap (λ t. t ++ in_turn n new.steps.items) drawn
      ∙ append_assoc (flat_map box_marks old.layout.boxes.items) marks (in_turn n new.steps.items)
      ∙ ap (λ t. flat_map box_marks old.layout.boxes.items ++ (marks ++ in_turn n t)) same;
  lighter = let e : load new.steps.items ≡ load old.steps.items = ap load same in omega arith;
}

-- nothing is without a part
pub some_size : (e : Expr) → 0 < size e
some_size (Str s) = omega arith
some_size (Insens s) = omega arith
some_size (Range s t) = omega arith
some_size (Ident s) = omega arith
some_size (PeekSlice i j) = omega arith
some_size (PosPred' p x) = omega arith
some_size (NegPred' p x) = omega arith
some_size (Seq' p x q y) = omega arith
some_size (Choice' p x q y) = omega arith
some_size (Opt' p x) = omega arith
some_size (Rep' p x) = omega arith
some_size (RepOnce' p x) = omega arith
some_size (RepExact' p x n) = omega arith
some_size (RepMin' p x m) = omega arith
some_size (RepMax' p x n) = omega arith
some_size (RepMinMax' p x m n) = omega arith
some_size (Skip ss) = omega arith
some_size (Push' p x) = omega arith
some_size (PushLiteral s) = omega arith
some_size (NodeTag' p x t) = omega arith

pub all_sizes-append : (a b : List (Bor Expr)) → all_sizes (a ++ b) ≡ all_sizes a + all_sizes b
all_sizes-append [] b = sym (zero-add (all_sizes b))
all_sizes-append (e ∷ es) b =
    ap (λ k. size e.now + k) (all_sizes-append es b) ∙ sym (add_assoc (size e.now) (all_sizes es) (all_sizes b))

-- what expressions show that wait, the last one first to be taken
abbrev pub waiting_marks : (List ℕ → Option ℕ) → List (Bor Expr) → List Mark
waiting_marks n = flat_map (λ e. diagram_marks n e.now)

-- an expression that waits is visited
pub visited_more : (n : List ℕ → Option ℕ) (ws before : List (Bor Expr)) (x : Bor Expr) (vs after : List BuildStep)
    (whole : List Mark) → before ≡ ws ++ x ∷ [] → after ≡ vs ++ step.Visit x ∷ []
    → waiting_marks n before ++ in_turn n vs ≡ whole → waiting_marks n ws ++ in_turn n after ≡ whole
visited_more n ws before x vs after whole b a h =
    let m : Bor Expr → List Mark = λ e. diagram_marks n e.now in
    ap (λ t. waiting_marks n ws ++ in_turn n t) a
    ∙ ap (λ t. waiting_marks n ws ++ t) (in_turn-append n vs (step.Visit x ∷ []))
    ∙ sym (append_assoc (waiting_marks n ws) (m x) (in_turn n vs))
    ∙ ap (λ t. t ++ in_turn n vs) (ap (λ t. waiting_marks n ws ++ t) (sym (append-nil (m x))) ∙ sym (flat_map-append m ws (x ∷ [])))
    ∙ ap (λ t. waiting_marks n t ++ in_turn n vs) (sym b) ∙ h

-- an expression that waits is replaced by its operands
pub split_more : (n : List ℕ → Option ℕ) (ws before after : List (Bor Expr)) (x l r : Bor Expr) (u v : Expr)
    (others whole : List Mark) → before ≡ ws ++ x ∷ [] → after ≡ ws ++ l ∷ r ∷ []
    → diagram_marks n x.now ≡ diagram_marks n u ++ diagram_marks n v → l.now ≡ u → r.now ≡ v
    → waiting_marks n before ++ others ≡ whole → waiting_marks n after ++ others ≡ whole
split_more n ws before after x l r u v others whole b a e f g h =
    let m : Bor Expr → List Mark = λ e. diagram_marks n e.now in
    let same : m l ++ m r ≡ m x = ap (λ t. diagram_marks n t ++ m r) f ∙ ap (λ t. diagram_marks n u ++ diagram_marks n t) g ∙ sym e in
    ap (λ t. waiting_marks n t ++ others) a
    ∙ ap (λ t. t ++ others) (flat_map-append m ws (l ∷ r ∷ [])
    ∙ ap (λ t. waiting_marks n ws ++ t) (sym (append_assoc (m l) (m r) []) ∙ ap (λ t. t ++ []) same)
    ∙ sym (flat_map-append m ws (x ∷ [])))
    ∙ ap (λ t. waiting_marks n t ++ others) (sym b) ∙ h

-- and how much work is left
pub split_sizes : (ws before after : List (Bor Expr)) (x l r : Bor Expr) (u v : Expr) → before ≡ ws ++ x ∷ []
    → after ≡ ws ++ l ∷ r ∷ [] → size x.now ≡ size u + size v + 1 → l.now ≡ u → r.now ≡ v
    → all_sizes before ≡ all_sizes after + 1
split_sizes ws before after x l r u v b a e f g =
    let s : all_sizes before ≡ all_sizes ws + (size x.now + 0) = ap all_sizes b ∙ all_sizes-append ws (x ∷ []) in
    let t : all_sizes after ≡ all_sizes ws + (size l.now + (size r.now + 0)) = ap all_sizes a ∙ all_sizes-append ws (l ∷ r ∷ []) in
    let i : size l.now ≡ size u = ap size f in
    let j : size r.now ≡ size v = ap size g in
    omega arith

pub visited_sizes : (ws before : List (Bor Expr)) (x : Bor Expr) → before ≡ ws ++ x ∷ []
    → all_sizes before ≡ all_sizes ws + size x.now
visited_sizes ws before x b =
    let s : all_sizes before ≡ all_sizes ws + (size x.now + 0) = ap all_sizes b ∙ all_sizes-append ws (x ∷ []) in omega arith

pub visited_load : (vs after : List BuildStep) (x : Bor Expr) → after ≡ vs ++ step.Visit x ∷ []
    → load after ≡ load vs + 4 * size x.now
visited_load vs after x a =
    let s : load after ≡ load vs + (4 * size x.now + 0) = ap load a ∙ load-append vs (step.Visit x ∷ []) in omega arith

-- steps are added, if all is well
pub ok_of_added : {T E : Type 0} (r : Result T E) (n : List ℕ → Option ℕ) (old new : BoxBuilder) (steps : List BuildStep)
    (marks : List Mark) (work : ℕ) → OnOk r (new.layout ≡ old.layout) → OnOk r (new.steps.items ≡ old.steps.items ++ steps)
    → in_turn n steps ≡ marks → load steps < work → OnOk r (IsRun n old new marks work)
ok_of_added r n old new steps marks work l s same less =
    on_ok_both r (λ a b. run_of_added n old new steps marks work a b same less) l s

-- steps are added for an expression
pub visit_of_added : {T E : Type 0} (r : Result T E) (n : List ℕ → Option ℕ) (old new : BoxBuilder) (e : Expr)
    (steps : List BuildStep) → in_turn n steps ≡ diagram_marks n e → load steps < 4 * size e
    → OnOk r (new.layout ≡ old.layout) → OnOk r (new.steps.items ≡ old.steps.items ++ steps)
    → OnOk r (IsRun n old new (diagram_marks n e) (4 * size e))
visit_of_added r n old new e steps same less =
    on_ok_both r (λ l s. run_of_added n old new steps (diagram_marks n e) (4 * size e) l s same less)

-- the same for one with an operand
pub visit_inside : {T E : Type 0} (r : Result T E) (n : List ℕ → Option ℕ) (old new : BoxBuilder) (e inner x : Expr)
    (marks : List Mark) (steps : List BuildStep) → x ≡ inner → diagram_marks n e ≡ diagram_marks n inner ++ marks
    → size e ≡ size inner + 1 → in_turn n steps ≡ diagram_marks n x ++ marks → load steps ≤ 4 * size x + 3
    → OnOk r (new.layout ≡ old.layout) → OnOk r (new.steps.items ≡ old.steps.items ++ steps)
    → OnOk r (IsRun n old new (diagram_marks n e) (4 * size e))
visit_inside r n old new e inner x marks steps is shows sized same light =
    let i : size x ≡ size inner = ap size is in
    visit_of_added r n old new e steps
    (same ∙ ap (λ t. diagram_marks n t ++ marks) is ∙ sym shows) (omega arith)

-- a box is added for an expression without operands
pub visit_of_drawn : {T E : Type 0} (r : Result T E) (n : List ℕ → Option ℕ) (old new : BoxBuilder) (e : Expr)
    (marks : List Mark) → marks ≡ diagram_marks n e
    → OnOk r (flat_map box_marks new.layout.boxes.items ≡ flat_map box_marks old.layout.boxes.items ++ marks)
    → OnOk r (new.steps.items ≡ old.steps.items) → OnOk r (IsRun n old new (diagram_marks n e) (4 * size e))
visit_of_drawn r n old new e marks same =
    let s : 0 < size e = some_size e in
    on_ok_both r (λ b t. run_of_drawn n old new (diagram_marks n e) (4 * size e)
    (b ∙ ap (λ m. flat_map box_marks old.layout.boxes.items ++ m) same) t (omega arith))

-- a run that shows the same
run_of_run : (n : List ℕ → Option ℕ) (old new : BoxBuilder) (marks others : List Mark) (work more : ℕ)
    → marks ≡ others → work ≡ more → IsRun n old new marks work → IsRun n old new others more
run_of_run n old new marks others work more same equal h = record {
  shown = h.shown ∙ ap (λ m. flat_map box_marks old.layout.boxes.items ++ (m ++ in_turn n old.steps.items)) same;
  lighter = let l : load new.steps.items < work + load old.steps.items = h.lighter in omega arith;
}

pub visit_of_run : {T E : Type 0} (r : Result T E) (n : List ℕ → Option ℕ) (old new : BoxBuilder) (e inner x : Expr)
    (marks : List Mark) → x ≡ inner → diagram_marks n e ≡ diagram_marks n inner ++ marks → size e ≡ size inner + 1
    → OnOk r (IsRun n old new (diagram_marks n x ++ marks) (4 * size x + 4))
    → OnOk r (IsRun n old new (diagram_marks n e) (4 * size e))
visit_of_run (Ok y) n old new e inner x marks is shows sized h =
    let i : size x ≡ size inner = ap size is in
    run_of_run n old new (diagram_marks n x ++ marks) (diagram_marks n e) (4 * size x + 4) (4 * size e)
    (ap (λ t. diagram_marks n t ++ marks) is ∙ sym shows) (omega arith) h
visit_of_run (Err y) n old new e inner x marks is shows sized h = tt

-- the steps of two operands are added, after one that shows nothing
pub visit_joined : {T E : Type 0} (r : Result T E) (n : List ℕ → Option ℕ) (old new : BoxBuilder) (e u v l w : Expr)
    (s : BuildStep) (visits : List BuildStep) → step_marks n s ≡ [] → step_load s ≡ 1 → l ≡ u → w ≡ v
    → diagram_marks n e ≡ diagram_marks n u ++ diagram_marks n v → size e ≡ size u + size v + 1
    → in_turn n visits ≡ diagram_marks n l ++ diagram_marks n w → load visits ≤ 4 * size l + 4 * size w
    → OnOk r (new.layout ≡ old.layout) → OnOk r (new.steps.items ≡ old.steps.items ++ s ∷ visits)
    → OnOk r (IsRun n old new (diagram_marks n e) (4 * size e))
visit_joined r n old new e u v l w s visits quiet one f g shows sized marks light =
    let i : size l ≡ size u = ap size f in
    let j : size w ≡ size v = ap size g in
    visit_of_added r n old new e (s ∷ visits)
    (ap (λ t. in_turn n visits ++ t) quiet ∙ append-nil (in_turn n visits) ∙ marks
    ∙ ap (λ t. diagram_marks n t ++ diagram_marks n w) f ∙ ap (λ t. diagram_marks n u ++ diagram_marks n t) g ∙ sym shows)
    (omega arith)

-- the last step is taken
pub popped_marks : (n : List ℕ → Option ℕ) (ss os : List BuildStep) (s : BuildStep) (done rest whole : List Mark)
    → ss ≡ os ++ s ∷ [] → rest ≡ done ++ (step_marks n s ++ in_turn n os) → done ++ in_turn n ss ≡ whole
    → rest ≡ whole
popped_marks n ss os s done rest whole b e h =
    e ∙ ap (λ t. done ++ t) (sym (ap (in_turn n) b ∙ in_turn-append n os (s ∷ []))) ∙ h

pub popped_load : (ss os : List BuildStep) (s : BuildStep) → ss ≡ os ++ s ∷ [] → load ss ≡ load os + step_load s
popped_load ss os s b =
    let e : load ss ≡ load os + (step_load s + 0) = ap load b ∙ load-append os (s ∷ []) in omega arith
