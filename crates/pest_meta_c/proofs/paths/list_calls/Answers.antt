use Rattle.std.proofs.Common.{◌≡◌, ◌∙◌, ℕ, suc, ◌+◌, ◌<◌, ◌≤◌, List, [], ◌∷◌, ◌++◌, ap, append_assoc, append-nil, arith, get_or, length, map, sym, take}
use Rattle.std.proofs.Math.Seq.{take-length, take-suc}
use Rattle.std.proofs.lemmas.List.{length-take-le, length-map, map-append}
use Rattle.std.specs.Global.{Vec}
use Rattle.matcher_code.specs.declared.state.OpenCall.{OpenCall}
use Rattle.matcher_engine.specs.Traces.{paths_in}
use Rattle.pest_meta_c.specs.PathCalls.{calls_in, with_path}
use Rattle.pest_meta_c.specs.declared.paths.PathCall.{PathCall}
use Rattle.pest_meta_c.proofs.paths.list_calls.Goals as goal

-- the calls of one path more
last_path : (k : ℕ) (ps : List (List OpenCall)) (p : List OpenCall) → calls_in k (ps ++ p ∷ []) ≡ calls_in k ps ++ map (with_path (k + length ps)) p
last_path k [] p =
    let e : k + 0 ≡ k = omega arith in
    append-nil (map (with_path k) p) ∙ ap (λ j. map (with_path j) p) (sym e)
last_path k (q ∷ ps) p =
    let e : suc k + length ps ≡ k + suc (length ps) = omega arith in
    ap (λ t. map (with_path k) q ++ t) (last_path (suc k) ps p ∙ ap (λ j. calls_in (suc k) ps ++ map (with_path j) p) e)
    ∙ sym (append_assoc (map (with_path k) q) (calls_in (suc k) ps) (map (with_path (k + suc (length ps))) p))

one_path : (old new : List PathCall) (vs : List (Vec OpenCall)) (i : ℕ) (v : Vec OpenCall) → i < length vs → get_or vs i v ≡ v
    → old ≡ calls_in 0 (paths_in (take i vs)) → new ≡ old ++ map (with_path i) v.items → new ≡ calls_in 0 (paths_in (take (i + 1) vs))
one_path old new vs i v l is so_far step =
    let next : suc i ≡ i + 1 = omega arith in
    let here : i ≤ length vs = omega (arith, l) in
    let count : 0 + length (paths_in (take i vs)) ≡ i = omega (arith, length-map (take i vs) (λ x. x.items), length-take-le i vs here) in
    step
    ∙ (ap (λ t. t ++ map (with_path i) v.items) so_far
    ∙ (ap (λ j. calls_in 0 (paths_in (take i vs)) ++ map (with_path j) v.items) (sym count)
    ∙ (sym (last_path 0 (paths_in (take i vs)) v.items)
    ∙ (ap (calls_in 0) (sym (map-append (λ x. x.items) (take i vs) (v ∷ [])))
    ∙ (ap (λ x. calls_in 0 (paths_in (take i vs ++ x ∷ []))) (sym is)
    ∙ (ap (λ t. calls_in 0 (paths_in t)) (sym (take-suc vs i v l)) ∙ ap (λ j. calls_in 0 (paths_in (take j vs))) next))))))

pub loop-path-preserved : goal.loop-path-preserved
loop-path-preserved c =
    one_path c.loop-path.list.items c.push_path.new.list.items c.args.paths.now c.loop-path.path c.index-paths-path.result c.loop-path-test.true (sym c.index-paths-path.is)
    c.loop-path.invariant (c.in_ok-push_path.ensures ∙ ap (λ xs. c.loop-path.list.items ++ map (with_path c.loop-path.path) xs) c.as_slice.ensures.value)

pub returns : goal.returns
returns c =
    let paths = c.args.paths.now in
    let all : c.loop-path.path ≡ length paths = omega (arith, c.loop-path-test.false, c.loop-path.auto.path-end) in
    c.loop-path.invariant ∙ ap (λ t. calls_in 0 (paths_in t)) (ap (λ k. take k paths) all ∙ take-length paths)
