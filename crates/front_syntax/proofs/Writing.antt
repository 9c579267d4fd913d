-- The events that are written from the nodes of trees are those of the trees.
use Rattle.std.proofs.Common.{◌≡◌, refl, sym, ◌∙◌, ap, ap₂, ℕ, suc, ◌+◌, ◌-◌, ◌*◌, ◌<◌, ◌≤◌, List, [], ◌∷◌, ◌++◌, true, false, drop, get_or, length, nat_le, arith, if◌then◌else◌, append_assoc, append-nil}
use Rattle.std.specs.Prelude.{⊤}
use Rattle.std.proofs.lemmas.List.{drop_all, get_or_default, length-append}
use Rattle.base_language.specs.Language.State.{Trees, None', Tree}
use Rattle.matcher_code.specs.declared.state.TreeNode.{TreeNode}
use Rattle.matcher_code.specs.Reached.{count_of, nodes_of}
use Rattle.front_code.specs.Numbers.{AreNumbered, number_of}
use Rattle.front_syntax.proofs.Building.{one_back}
use Rattle.front_syntax.specs.declared.events.Open.{Open}
use Rattle.front_syntax.specs.TokenEvents.{TokenEvent, Starts, Ends, events_of, event_count}
use Rattle.front_syntax.specs.Nodes.{AreNodesOf}
use Rattle.front_syntax.specs.Writing.{GoesOn, closing, left_events, left_open, opened, start_event}

-- the last opened tree goes on to a number
abbrev pub Goes : ℕ → List Open → Type 0
Goes n [] = ⊤
Goes n (t ∷ ts) = n ≤ t.after

goes_less : (m n : ℕ) (ts : List Open) → m ≤ n → Goes n ts → Goes m ts
goes_less m n [] l h = tt
goes_less m n (t ∷ ts) l h = omega (arith, l, h)

above : (a k : ℕ) → k < a → nat_le a k ≡ false
above a k h = grind arith

le_self : (m : ℕ) → nat_le m m ≡ true
le_self m = grind arith

-- no open tree ends before the next one
none_ended : (k : ℕ) (ts : List Open) → Goes (suc k) ts → (closing k ts ≡ []) × (left_open k ts ≡ ts)
none_ended k [] h = (refl, refl)
none_ended k (t ∷ ts) h =
    let e = above t.after k (omega (arith, h)) in
    (ap (λ b. if b then Ends t.end t.first ∷ closing k ts else []) e, ap (λ b. if b then left_open k ts else t ∷ ts) e)

-- the events of a node and those behind it, where some ends come first
abbrev after_ends : TreeNode → List TreeNode → ℕ → ℕ → List TokenEvent → List Open → List TokenEvent
after_ends t ts k m ends left = ends ++ start_event t k m ∷ left_events ts (suc k) (suc m) (opened t m ∷ left)

-- the end of the last opened tree
end_one : (ts : List TreeNode) (k n : ℕ) (t : Open) (os : List Open) → nat_le t.after k ≡ true
    → left_events ts k n (t ∷ os) ≡ Ends t.end t.first ∷ left_events ts k (suc n) os
end_one [] k n t os e = ap (λ b. if b then Ends t.end t.first ∷ closing k os else []) e
end_one (u ∷ ts) k n t os e =
    let s = closing k os in
    let l : n + suc (length s) ≡ suc n + length s = omega arith in
    ap₂ (λ c o. after_ends u ts k (n + length c) c o) (ap (λ b. if b then Ends t.end t.first ∷ s else []) e) (ap (λ b. if b then left_open k os else t ∷ os) e)
    ∙ ap (λ m. Ends t.end t.first ∷ after_ends u ts k m s (left_open k os)) l

-- the start of the next tree
start_one : (t : TreeNode) (ts : List TreeNode) (k n : ℕ) (os : List Open) → Goes (suc k) os
    → left_events (t ∷ ts) k n os ≡ start_event t k n ∷ left_events ts (suc k) (suc n) (opened t n ∷ os)
start_one t ts k n os h =
    let x = none_ended k os h in
    let l : n + 0 ≡ n = omega arith in
    ap₂ (λ c o. after_ends t ts k (n + length c) c o) x.0 x.1 ∙ ap (λ m. after_ends t ts k m [] os) l

-- each tree has two events
pub two_each : (us : Trees) → event_count us ≡ 2 * count_of us
two_each None' = refl
two_each (Tree r i j inner others) = omega (arith, two_each inner, two_each others)

write_over : (us : Trees) (k n : ℕ) (os : List Open) (ts : List TreeNode) → AreNumbered us → Goes (k + count_of us) os
    → left_events (nodes_of number_of k us ++ ts) k n os ≡ events_of n us ++ left_events ts (k + count_of us) (n + event_count us) os
write_over None' k n os ts h g = ap₂ (λ a b. left_events ts a b os) (omega arith) (omega arith)
write_over (Tree r i j inner others) k n os ts h g =
    let ci = count_of inner in
    let co = count_of others in
    let ei = event_count inner in
    let eo = event_count others in
    let m = suc k + ci in
    let A = nodes_of number_of (suc k) inner in
    let B = nodes_of number_of m others in
    let t : TreeNode = record { rule = number_of r; start = i; end = j; after = m } in
    let o = opened t n in
    let last = left_events ts (k + suc (ci + co)) (n + (ei + 2 + eo)) os in
    let g1 : Goes (suc k) os = goes_less (suc k) (k + suc (ci + co)) os (omega arith) g in
    let g2 : Goes (m + co) os = goes_less (m + co) (k + suc (ci + co)) os (omega arith) g in
    let two = two_each inner in
    let p : n + 1 + 2 * (m - suc k) ≡ n + 1 + ei = omega arith in
    let e0 : start_event t k n ≡ Starts r i (n + 1 + ei) = ap₂ (λ w q. Starts w i q) h.0 p in
    let s1 = start_one t ((A ++ B) ++ ts) k n os g1 in
    let s2 : left_events ((A ++ B) ++ ts) (suc k) (suc n) (o ∷ os) ≡ left_events (A ++ (B ++ ts)) (suc k) (n + 1) (o ∷ os) =
    ap₂ (λ z q. left_events z (suc k) q (o ∷ os)) (append_assoc A B ts) (omega arith) in
    let s3 = write_over inner (suc k) (n + 1) (o ∷ os) (B ++ ts) h.1 (omega arith) in
    let s4 = end_one (B ++ ts) m (n + 1 + ei) o os (le_self m) in
    let e1 : suc (n + 1 + ei) ≡ n + 2 + ei = omega arith in
    let s5 : left_events (B ++ ts) m (suc (n + 1 + ei)) os ≡ events_of (n + 2 + ei) others ++ left_events ts (m + co) (n + 2 + ei + eo) os =
    ap (λ q. left_events (B ++ ts) m q os) e1 ∙ write_over others m (n + 2 + ei) os ts h.2 g2 in
    let e2 : left_events ts (m + co) (n + 2 + ei + eo) os ≡ last = ap₂ (λ a b. left_events ts a b os) (omega arith) (omega arith) in
    let inside = events_of (n + 1) inner in
    let behind = events_of (n + 2 + ei) others in
    s1 ∙ (ap (λ z. start_event t k n ∷ z) (s2 ∙ (s3 ∙ ap (λ z. inside ++ z) (s4 ∙ ap (λ z. Ends j n ∷ z) (s5 ∙ ap (λ z. behind ++ z) e2))))
    ∙ (ap (λ x. x ∷ (inside ++ Ends j n ∷ (behind ++ last))) e0
    ∙ ap (λ z. Starts r i (n + 1 + ei) ∷ z) (sym (append_assoc inside (Ends j n ∷ behind) last))))

-- all events of trees
pub all_written : (nodes : List TreeNode) (us : Trees) → AreNodesOf nodes us → left_events nodes 0 0 [] ≡ events_of 0 us
all_written nodes us x =
    ap (λ ns. left_events ns 0 0 []) (x.same ∙ sym (append-nil (nodes_of number_of 0 us)))
    ∙ (write_over us 0 0 [] [] x.numbered tt ∙ append-nil (events_of 0 us))

-- one more node is written
pub written_one : (t : TreeNode) (ts : List TreeNode) (k : ℕ) (es ended now : List TokenEvent) (os left later : List Open) → ended ≡ es ++ closing k os → left ≡ left_open k os
    → now ≡ ended ++ start_event t k (length ended) ∷ [] → later ≡ opened t (length ended) ∷ left
    → now ++ left_events ts (suc k) (length now) later ≡ es ++ left_events (t ∷ ts) k (length es) os
written_one t ts k es ended now os left later a b c d =
    let s = closing k os in
    let m = length es + length s in
    let l : length ended ≡ m = ap length a ∙ length-append es s in
    let S = start_event t k m in
    let is_now : now ≡ (es ++ s) ++ S ∷ [] = c ∙ ap₂ (λ e q. e ++ start_event t k q ∷ []) a l in
    let is_later : later ≡ opened t m ∷ left_open k os = d ∙ ap₂ (λ q o. opened t q ∷ o) l b in
    let size : length now ≡ suc m = ap length is_now ∙ (length-append (es ++ s) (S ∷ []) ∙ omega (arith, length-append es s)) in
    let L = left_events ts (suc k) (suc m) (opened t m ∷ left_open k os) in
    ap₂ (λ n o. n ++ left_events ts (suc k) (length now) o) is_now is_later
    ∙ (ap (λ q. ((es ++ s) ++ S ∷ []) ++ left_events ts (suc k) q (opened t m ∷ left_open k os)) size
    ∙ (append_assoc (es ++ s) (S ∷ []) L ∙ append_assoc es s (S ∷ L)))

-- the end of one open tree is written
pub ended_one : (k : ℕ) (t : Open) (old new : List Open) (es now : List TokenEvent) → old ≡ t ∷ new → nat_le t.after k ≡ true → now ≡ es ++ Ends t.end t.first ∷ []
    → (now ++ closing k new ≡ es ++ closing k old) × (left_open k new ≡ left_open k old)
ended_one k t old new es now a b c =
    let e : closing k old ≡ Ends t.end t.first ∷ closing k new = ap (closing k) a ∙ ap (λ b. if b then Ends t.end t.first ∷ closing k new else []) b in
    let l : left_open k old ≡ left_open k new = ap (left_open k) a ∙ ap (λ b. if b then left_open k new else t ∷ new) b in
    (ap (λ x. x ++ closing k new) c ∙ (append_assoc es (Ends t.end t.first ∷ []) (closing k new) ∙ ap (λ x. es ++ x) (sym e)), sym l)

-- no open tree ends
pub none_closing : (k : ℕ) (os : List Open) → GoesOn k os → (closing k os ≡ []) × (left_open k os ≡ os)
none_closing k [] h = (refl, refl)
none_closing k (t ∷ ts) h = (ap (λ b. if b then Ends t.end t.first ∷ closing k ts else []) h, ap (λ b. if b then left_open k ts else t ∷ ts) h)

-- no node is left
pub all_ended : (nodes : List TreeNode) (k n : ℕ) (es now : List TokenEvent) (os : List Open) → length nodes ≤ n → k ≡ n → now ≡ es ++ closing k os → now ≡ es ++ left_events (drop n nodes) n (length es) os
all_ended nodes k n es now os l e c =
    c ∙ ap₂ (λ m ts. es ++ left_events ts m (length es) os) e (sym (drop_all n nodes l))

-- all events, from those before a node on
abbrev all_left : TreeNode → List TreeNode → ℕ → List TokenEvent → List Open → List TokenEvent
all_left t ts k es left = es ++ start_event t k (length es) ∷ left_events ts (suc k) (suc (length es)) (opened t (length es) ∷ left)

parted : (t : TreeNode) (ts : List TreeNode) (k : ℕ) (es : List TokenEvent) (os : List Open) → es ++ left_events (t ∷ ts) k (length es) os ≡ all_left t ts k (es ++ closing k os) (left_open k os)
parted t ts k es os =
    let c = closing k os in
    let n = length (es ++ c) in
    ap (λ m. es ++ (c ++ start_event t k m ∷ left_events ts (suc k) (suc m) (opened t m ∷ left_open k os))) (sym (length-append es c))
    ∙ sym (append_assoc es c (start_event t k n ∷ left_events ts (suc k) (suc n) (opened t n ∷ left_open k os)))

-- what is left depends on the open trees that end first through their events alone
same_left : (ts : List TreeNode) (k : ℕ) (es fs : List TokenEvent) (os ps : List Open) → es ++ closing k os ≡ fs ++ closing k ps → left_open k os ≡ left_open k ps
    → es ++ left_events ts k (length es) os ≡ fs ++ left_events ts k (length fs) ps
same_left [] k es fs os ps e l = e
same_left (t ∷ ts) k es fs os ps e l = parted t ts k es os ∙ (ap₂ (λ all left. all_left t ts k all left) e l ∙ sym (parted t ts k fs ps))

-- one more node is written, and its end, if it has no descendants
pub written_on : (t : TreeNode) (ts : List TreeNode) (k : ℕ) (es ended now : List TokenEvent) (os left later : List Open) → ended ≡ es ++ closing k os → left ≡ left_open k os
    → now ++ closing (suc k) later ≡ (ended ++ start_event t k (length ended) ∷ []) ++ closing (suc k) (opened t (length ended) ∷ left)
    → left_open (suc k) later ≡ left_open (suc k) (opened t (length ended) ∷ left)
    → now ++ left_events ts (suc k) (length now) later ≡ es ++ left_events (t ∷ ts) k (length es) os
written_on t ts k es ended now os left later a b c d =
    let n = length ended in
    same_left ts (suc k) now (ended ++ start_event t k n ∷ []) later (opened t n ∷ left) c d
    ∙ written_one t ts k es ended (ended ++ start_event t k n ∷ []) os left (opened t n ∷ left) a b refl refl

-- the same in a list of nodes
pub written_at : (nodes : List TreeNode) (k n : ℕ) (d : TreeNode) (es ended now : List TokenEvent) (os left later : List Open) → k < length nodes → n ≡ suc k
    → ended ≡ es ++ closing k os → left ≡ left_open k os
    → now ++ closing (suc k) later ≡ (ended ++ start_event (get_or nodes k d) k (length ended) ∷ []) ++ closing (suc k) (opened (get_or nodes k d) (length ended) ∷ left)
    → left_open (suc k) later ≡ left_open (suc k) (opened (get_or nodes k d) (length ended) ∷ left)
    → now ++ left_events (drop n nodes) n (length now) later ≡ es ++ left_events (drop k nodes) k (length es) os
written_at nodes k n d es ended now os left later l e a b f g =
    let t = get_or nodes k d in
    ap (λ m. now ++ left_events (drop m nodes) m (length now) later) e
    ∙ (written_on t (drop (suc k) nodes) k es ended now os left later a b f g
    ∙ ap (λ ts. es ++ left_events ts k (length es) os) (sym (one_back nodes k (suc k) t l (get_or_default nodes k d t l) refl)))
