-- Walks over nodes: what waits on a stack, and the answers of one more call.
use Rattle.std.proofs.Common.{◌≡◌, ℕ, ◌+◌, ◌<◌, take, get_or, suc, ◌≤◌, List, [], ◌∷◌, ◌++◌, Option, Some, None, map, option_to_list, Bor, length, refl, sym, ap, ◌∙◌, append_assoc, append-nil, arith, subst, cond, Result, Ok, Err, is_ok, OnOk}
use Rattle.std.specs.List.{filter_map, cons_option}
use Rattle.std.specs.Option.{option_map}
use Rattle.front_spanned.specs.Nodes.{view, rule_view, rule_views}
use Rattle.front_spanned.specs.Spanned.{Spanned, SpannedRule, Span, Binary, Two}
use Rattle.front_spanned.specs.Walk.{preorder, waiting, Answered, Appended}
use Rattle.front_spanned.specs.declared.node.ParserNode.{ParserNode}
use Rattle.front_spanned.specs.declared.node.ParserRule.{ParserRule}
use Rattle.std.specs.Prelude.{flat_map}
use Rattle.std.proofs.lemmas.Grind.{flat_map-append}
use Rattle.std.proofs.lemmas.List.{map-append, take_more, take_all}

-- a node on top of a stack comes first
pub waiting_push : (ns : List (Bor ParserNode)) (n : Bor ParserNode) → waiting (ns ++ (n ∷ [])) ≡ preorder (view n.now) ++ waiting ns
waiting_push [] n = sym (append-nil (preorder (view n.now)))
waiting_push (m ∷ ns) n = rw (waiting_push ns n) (append_assoc (preorder (view n.now)) (waiting ns) (preorder (view m.now)))

-- the operands of a node on top of a stack, the left one above the right, wait before what waited
pub operands_wait : (s : Span) (f : Binary) (v : Spanned) (ns ms ks : List (Bor ParserNode)) (l r : Bor ParserNode) → v ≡ Two s f (view l.now) (view r.now) → ms ≡ ns ++ (r ∷ []) → ks ≡ ms ++ (l ∷ []) → v ∷ waiting ks ≡ preorder v ++ waiting ns
operands_wait s f v ns ms ks l r e g h =
    let p : waiting ks ≡ preorder (view l.now) ++ (preorder (view r.now) ++ waiting ns) = rw (h, waiting_push ms l, g, waiting_push ns r) refl in
    rw (p, e) (ap (λ w. Two s f (view l.now) (view r.now) ∷ w) (sym (append_assoc (preorder (view l.now)) (preorder (view r.now)) (waiting ns))))

-- what waits behind a node, when its operands are on the stack in its place
pub waiting_on : (ss ps qs : List (Bor ParserNode)) (n : Bor ParserNode) → ss ≡ ps ++ (n ∷ []) → view n.now ∷ waiting qs ≡ preorder (view n.now) ++ waiting ps → waiting ss ≡ view n.now ∷ waiting qs
waiting_on ss ps qs n e h = rw (e, waiting_push ps n) (sym h)

-- so less waits
pub waits_less : (ss ps qs : List (Bor ParserNode)) (n : Bor ParserNode) → ss ≡ ps ++ (n ∷ []) → view n.now ∷ waiting qs ≡ preorder (view n.now) ++ waiting ps → suc (length (waiting qs)) ≤ length (waiting ss)
waits_less ss ps qs n e h = rw (waiting_on ss ps qs n e h) (omega arith)

-- one more answer, where there is one
seen : {T U : Type 0} (see : T → U) (r : Option T) (others : List T) (o : Option U) (us : List U) → option_map see r ≡ o → map see others ≡ us → map see (option_to_list r ++ others) ≡ cons_option o us
seen see None others o us e h = rw (← e) h
seen see (Some t) others o us e h = rw (← e) (ap (λ vs. see t ∷ vs) h)

module _ {F T : Type 0} (step : F → ParserNode → Option T → F → Type 0) where
  -- a call at a node, and then those at the others
  pub answered_on : (f g last : F) (m : ParserNode) (x : Spanned) (r : Option T) (xs ws : List Spanned) (found : List T) → view m ≡ x → step f m r g → ws ≡ x ∷ xs → Answered step g xs last found → Answered step f ws last (option_to_list r ++ found)
  answered_on f g last m x r xs ws found e h i j = rw i (r, g, found, record { node = m; reads = e; called = h }, j, refl)

  -- the same of what was there before
  pub appended_on : (f last : F) (x : Spanned) (before us vs : List T) (r : Option T) (found : List T) → vs ≡ us ++ option_to_list r → Appended step f x last before (us ++ (option_to_list r ++ found)) → Appended step f x last before (vs ++ found)
  appended_on f last x before us vs r found e h = rw (e, append_assoc us (option_to_list r) found) h

  -- answers that follow none are all there are
  pub answered_alone : (f last : F) (x : Spanned) (before after : List T) → before ≡ [] → Appended step f x last before after → Answered step f (preorder x) last after
  answered_alone f last x before after e h = subst (λ ts. Answered step f (preorder x) last ts) (sym (h.2 ∙ ap (λ ts. ts ++ h.0) e)) h.1

  -- answers that are put behind others, where there is room
  pub appended_where_ok : {X Y E D : Type 0} (f last : F) (x : Spanned) (us found zs : List T) (r : Result X E) (q : Result Y D) → is_ok q ≡ is_ok r → zs ≡ cond (is_ok r) (us ++ found) us → Answered step f (preorder x) last found → OnOk q (Appended step f x last us zs)
  appended_where_ok f last x us found zs r (Ok y) o e h = (found, h, e ∙ rw (← o) refl)
  appended_where_ok f last x us found zs r (Err d) o e h = tt

  -- where each call answers, as `see` sees it, what `read` gives of the node, so do all: for calls that change nothing
  pub answered_as : {U : Type 0} (see : T → U) (read : Spanned → Option U) → ((f g : F) (n : ParserNode) (r : Option T) → step f n r g → option_map see r ≡ read (view n)) → (xs : List Spanned) (f last : F) (answers : List T) → Answered step f xs last answers → map see answers ≡ filter_map read xs
  answered_as see read each [] f last answers h = ap (map see) h.1
  answered_as see read each (x ∷ xs) f last answers (r, g, others, at, rest, e) =
      rw e (seen see r others (read x) (filter_map read xs) (each f g at.node r at.called ∙ ap read at.reads) (answered_as see read each xs g last others rest))

-- a node was looked at, and what was found at it
pub walk_step : {A : Type 0} (f : Spanned → List A) (old new all : List A) (w v : List Spanned) (x : Spanned) → new ≡ old ++ f x → w ≡ x ∷ v → old ++ flat_map f w ≡ all → new ++ flat_map f v ≡ all
walk_step f old new all w v x e h i =
    ap (λ l. l ++ flat_map f v) e ∙ append_assoc old (f x) (flat_map f v) ∙ sym (ap (λ l. old ++ flat_map f l) h) ∙ i

-- a rule was looked at, and what was found in it
pub rule_step : {A : Type 0} (f : SpannedRule → List A) (rules : List ParserRule) (i : ℕ) (x : ParserRule) (old new : List A) → i < length rules → x ≡ get_or rules i x
    → new ≡ old ++ f (rule_view x) → old ≡ flat_map f (rule_views (take i rules)) → new ≡ flat_map f (rule_views (take (i + 1) rules))
rule_step f rules i x old new h at e o =
    let more : take (i + 1) rules ≡ take i rules ++ x ∷ [] = take_more rules i x h ∙ ap (λ r. take i rules ++ r ∷ []) (sym at) in
    e ∙ (ap (λ l. l ++ f (rule_view x)) o
    ∙ sym (ap (λ l. flat_map f (rule_views l)) more
    ∙ (ap (flat_map f) (map-append rule_view (take i rules) (x ∷ []))
    ∙ (flat_map-append f (rule_views (take i rules)) (rule_view x ∷ [])
    ∙ ap (λ l. flat_map f (rule_views (take i rules)) ++ l) (append-nil (f (rule_view x)))))))

pub all_rules : {A : Type 0} (f : SpannedRule → List A) (rules : List ParserRule) (i : ℕ) (found : List A) → length rules ≤ i → found ≡ flat_map f (rule_views (take i rules)) → found ≡ flat_map f (rule_views rules)
all_rules f rules i found h e = e ∙ ap (λ l. flat_map f (rule_views l)) (take_all i rules h)
