-- All that is read from a text stands in it, and so does what the stack pass reports of it.
use Rattle.std.proofs.Common.{◌≡◌, ℕ, List, [], ◌∷◌, ◌++◌, map, Bool, Some, inl, inr, refl}
use Rattle.std.proofs.lemmas.List.Elements.{All-nil, All-cons, All-head, All-tail, All-same, All-append}
use Rattle.std.specs.List.{All}
use Rattle.base_language.specs.Language.State.{Trees}
use Rattle.front_spanned.specs.Spanned.{Span, span_of, Spanned, Leaf, One, Two, Unary, placed, SpannedRule}
use Rattle.front_reader.specs.Reading.{Category, Postfixed, done, more, Reads, barred, unbarred, one_alternative, choice, one_term, sequence, tagged, pos_pred, neg_pred, bare, grouped, leaf, pushed, literally_pushed, ReadsRule, normal, modified, ReadsRules, end_of_input, grammar_doc, documented, defined}
use Rattle.front_stack_loops.specs.Visiting.{AllReported}
use Rattle.front_stack_domain.specs.Reading as says
use Rattle.front_stack_domain.specs.Reported.{Own, ReportedIn}
use Rattle.front_stack_domain.specs.Stack.{AbstractStack}

module _ (text : List ℕ) where
  -- a place in the text
  abbrev pub InText : Span → Type 0
  InText s = s.text ≡ text

  -- a node and all nodes inside stand in the text
  abbrev pub StandsIn : Spanned → Type 0
  StandsIn (Leaf s e) = InText s
  StandsIn (One s f x) = InText s × StandsIn x
  StandsIn (Two s f x y) = InText s × StandsIn x × StandsIn y

  stands_there : (x : Spanned) → StandsIn x → InText (span_of x)
  stands_there (Leaf s e) h = h
  stands_there (One s f x) h = h.0
  stands_there (Two s f x y) h = h.0

  stands_placed : (t : Span) (x : Spanned) → InText t → StandsIn x → StandsIn (placed t x)
  stands_placed t (Leaf s e) k h = k
  stands_placed t (One s f x) k h = (k, h.1)
  stands_placed t (Two s f x y) k h = (k, h.1, h.2)

  -- 1. what is read
  postfixed_stands : {x y : Spanned} {us : Trees} → Postfixed text x us y → StandsIn x → StandsIn y
  postfixed_stands done h = h
  postfixed_stands (more p d) h = postfixed_stands d (refl, h)

  read_stands : {category : Category} {us : Trees} {x : Spanned} → Reads text category us x → StandsIn x
  read_stands (barred d) = read_stands d
  read_stands (unbarred d) = read_stands d
  read_stands (one_alternative d) = read_stands d
  read_stands (choice a b d e) = (refl, read_stands d, read_stands e)
  read_stands (one_term d) = read_stands d
  read_stands (sequence a b k l d e) = (refl, read_stands d, read_stands e)
  read_stands (tagged d) = (refl, read_stands d)
  read_stands (pos_pred d) = (refl, read_stands d)
  read_stands (neg_pred d) = (refl, read_stands d)
  read_stands (bare d p) = postfixed_stands p (read_stands d)
  read_stands (grouped {open_at = a} {close_to = n} {x = x} {y = y} d p) =
      let inside = read_stands d in
      let ended = stands_placed (record (span_of x) { end = n }) x (stands_there x inside) inside in
      let whole = postfixed_stands p ended in
      stands_placed (record (span_of y) { start = a }) y (stands_there y whole) whole
  read_stands (leaf t) = refl
  read_stands (pushed d) = (refl, read_stands d)
  read_stands literally_pushed = refl

  rule_stands : {us : Trees} {r : SpannedRule} → ReadsRule text us (Some r) → StandsIn r.body
  rule_stands (normal d) = read_stands d
  rule_stands (modified m d) = read_stands d

  pub rules_stand : {us : Trees} {rs : List SpannedRule} → ReadsRules text us rs → All (λ r. StandsIn r.body) rs
  rules_stand end_of_input = All-nil (λ (r : SpannedRule). StandsIn r.body)
  rules_stand (grammar_doc d) = rules_stand d
  rules_stand (documented h d) = rules_stand d
  rules_stand (defined {r = r} {rs = rs} h d) = All-cons (λ (q : SpannedRule). StandsIn q.body) r rs (rule_stands h) (rules_stand d)

  -- 2. what is reported of it
  module _ (limit turns : ℕ) (read : Spanned → AbstractStack → says.Reading) (nullable : Spanned → Bool) where
    own_stands : (S : AbstractStack → Type 0) (t : Span) (f : Unary) (x : Spanned) (us ts : List Span) → InText t → All InText us → Own limit turns read nullable S t f x us ts → All InText ts
    own_stands S t f x us ts h k (inl a) = All-same InText ts (t ∷ us) a.3 (All-cons InText t us h k)
    own_stands S t f x us ts h k (inr a) = All-same InText ts us a.1 k

    reported_stands : (x : Spanned) (S : AbstractStack → Type 0) (ts : List Span) → StandsIn x → ReportedIn limit turns read nullable S x ts → All InText ts
    reported_stands (Leaf t e) S ts h a = All-same InText ts [] a (All-nil InText)
    reported_stands (One t f x) S ts h (inside, r, own) = own_stands S t f x inside ts h.0 (reported_stands x _ inside h.1 r) own
    reported_stands (Two t f x y) S ts h (ls, bs, p, q, e) =
        All-same InText ts (ls ++ bs) e (All-append InText ls bs (reported_stands x S ls h.1 p) (reported_stands y _ bs h.2 q))

  pub all_stand : (R : Spanned → List Span → Type 0) → ((x : Spanned) (ts : List Span) → StandsIn x → R x ts → All InText ts)
      → (rules : List SpannedRule) (us : List Span) → All (λ r. StandsIn r.body) rules → AllReported R (map (λ r. r.body) rules) us → All InText us
  all_stand R each [] us h a = All-same InText us [] a (All-nil InText)
  all_stand R each (r ∷ rs) us h (ts, vs, p, q, e) =
      let rest = all_stand R each rs vs (All-tail (λ (q : SpannedRule). StandsIn q.body) r rs h) q in
      All-same InText us (ts ++ vs) e (All-append InText ts vs (each r.body ts (All-head (λ (q : SpannedRule). StandsIn q.body) r rs h) p) rest)

  pub bodies_stand : (limit turns : ℕ) (read : Spanned → AbstractStack → says.Reading) (nullable : Spanned → Bool) (S : AbstractStack → Type 0)
      → (x : Spanned) (ts : List Span) → StandsIn x → ReportedIn limit turns read nullable S x ts → All InText ts
  bodies_stand limit turns read nullable S x ts h a = reported_stands limit turns read nullable x S ts h a
