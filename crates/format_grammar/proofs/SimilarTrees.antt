-- Texts with equal tokens have similar trees: equal but for their places, and for the blanks at the ends of comments.
use Rattle.std.proofs.Common.{◌≡◌, ℕ, ◌+◌, List, [], ◌∷◌, ◌++◌, map, Option, None, Some, Bool, true, false, ◌&&◌, if◌then◌else◌, refl, sym, ◌∙◌, ap, subst, codes, append_assoc, append-nil}
use Rattle.std.proofs.lemmas.Bool.{false≢true}
use Rattle.std.specs.Prelude.{bytes_eq}
use Rattle.std.specs.List.{slice_range}
use Rattle.base_language.specs.Language.Text.{Text}
use Rattle.base_language.specs.Language.State.{Trees, None', Tree}
use Rattle.base_language.specs.Pieces.MetaRules.{name_of}
use Rattle.base_language.specs.declared.grammar.Rule.{Rule}
use Rattle.base_language.specs.declared.grammar.Rule.TheVariants as rule_is
use Rattle.front_syntax.specs.TokenEvents.{TokenEvent, Starts, Ends, named_events, events_of, event_count}
use Rattle.front_syntax.specs.declared.events.TokenEvent as code
use Rattle.front_syntax.specs.declared.events.TokenEvent.TheVariants as is
use Rattle.format_grammar.specs.Comments.{trimmed_line}
use Rattle.format_grammar.specs.Tokens.{token_text, tokens_after}
use Rattle.format_grammar.proofs.LeafTokens.{may_hold, all_hold}

-- the text of a token without children; of a doc comment without the blanks at its end
abbrev pub leaf_text : Text → List ℕ → List ℕ
leaf_text r text = if bytes_eq r (codes "inner_doc") then trimmed_line text else text

-- two texts of trees that hold these are equal, if these are none
abbrev pub SameLeaf : Text → Trees → List ℕ → List ℕ → Type 0
SameLeaf r None' a b = leaf_text r a ≡ leaf_text r b
SameLeaf r (Tree s i j inner us) a b = Unit {0}

-- trees of two texts that are equal but for their places and for the blanks at the ends of comments
pub data Similar (text other : List ℕ) : Trees → Trees → Type 0 where
  nothing : Similar text other None' None'
  tree : {r : Text} {i j k l : ℕ} {inner inside us vs : Trees} → may_hold r inner ≡ true
      → SameLeaf r inner (slice_range text i j) (slice_range other k l)
      → Similar text other inner inside → Similar text other us vs
      → Similar text other (Tree r i j inner us) (Tree r k l inside vs)

-- what shows of events: the rule of a start, and at an end the text of a token without children, if the event
-- before it is the start of one, of this rule and at this place
abbrev shown_of : List ℕ → Option (Text × ℕ) → List TokenEvent → List (Option Text × List ℕ)
shown_of text before [] = []
shown_of text before (Starts r i m ∷ es) = (Some r, []) ∷ shown_of text (Some (r, i)) es
shown_of text None (Ends j n ∷ es) = (None, []) ∷ shown_of text None es
shown_of text (Some x) (Ends j n ∷ es) = (None, leaf_text x.0 (slice_range text x.1 j)) ∷ shown_of text None es

abbrev rule_at : code.TokenEvent → Option Text
rule_at (is.Start r i m) = Some (name_of r)
rule_at (is.End j n) = None

abbrev shown : code.TokenEvent × List ℕ → Option Text × List ℕ
shown x = (rule_at x.0, x.1)

abbrev start_at : code.TokenEvent → Option (Text × ℕ)
start_at (is.Start r i m) = Some (name_of r, i)
start_at (is.End j n) = None

token_text-leaf : (r : Rule) (text : List ℕ) → token_text r text ≡ leaf_text (name_of r) text
token_text-leaf rule_is.inner_doc text = refl
token_text-leaf _ text = refl

shown-tokens : (text : List ℕ) (e : code.TokenEvent) (es : List code.TokenEvent) → map shown (tokens_after text e es) ≡ shown_of text (start_at e) (named_events es)
shown-tokens text e [] = refl
shown-tokens text (is.Start q a b) (is.Start r i m ∷ es) = ap (λ (ts : List (Option Text × List ℕ)). (Some (name_of r), []) ∷ ts) (shown-tokens text (is.Start r i m) es)
shown-tokens text (is.End a b) (is.Start r i m ∷ es) = ap (λ (ts : List (Option Text × List ℕ)). (Some (name_of r), []) ∷ ts) (shown-tokens text (is.Start r i m) es)
shown-tokens text (is.End a b) (is.End j n ∷ es) = ap (λ (ts : List (Option Text × List ℕ)). (None, []) ∷ ts) (shown-tokens text (is.End j n) es)
shown-tokens text (is.Start q a b) (is.End j n ∷ es) =
    ap (λ (ts : List (Option Text × List ℕ)). (None, token_text q (slice_range text a j)) ∷ ts) (shown-tokens text (is.End j n) es)
    ∙ ap (λ (t : List ℕ). (None, t) ∷ shown_of text None (named_events es)) (token_text-leaf q (slice_range text a j))

-- no tree starts at once
abbrev StartsNone : List TokenEvent → Type 0
StartsNone [] = Unit {0}
StartsNone (Starts r i m ∷ es) = ⊥
StartsNone (Ends j n ∷ es) = Unit {0}

-- the start just before what is after some trees
abbrev start_after : Option (Text × ℕ) → Trees → Option (Text × ℕ)
start_after before None' = before
start_after before (Tree r i j inner us) = None

head_of : List (Option Text × List ℕ) → Option Text × List ℕ
head_of [] = (None, [])
head_of (x ∷ xs) = x

tail_of : List (Option Text × List ℕ) → List (Option Text × List ℕ)
tail_of [] = []
tail_of (x ∷ xs) = xs

rule_of : List (Option Text × List ℕ) → Text
rule_of [] = []
rule_of ((None, t) ∷ xs) = []
rule_of ((Some r, t) ∷ xs) = r

starts : List (Option Text × List ℕ) → Bool
starts [] = false
starts ((None, t) ∷ xs) = false
starts ((Some r, t) ∷ xs) = true

-- if no tree starts, none is shown
none_shown : (text : List ℕ) (before : Option (Text × ℕ)) (es : List TokenEvent) → StartsNone es → starts (shown_of text before es) ≡ false
unfolding starts
none_shown text before [] s = refl
none_shown text before (Starts r i m ∷ es) s = absurd s
none_shown text None (Ends j n ∷ es) s = refl
none_shown text (Some x) (Ends j n ∷ es) s = refl

no_start : {A : Type 0} (text : List ℕ) (before : Option (Text × ℕ)) (es : List TokenEvent) (r : Text) (ts : List (Option Text × List ℕ)) → StartsNone es → shown_of text before es ≡ (Some r, []) ∷ ts → A
unfolding starts
no_start text before es r ts s e = absurd (false≢true (sym (none_shown text before es s) ∙ ap starts e))

and_left : (a b : Bool) → (a && b) ≡ true → a ≡ true
and_left true b h = refl
and_left false b h = absurd (false≢true h)

and_right : (a b : Bool) → (a && b) ≡ true → b ≡ true
and_right true b h = h
and_right false b h = absurd (false≢true h)

module _ (text other : List ℕ) where
  -- the text of a tree without trees in it, and what is after the tree
  closed : (r : Text) (i j k l m n : ℕ) (inner inside : Trees) (es fs : List TokenEvent) → Similar text other inner inside
      → shown_of text (start_after (Some (r, i)) inner) (Ends j m ∷ es) ≡ shown_of other (start_after (Some (r, k)) inside) (Ends l n ∷ fs)
      → SameLeaf r inner (slice_range text i j) (slice_range other k l) × (shown_of text None es ≡ shown_of other None fs)
  unfolding head_of tail_of
  closed r i j k l m n inner inside es fs nothing e = (ap (λ (xs : List (Option Text × List ℕ)). (head_of xs).1) e, ap tail_of e)
  closed r i j k l m n inner inside es fs (tree f a d s) e = (tt, ap tail_of e)

  -- the events of a tree, of those after it, and others
  apart : (n : ℕ) (before : Option (Text × ℕ)) (r : Text) (i j : ℕ) (inner us : Trees) (rest : List TokenEvent)
      → shown_of text before (events_of n (Tree r i j inner us) ++ rest)
      ≡ (Some r, []) ∷ shown_of text (Some (r, i)) (events_of (n + 1) inner ++ Ends j n ∷ (events_of (n + 2 + event_count inner) us ++ rest))
  apart n before r i j inner us rest =
      ap (λ (es : List TokenEvent). (Some r, []) ∷ shown_of text (Some (r, i)) es) (append_assoc (events_of (n + 1) inner) (Ends j n ∷ events_of (n + 2 + event_count inner) us) rest)

module _ (text other : List ℕ) where
  similar : (us vs : Trees) (n m : ℕ) (p q : Option (Text × ℕ)) (rest left : List TokenEvent) → StartsNone rest → StartsNone left → all_hold us ≡ true
      → shown_of text p (events_of n us ++ rest) ≡ shown_of other q (events_of m vs ++ left)
      → Similar text other us vs × (shown_of text (start_after p us) rest ≡ shown_of other (start_after q vs) left)
  unfolding tail_of rule_of
  similar None' None' n m p q rest left s t h e = (nothing, e)
  similar None' (Tree r i j inner us) n m p q rest left s t h e =
      no_start text p rest r (shown_of other (Some (r, i)) (events_of (m + 1) inner ++ Ends j m ∷ (events_of (m + 2 + event_count inner) us ++ left))) s (e ∙ apart other text m q r i j inner us left)
  similar (Tree r i j inner us) None' n m p q rest left s t h e =
      no_start other q left r (shown_of text (Some (r, i)) (events_of (n + 1) inner ++ Ends j n ∷ (events_of (n + 2 + event_count inner) us ++ rest))) t (sym e ∙ apart text other n p r i j inner us rest)
  similar (Tree r i j inner us) (Tree q k l inside vs) n m before b4 rest left s t h e =
      let es : List TokenEvent = events_of (n + 2 + event_count inner) us ++ rest in
      let fs : List TokenEvent = events_of (m + 2 + event_count inside) vs ++ left in
      let f = sym (apart text other n before r i j inner us rest) ∙ (e ∙ apart other text m b4 q k l inside vs left) in
      let name : r ≡ q = ap rule_of f in
      let inner_hold = and_left (all_hold inner) (all_hold us) (and_right (may_hold r inner) _ h) in
      let us_hold = and_right (all_hold inner) (all_hold us) (and_right (may_hold r inner) _ h) in
      let within = similar inner inside (n + 1) (m + 1) (Some (r, i)) (Some (q, k)) (Ends j n ∷ es) (Ends l m ∷ fs) tt tt inner_hold (ap tail_of f) in
      let behind = closed text other r i j k l n m inner inside es fs within.0
      (within.1 ∙ ap (λ (a : Text). shown_of other (start_after (Some (a, k)) inside) (Ends l m ∷ fs)) (sym name)) in
      let after = similar us vs (n + 2 + event_count inner) (m + 2 + event_count inside) None None rest left s t us_hold behind.1 in (
        subst (λ (a : Text). Similar text other (Tree r i j inner us) (Tree a k l inside vs)) name
            (tree (and_left (may_hold r inner) _ h) behind.0 within.0 after.0),
        always us vs after.1,
      )
    where
      always : (us vs : Trees) → shown_of text (start_after None us) rest ≡ shown_of other (start_after None vs) left → shown_of text None rest ≡ shown_of other None left
      always None' None' e = e
      always None' (Tree r i j inner us) e = e
      always (Tree r i j inner us) None' e = e
      always (Tree r i j inner us) (Tree s k l inside vs) e = e

  -- texts of equal tokens
  pub similar_trees : (es fs : List code.TokenEvent) (us vs : Trees) → named_events es ≡ events_of 0 us → named_events fs ≡ events_of 0 vs → all_hold us ≡ true
      → tokens_after text (is.End 0 0) es ≡ tokens_after other (is.End 0 0) fs → Similar text other us vs
  similar_trees es fs us vs e f h t =
      let shows : shown_of text None (named_events es) ≡ shown_of other None (named_events fs) =
      sym (shown-tokens text (is.End 0 0) es) ∙ (ap (map shown) t ∙ shown-tokens other (is.End 0 0) fs) in
      let same : shown_of text None (events_of 0 us ++ []) ≡ shown_of other None (events_of 0 vs ++ []) =
      ap (shown_of text None) (append-nil (events_of 0 us) ∙ sym e) ∙ (shows ∙ ap (shown_of other None) (f ∙ sym (append-nil (events_of 0 vs)))) in
      (similar us vs 0 0 None None [] [] tt tt h same).0
