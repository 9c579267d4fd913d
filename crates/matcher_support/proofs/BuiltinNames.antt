-- Names of builtins, and the trees that they give.
use Rattle.std.proofs.Common.{◌≡◌, refl, ap, subst, List, [], ◌∷◌, Bool, true, false, ◌&&◌, ◌==◌, Option, Some, None, if◌then◌else◌, bytes_eq, nat_eq}
use Rattle.std.proofs.lemmas.Slice.Eq.{bytes_eq-Decides}
use Rattle.base_language.specs.Language.Text.{Text}
use Rattle.base_language.specs.Language.Builtins.{Builtin, Named, One, Property, Newline, Soi, Eoi, Peek, Pop, Drop, PeekAll, PopAll, builtins, property_names, general_categories, binary_properties, scripts, is_one_of, looked_up, builtin_of}
use Rattle.base_language.specs.Language.State.{Classes, State, Mode, NonAtomicMode, AtomicMode, CompoundAtomicMode, Between, IsRuleMode, None', Outcome, Success, Failure, moved}
use Rattle.base_language.specs.Language.Matching.{begins, text_outcome, end_token, end_outcome, with_stack, peek_outcome, pop_outcome, drop_outcome, builtin_outcome, named_outcome, other_outcome}
use Rattle.base_language.specs.Pieces.TokenTrees.{NoTokens, Token, followed_by}
use Rattle.matcher_support.specs.Names.{tag_in}
use Rattle.matcher_support.specs.Tags.{TaggedTrees, without_tags, trees_in}
use Rattle.matcher_support.specs.Spliced.{spliced}

abbrev has_none : Option Text → Bool
has_none (Some t) = false
has_none None = true

abbrev is_unmarked : Text → Bool
is_unmarked n = has_none (tag_in n)

abbrev every : List Text → Bool
every [] = true
every (t ∷ ts) = is_unmarked t && every ts

tells_option : (o : Option Text) → has_none o ≡ true → o ≡ None
tells_option None h = refl
tells_option (Some t) h = cc

tells : (n : Text) → is_unmarked n ≡ true → tag_in n ≡ None
tells n h = tells_option (tag_in n) h

both_first : (a b : Bool) → (a && b) ≡ true → a ≡ true
both_first true b h = refl
both_first false b h = cc

both_second : (a b : Bool) → (a && b) ≡ true → b ≡ true
both_second true b h = h
both_second false b h = cc

same_name : (t n : Text) → bytes_eq t n ≡ true → tag_in t ≡ None → tag_in n ≡ None
same_name t n h e = subst (λ z. tag_in z ≡ None) ((bytes_eq-Decides t n).0 h) e

one_of : (ts : List Text) (n : Text) → every ts ≡ true → is_one_of ts n ≡ true → tag_in n ≡ None
one_of [] n h e = cc
one_of (t ∷ ts) n h e = go (λ k. one_of ts n (both_second (is_unmarked t) (every ts) h) k) (bytes_eq t n) refl
  where
    go : (is_one_of ts n ≡ true → tag_in n ≡ None) → (b : Bool) → bytes_eq t n ≡ b → tag_in n ≡ None
    go f true i = same_name t n i (tells t (both_first (is_unmarked t) (every ts) h))
    go f false i = f (rw i at e)

abbrev names_in : List Named → List Text
names_in [] = []
names_in (b ∷ bs) = b.name ∷ names_in bs

properties_unmarked : every property_names ≡ true
unfolding property_names general_categories binary_properties scripts
properties_unmarked = refl

builtins_unmarked : every (names_in builtins) ≡ true
unfolding builtins
builtins_unmarked = refl

looked : (bs : List Named) (n : Text) (b : Builtin) → every (names_in bs) ≡ true → looked_up bs n ≡ Some b → tag_in n ≡ None
looked [] n b h e = go (is_one_of property_names n) refl
  where
    go : (c : Bool) → is_one_of property_names n ≡ c → tag_in n ≡ None
    go true i = one_of property_names n properties_unmarked i
    go false i = let k : None ≡ Some b = rw i at e in cc
looked (a ∷ bs) n b h e = go (λ k. looked bs n b (both_second (is_unmarked a.name) (every (names_in bs)) h) k) (bytes_eq a.name n) refl
  where
    go : (looked_up bs n ≡ Some b → tag_in n ≡ None) → (c : Bool) → bytes_eq a.name n ≡ c → tag_in n ≡ None
    go f true i = same_name a.name n i (tells a.name (both_first (is_unmarked a.name) (every (names_in bs)) h))
    go f false i = f (rw i at e)

named : (classes : Classes) (m : Mode) (n : Text) (s : State) (o : Outcome) → named_outcome classes m (builtin_of n) s ≡ Some o → tag_in n ≡ None
named classes m n s o e = go (builtin_of n) refl
  where
    go : (b : Option Builtin) → builtin_of n ≡ b → tag_in n ≡ None
    go None i = let k : None ≡ Some o = rw i at e in cc
    go (Some b) i = looked builtins n b builtins_unmarked i

-- a builtin's name is no wrapper's
pub builtin_unmarked : (classes : Classes) (m : Mode) (n : Text) (s : State) (o : Outcome) → IsRuleMode m → other_outcome classes m n s ≡ Some o → tag_in n ≡ None
builtin_unmarked classes NonAtomicMode n s o p e = named classes NonAtomicMode n s o e
builtin_unmarked classes AtomicMode n s o p e = named classes AtomicMode n s o e
builtin_unmarked classes CompoundAtomicMode n s o p e = named classes CompoundAtomicMode n s o e
builtin_unmarked classes Between n s o p e = absurd p

followed_none : (us : TaggedTrees) → followed_by us NoTokens ≡ us
followed_none NoTokens = refl
followed_none (Token r i j inner others) = ap (Token r i j inner) (followed_none others)

-- the trees of an outcome are spliced as they are
abbrev Stay : Outcome → Type 0
Stay o = (us : TaggedTrees) → followed_by us (without_tags (trees_in o)) ≡ spliced (trees_in o) us

no_trees : (o : Outcome) → trees_in o ≡ None' → Stay o
no_trees o e us = rw e (followed_none us)

stay_if : (b : Bool) (t : State) → Stay (if b then Success t None' else Failure)
stay_if true t us = followed_none us
stay_if false t us = followed_none us

stay_newline : (a b : Bool) (s : State) → Stay (if a then Success (moved 1 s) None' else (if b then Success (moved 2 s) None' else text_outcome nat_eq (13 ∷ []) s))
stay_newline true b s us = followed_none us
stay_newline false true s us = followed_none us
stay_newline false false s us = stay_if _ _ us

stay_token : (m : Mode) (s : State) → Stay (Success s (end_token m s.position))
stay_token AtomicMode s us = followed_none us
stay_token NonAtomicMode s us = refl
stay_token CompoundAtomicMode s us = refl
stay_token Between s us = refl

stay_end : (m : Mode) (v : Text) (s : State) → Stay (end_outcome m v s)
stay_end m [] s us = stay_token m s us
stay_end m (c ∷ u) s us = followed_none us

stay_with_stack : (ts : List Text) (b : Bool) (t : State) → Stay (with_stack ts (if b then Success t None' else Failure))
stay_with_stack ts true t us = followed_none us
stay_with_stack ts false t us = followed_none us

stay_drop : (ts : List Text) (s : State) → Stay (drop_outcome ts s)
stay_drop [] s us = followed_none us
stay_drop (t ∷ ts) s us = followed_none us

along : (o p : Outcome) → Some o ≡ Some p → Stay o → Stay p
along o p e f = let q : o ≡ p = cc in subst Stay q f

stay_peek : (ts : List Text) (s : State) (o : Outcome) → peek_outcome ts s ≡ Some o → Stay o
stay_peek [] s o e = cc
stay_peek (t ∷ ts) s o e = along _ o e (stay_if _ _)

stay_pop : (ts : List Text) (s : State) (o : Outcome) → pop_outcome ts s ≡ Some o → Stay o
stay_pop [] s o e = cc
stay_pop (t ∷ ts) s o e = along _ o e (stay_with_stack ts _ _)

stay_builtin : (classes : Classes) (m : Mode) (b : Builtin) (s : State) (o : Outcome) → builtin_outcome classes m b s ≡ Some o → Stay o
stay_builtin classes m (One set) s o e = along _ o e (stay_if _ _)
stay_builtin classes m (Property n) s o e = along _ o e (stay_if _ _)
stay_builtin classes m Newline s o e = along _ o e (stay_newline (begins nat_eq (10 ∷ []) s.rest) (begins nat_eq (13 ∷ 10 ∷ []) s.rest) s)
stay_builtin classes m Soi s o e = along _ o e (stay_if (s.position == 0) s)
stay_builtin classes m Eoi s o e = along _ o e (stay_end m s.rest s)
stay_builtin classes m Peek s o e = stay_peek s.stack s o e
stay_builtin classes m Pop s o e = stay_pop s.stack s o e
stay_builtin classes m Drop s o e = along _ o e (stay_drop s.stack s)
stay_builtin classes m PeekAll s o e = along _ o e (stay_if _ _)
stay_builtin classes m PopAll s o e = along _ o e (stay_with_stack [] _ _)

stay_named : (classes : Classes) (m : Mode) (b : Option Builtin) (s : State) (o : Outcome) → named_outcome classes m b s ≡ Some o → Stay o
stay_named classes m None s o e = cc
stay_named classes m (Some b) s o e = stay_builtin classes m b s o e

pub stay_other : (classes : Classes) (m : Mode) (n : Text) (s : State) (o : Outcome) → other_outcome classes m n s ≡ Some o → (us : TaggedTrees)
    → followed_by us (without_tags (trees_in o)) ≡ spliced (trees_in o) us
stay_other classes Between n s o e us = along Failure o e followed_none us
stay_other classes NonAtomicMode n s o e us = stay_named classes NonAtomicMode (builtin_of n) s o e us
stay_other classes AtomicMode n s o e us = stay_named classes AtomicMode (builtin_of n) s o e us
stay_other classes CompoundAtomicMode n s o e us = stay_named classes CompoundAtomicMode (builtin_of n) s o e us
