-- What a change of bodies keeps of a grammar, whatever the change is at its root.
use Rattle.std.proofs.Common.{◌≡◌, ℕ, ◌<◌, List, [], ◌++◌, Option, Some, refl, subst, false}
use Rattle.std.proofs.lemmas.List.Elements.{All-nil, All-cons, All-head, All-tail, All-append, All-contains}
use Rattle.std.specs.List.{All}
use Rattle.base_language.specs.Language.Text.{Text, IsText, IsScalarValue}
use Rattle.base_language.specs.Language.Expression.{Grammar, Expression, Str, Insens, Range, Ident, PeekSlice, Rep, RepOnce, RepExact, RepMin, RepMax, RepMinMax, Skip, PushLiteral, NodeTag, RuleType, Rule, rule_of, Part, Seq}
use Rattle.base_language.specs.Rewritings.Rewriting.{Strings, one, named, more, Within, here, in_pos_pred, in_neg_pred, in_seq_left, in_seq_right, in_choice_left, in_choice_right, in_opt, in_rep, in_rep_once, in_rep_exact, in_rep_min, in_rep_max, in_rep_min_max, in_push, in_restore, Many, no_step, one_step, EachBody, no_rules, also_rule, in_tag}
use Rattle.base_language.specs.Language.Builtins.{is_one_of}
use Rattle.base_language.specs.Language.Grammar.{keywords, HasDistinctNames, FitsItsTypes, FitsUnsigned32, FitsSigned32, EndFits, IsGrammar}
use Rattle.base_language.specs.Language.WellFormed.{IsNullable, nullable_str, nullable_insens, nullable_soi, nullable_eoi, nullable_call, nullable_pos_pred, nullable_neg_pred, nullable_opt, nullable_rep, nullable_rep_max, nullable_seq, nullable_left, nullable_right, nullable_rep_once, nullable_push, nullable_exact_zero, nullable_exact, nullable_min_zero, nullable_min, nullable_min_max_zero, nullable_min_max, nullable_skip, nullable_restore, LeftCalls, left_name, left_first, left_second, left_pos_pred, left_neg_pred, left_left, left_right, left_opt, left_rep, left_rep_once, left_rep_exact, left_rep_min, left_rep_max, left_rep_min_max, left_push, left_restore, Leads, at_once, by_way, Reaches, itself, onward, InRules, InSomeRule, IsWellFormed, CountIsReadable, HasReadableCounts, NamesHaveReadableCounts, IsPlainName, of_rule, of_builtin, IsPlain, nullable_push_literal, nullable_tag, left_tag}
use Rattle.base_language.proofs.StepsKeepOutcomes.{Matched, neither, two, no_rule, each_pair}
use Rattle.base_language.proofs.Everywhere.{Condition, nothing, HoldsHere, Everywhere, everywhere, at_part, weaker, kept_within, kept_along}
use Rattle.base_language.proofs.SomeRule.{holds_of_named, each_rule}
use Rattle.base_language.proofs.Basics.{same_some}

-- 1. conditions
-- counts are readable
abbrev pub readable : Condition
readable = record nothing { exact = λ i. 0 < i; most = λ i. 0 < i; bounds = λ i j. 0 < j }

-- of the two numbers of `{m,n}` what B says
abbrev pub bounding : (ℕ → ℕ → Type 0) → Condition
bounding B = record nothing { bounds = B }

-- and what is repeated is not nullable
abbrev pub endless_nowhere : (ℕ → ℕ → Type 0) → Grammar → Condition
endless_nowhere B f = record nothing { bounds = B; repeated = λ e. IsNullable f e → ⊥ }

-- no slices, and of each name what N says
abbrev pub calling : (Text → Type 0) → Condition
calling N = record nothing { name = N; slice = λ i j. ⊥ }

-- of each name what N says
abbrev pub naming : (Text → Type 0) → Condition
naming N = record nothing { name = N }

-- numbers within their types, and texts
abbrev pub fitting : Condition
fitting = record nothing {
  literal = IsText;
  insensitive = IsText;
  range = λ t u. IsText t × IsText u;
  name = IsText;
  slice = λ i j. FitsSigned32 i × EndFits j;
  strings = All IsText;
  pushed = IsText;
  tagged = IsText;
  exact = FitsUnsigned32;
  least = FitsUnsigned32;
  most = FitsUnsigned32;
  bounds = λ i j. FitsUnsigned32 i × FitsUnsigned32 j;
}

readable_at : (p : Expression) → CountIsReadable p → HoldsHere readable p
readable_at (RepExact e i) x = x
readable_at (RepMin e i) x = (tt, tt)
readable_at (RepMax e i) x = x
readable_at (RepMinMax e i j) x = x
readable_at _ x = tt

count_of : (p : Expression) → HoldsHere readable p → CountIsReadable p
count_of (RepExact e i) x = x
count_of (RepMax e i) x = x
count_of (RepMinMax e i j) x = x
count_of _ x = tt

fitting_at : (p : Expression) → FitsItsTypes p → HoldsHere fitting p
fitting_at (Str t) x = x
fitting_at (Insens t) x = x
fitting_at (Range t u) x = x
fitting_at (Ident n) x = x
fitting_at (PeekSlice i j) x = x
fitting_at (RepExact e i) x = x
fitting_at (RepMin e i) x = (tt, x)
fitting_at (RepMax e i) x = x
fitting_at (RepMinMax e i j) x = x
fitting_at (Skip ts) x = x
fitting_at (PushLiteral t) x = x
fitting_at (NodeTag e t) x = x
fitting_at _ x = tt

fits_of : (p : Expression) → HoldsHere fitting p → FitsItsTypes p
fits_of (Str t) x = x
fits_of (Insens t) x = x
fits_of (Range t u) x = x
fits_of (Ident n) x = x
fits_of (PeekSlice i j) x = x
fits_of (RepExact e i) x = x
fits_of (RepMin e i) x = x.1
fits_of (RepMax e i) x = x
fits_of (RepMinMax e i j) x = x
fits_of (Skip ts) x = x
fits_of (PushLiteral t) x = x
fits_of (NodeTag e t) x = x
fits_of _ x = tt

-- a condition on all rules of a list
abbrev InBody : Condition → Rule → Type 0
InBody c r = Everywhere c r.body

abbrev InBodies : Condition → Grammar → Type 0
InBodies c g = All (InBody c) g

in_bodies : (c : Condition) (g : Grammar) → ((p : Expression) → InSomeRule g p → HoldsHere c p) → InBodies c g
in_bodies c g f = each_rule (InBody c) g (λ r i. everywhere c r.body (λ p d. f p (r, i, d)))

at_some_part : (c : Condition) (g : Grammar) → InBodies c g → (p : Expression) → InSomeRule g p → HoldsHere c p
at_some_part c g a p i = at_part c (All-contains (InBody c) g i.0 a i.1) i.2

-- what a change may put together of the texts that it finds; names are looked up in g
pub record IsClosed (g : Grammar) (c : Condition) : Type 0 where
  pub empty : c.literal []
  pub joined : (t u : Text) → c.literal t → c.literal u → c.literal (t ++ u)
  pub joined_insensitive : (t u : Text) → c.insensitive t → c.insensitive u → c.insensitive (t ++ u)
  pub strings : (e : Expression) (ts : List Text) → Strings g e ts → Everywhere c e → c.strings ts
  pub swapped : (a b : Expression) → c.repeated (Seq a b) → c.repeated (Seq b a)

module _ (g : Grammar) (bodies : InBodies fitting g) where
  strings_fit : {e : Expression} {ts : List Text} → Strings g e ts → Everywhere fitting e → All IsText ts
  strings_fit (one {t = t}) h = All-cons IsText t [] h (All-nil IsText)
  strings_fit (named {n = n} {r = r} i s) h = strings_fit s (holds_of_named (InBody fitting) g n r bodies i)
  strings_fit (more {ts = ts} {us = us} l s v) h = All-append IsText ts us (strings_fit s h.0) (strings_fit v h.1)

  fitting_closed : IsClosed g fitting
  fitting_closed = record {
    empty = All-nil IsScalarValue;
    joined = All-append IsScalarValue;
    joined_insensitive = All-append IsScalarValue;
    strings = λ e ts s h. strings_fit s h;
    swapped = λ a b h. tt;
  }

nullable_swapped : (f : Grammar) {a b : Expression} → IsNullable f (Seq b a) → IsNullable f (Seq a b)
nullable_swapped f (nullable_seq n m) = nullable_seq m n

-- 2. what a change has to keep at its root, where the numbers of `{m,n}` are as B says
pub record KeepsAtRoot (g : Grammar) (R : RuleType → Expression → Expression → Type 0) (B : ℕ → ℕ → Type 0) : Type 1 where
  pub nullable : (f : Grammar) (y : RuleType) (a b : Expression) → R y a b → Everywhere (bounding B) a → IsNullable f b → IsNullable f a
  pub left : (f : Grammar) (y : RuleType) (a b : Expression) (n : Text) → R y a b → LeftCalls f b n → LeftCalls f a n
  pub parts : (c : Condition) → IsClosed g c → (y : RuleType) (a b : Expression) → R y a b → Everywhere c a → Everywhere c b

-- the rule of a name before and behind
module _ (B : RuleType → Expression → Expression → Type 0) where
  abbrev Behind : Option Rule → Rule → Type 0
  Behind q r = (b : Expression) × (q ≡ Some (record r { body = b })) × B r.type_of r.body b

  abbrev Before : Option Rule → Rule → Type 0
  Before p r = (a : Expression) × (p ≡ Some (record r { body = a })) × B r.type_of a r.body

  forward : {p q : Option Rule} {r : Rule} → Matched B p q → p ≡ Some r → Behind q r
  forward neither e = cc
  forward (two {r = s} {b = b} x) e = subst (λ r. (c : Expression) × (Some (record s { body = b }) ≡ Some (record r { body = c })) × B r.type_of r.body c) (same_some e) (b, refl, x)

  backward : {p q : Option Rule} {r : Rule} → Matched B p q → q ≡ Some r → Before p r
  backward neither e = cc
  backward (two {r = s} {b = b} x) e = subst (λ r. (a : Expression) × (Some s ≡ Some (record r { body = a })) × B r.type_of a r.body) (same_some e) (s.body, refl, x)

module _ (g : Grammar) (R : RuleType → Expression → Expression → Type 0) (B : ℕ → ℕ → Type 0) (k : KeepsAtRoot g R B) where
  -- 3. at any place of a body
  module _ (f : Grammar) {y : RuleType} where
    nullable_within : {a b : Expression} → Within (R y) a b → Everywhere (bounding B) a → IsNullable f b → IsNullable f a
    nullable_within (here w) c n = k.nullable f _ _ _ w c n
    nullable_within (in_pos_pred w) c n = nullable_pos_pred
    nullable_within (in_neg_pred w) c n = nullable_neg_pred
    nullable_within (in_seq_left w) c (nullable_seq a b) = nullable_seq (nullable_within w c.0 a) b
    nullable_within (in_seq_right w) c (nullable_seq a b) = nullable_seq a (nullable_within w c.1 b)
    nullable_within (in_choice_left w) c (nullable_left a) = nullable_left (nullable_within w c.0 a)
    nullable_within (in_choice_left w) c (nullable_right b) = nullable_right b
    nullable_within (in_choice_right w) c (nullable_left a) = nullable_left a
    nullable_within (in_choice_right w) c (nullable_right b) = nullable_right (nullable_within w c.1 b)
    nullable_within (in_opt w) c n = nullable_opt
    nullable_within (in_rep w) c n = nullable_rep
    nullable_within (in_rep_once w) c (nullable_rep_once n) = nullable_rep_once (nullable_within w c.1 n)
    nullable_within (in_rep_exact w) c nullable_exact_zero = nullable_exact_zero
    nullable_within (in_rep_exact w) c (nullable_exact n) = nullable_exact (nullable_within w c.1 n)
    nullable_within (in_rep_min w) c nullable_min_zero = nullable_min_zero
    nullable_within (in_rep_min w) c (nullable_min n) = nullable_min (nullable_within w c.1 n)
    nullable_within (in_rep_max w) c n = nullable_rep_max
    nullable_within (in_rep_min_max w) c nullable_min_max_zero = nullable_min_max_zero
    nullable_within (in_rep_min_max w) c (nullable_min_max n) = nullable_min_max (nullable_within w c.1 n)
    nullable_within (in_push w) c (nullable_push n) = nullable_push (nullable_within w c n)
    nullable_within (in_tag w) c (nullable_tag n) = nullable_tag (nullable_within w c.1 n)
    nullable_within (in_restore w) c (nullable_restore n) = nullable_restore (nullable_within w c n)

    left_within : {a b : Expression} {n : Text} → Within (R y) a b → Everywhere (bounding B) a → LeftCalls f b n → LeftCalls f a n
    left_within (here w) c l = k.left f _ _ _ _ w l
    left_within (in_pos_pred w) c (left_pos_pred l) = left_pos_pred (left_within w c l)
    left_within (in_neg_pred w) c (left_neg_pred l) = left_neg_pred (left_within w c l)
    left_within (in_seq_left w) c (left_first l) = left_first (left_within w c.0 l)
    left_within (in_seq_left w) c (left_second n l) = left_second (nullable_within w c.0 n) l
    left_within (in_seq_right w) c (left_first l) = left_first l
    left_within (in_seq_right w) c (left_second n l) = left_second n (left_within w c.1 l)
    left_within (in_choice_left w) c (left_left l) = left_left (left_within w c.0 l)
    left_within (in_choice_left w) c (left_right l) = left_right l
    left_within (in_choice_right w) c (left_left l) = left_left l
    left_within (in_choice_right w) c (left_right l) = left_right (left_within w c.1 l)
    left_within (in_opt w) c (left_opt l) = left_opt (left_within w c l)
    left_within (in_rep w) c (left_rep l) = left_rep (left_within w c.1 l)
    left_within (in_rep_once w) c (left_rep_once l) = left_rep_once (left_within w c.1 l)
    left_within (in_rep_exact w) c (left_rep_exact l) = left_rep_exact (left_within w c.1 l)
    left_within (in_rep_min w) c (left_rep_min l) = left_rep_min (left_within w c.1 l)
    left_within (in_rep_max w) c (left_rep_max l) = left_rep_max (left_within w c.1 l)
    left_within (in_rep_min_max w) c (left_rep_min_max l) = left_rep_min_max (left_within w c.1 l)
    left_within (in_push w) c (left_push l) = left_push (left_within w c l)
    left_within (in_tag w) c (left_tag l) = left_tag (left_within w c.1 l)
    left_within (in_restore w) c (left_restore l) = left_restore (left_within w c l)

  plain_closed : (N : Text → Type 0) → IsClosed g (calling N)
  plain_closed N = record { empty = tt; joined = λ t u x y. tt; joined_insensitive = λ t u x y. tt; strings = λ e ts s h. tt; swapped = λ a b h. tt }

  naming_closed : (N : Text → Type 0) → IsClosed g (naming N)
  naming_closed N = record { empty = tt; joined = λ t u x y. tt; joined_insensitive = λ t u x y. tt; strings = λ e ts s h. tt; swapped = λ a b h. tt }

  readable_closed : IsClosed g readable
  readable_closed = record { empty = tt; joined = λ t u x y. tt; joined_insensitive = λ t u x y. tt; strings = λ e ts s h. tt; swapped = λ a b h. tt }

  endless_closed : (f : Grammar) → IsClosed g (endless_nowhere B f)
  endless_closed f = record {
    empty = tt;
    joined = λ t u x y. tt;
    joined_insensitive = λ t u x y. tt;
    strings = λ e ts s h. tt;
    swapped = λ a b h n. h (nullable_swapped f n);
  }

  bounding_closed : IsClosed g (bounding B)
  bounding_closed = record { empty = tt; joined = λ t u x y. tt; joined_insensitive = λ t u x y. tt; strings = λ e ts s h. tt; swapped = λ a b h. tt }

  to_bounding : (f : Grammar) (e : Expression) → Everywhere (endless_nowhere B f) e → Everywhere (bounding B) e
  to_bounding f = weaker (endless_nowhere B f) (bounding B) weaker_here
    where
      weaker_here : (p : Expression) → HoldsHere (endless_nowhere B f) p → HoldsHere (bounding B) p
      weaker_here (RepMin e i) h = (tt, tt)
      weaker_here (RepMinMax e i j) h = h
      weaker_here (Str t) h = tt
      weaker_here _ h = tt

  -- 4. along changes of a body
  module _ (y : RuleType) where
    readable_along : {a b : Expression} → Many (R y) a b → Everywhere readable a → Everywhere readable b
    readable_along = kept_along (R y) readable (k.parts readable readable_closed y) (λ a b w h x. tt)

    calling_along : (N : Text → Type 0) {a b : Expression} → Many (R y) a b → Everywhere (calling N) a → Everywhere (calling N) b
    calling_along N = kept_along (R y) (calling N) (k.parts (calling N) (plain_closed N) y) (λ a b w h x. tt)

    naming_along : (N : Text → Type 0) {a b : Expression} → Many (R y) a b → Everywhere (naming N) a → Everywhere (naming N) b
    naming_along N = kept_along (R y) (naming N) (k.parts (naming N) (naming_closed N) y) (λ a b w h x. tt)

    fitting_along : IsClosed g fitting → {a b : Expression} → Many (R y) a b → Everywhere fitting a → Everywhere fitting b
    fitting_along c = kept_along (R y) fitting (k.parts fitting c y) (λ a b w h x. tt)

    endless_along : (f : Grammar) {a b : Expression} → Many (R y) a b → Everywhere (endless_nowhere B f) a → Everywhere (endless_nowhere B f) b
    endless_along f = kept_along (R y) (endless_nowhere B f) (k.parts (endless_nowhere B f) (endless_closed f) y) (λ a b w h x n. x (nullable_within f w (to_bounding f a h) n))

    bounding_within : {a b : Expression} → Within (R y) a b → Everywhere (bounding B) a → Everywhere (bounding B) b
    bounding_within = kept_within (R y) (bounding B) (k.parts (bounding B) bounding_closed y) (λ a b w h x. tt)

    nullable_along : (f : Grammar) {a b : Expression} → Many (R y) a b → Everywhere (bounding B) a → IsNullable f b → IsNullable f a
    nullable_along f no_step c n = n
    nullable_along f (one_step w m) c n = nullable_within f w c (nullable_along f m (bounding_within w c) n)

    left_along : (f : Grammar) {a b : Expression} {n : Text} → Many (R y) a b → Everywhere (bounding B) a → LeftCalls f b n → LeftCalls f a n
    left_along f no_step c l = l
    left_along f (one_step w m) c l = left_within f w c (left_along f m (bounding_within w c) l)

  -- 5. from behind the change to before it
  module _ (h : Grammar) (e : EachBody (λ y. Many (R y)) g h) where
    abbrev Bodies : RuleType → Expression → Expression → Type 0
    Bodies y = Many (R y)

    abbrev Bounded : Type 0
    Bounded = (n : Text) (r : Rule) → rule_of g n ≡ Some r → Everywhere (bounding B) r.body

    before : (n : Text) (r : Rule) → rule_of h n ≡ Some r → Before Bodies (rule_of g n) r
    before n r i = backward Bodies (each_pair Bodies e n) i

    module _ (counts : Bounded) where
      nullable_to : {x : Expression} → IsNullable h x → IsNullable g x
      nullable_to nullable_str = nullable_str
      nullable_to nullable_insens = nullable_insens
      nullable_to nullable_soi = nullable_soi
      nullable_to nullable_eoi = nullable_eoi
      nullable_to (nullable_call {n = n} {r = r} i x) = let b = before n r i in nullable_call b.1 (nullable_along r.type_of g b.2 (counts n _ b.1) (nullable_to x))
      nullable_to nullable_pos_pred = nullable_pos_pred
      nullable_to nullable_neg_pred = nullable_neg_pred
      nullable_to nullable_opt = nullable_opt
      nullable_to nullable_rep = nullable_rep
      nullable_to nullable_rep_max = nullable_rep_max
      nullable_to (nullable_seq a b) = nullable_seq (nullable_to a) (nullable_to b)
      nullable_to (nullable_left a) = nullable_left (nullable_to a)
      nullable_to (nullable_right a) = nullable_right (nullable_to a)
      nullable_to (nullable_rep_once a) = nullable_rep_once (nullable_to a)
      nullable_to (nullable_push a) = nullable_push (nullable_to a)
      nullable_to nullable_push_literal = nullable_push_literal
      nullable_to (nullable_tag a) = nullable_tag (nullable_to a)
      nullable_to nullable_exact_zero = nullable_exact_zero
      nullable_to (nullable_exact a) = nullable_exact (nullable_to a)
      nullable_to nullable_min_zero = nullable_min_zero
      nullable_to (nullable_min a) = nullable_min (nullable_to a)
      nullable_to nullable_min_max_zero = nullable_min_max_zero
      nullable_to (nullable_min_max a) = nullable_min_max (nullable_to a)
      nullable_to nullable_skip = nullable_skip
      nullable_to (nullable_restore a) = nullable_restore (nullable_to a)

      left_to : {x : Expression} {n : Text} → LeftCalls h x n → LeftCalls g x n
      left_to left_name = left_name
      left_to (left_first l) = left_first (left_to l)
      left_to (left_second x l) = left_second (nullable_to x) (left_to l)
      left_to (left_pos_pred l) = left_pos_pred (left_to l)
      left_to (left_neg_pred l) = left_neg_pred (left_to l)
      left_to (left_left l) = left_left (left_to l)
      left_to (left_right l) = left_right (left_to l)
      left_to (left_opt l) = left_opt (left_to l)
      left_to (left_rep l) = left_rep (left_to l)
      left_to (left_rep_once l) = left_rep_once (left_to l)
      left_to (left_rep_exact l) = left_rep_exact (left_to l)
      left_to (left_rep_min l) = left_rep_min (left_to l)
      left_to (left_rep_max l) = left_rep_max (left_to l)
      left_to (left_rep_min_max l) = left_rep_min_max (left_to l)
      left_to (left_push l) = left_push (left_to l)
      left_to (left_tag l) = left_tag (left_to l)
      left_to (left_restore l) = left_restore (left_to l)

      leads_to : {n j : Text} → Leads h n j → Leads g n j
      leads_to (at_once {n = n} {r = r} i l) = let b = before n r i in at_once b.1 (left_along r.type_of g b.2 (counts n _ b.1) (left_to l))
      leads_to (by_way l m) = by_way (leads_to l) (leads_to m)

    reaches_to : {n m : Text} → Reaches h n m → Reaches g n m
    reaches_to itself = itself
    reaches_to (onward {n = n} {j = j} {r = r} x i d) =
        let b = before j r i in
        let y = everywhere (naming (λ m. Part b.0 (Ident m))) b.0 (named_before b.0) in
        onward (reaches_to x) b.1 (at_part (naming (λ m. Part b.0 (Ident m))) (naming_along r.type_of (λ m. Part b.0 (Ident m)) b.2 y) d)
      where
        named_before : (a p : Expression) → Part a p → HoldsHere (naming (λ m. Part a (Ident m))) p
        named_before a (Ident m) i = i
        named_before a (RepMin e i) d = (tt, tt)
        named_before a _ i = tt

    -- 6. by the rules that names mean
    counts_of : NamesHaveReadableCounts g → (n : Text) (r : Rule) → rule_of g n ≡ Some r → Everywhere readable r.body
    counts_of c n r i = everywhere readable r.body (λ p d. readable_at p (c p (n, r, i, d)))

    pub names_still_readable : NamesHaveReadableCounts g → NamesHaveReadableCounts h
    names_still_readable c p x = let b = before x.0 x.1 x.2 in count_of p (at_part readable (readable_along x.1.type_of b.2 (counts_of c x.0 _ b.1)) x.3)

    pub still_well_formed : Bounded → IsWellFormed g → IsWellFormed h
    still_well_formed c w = record {
      rep = λ e i n. here_too (Rep e) i (nullable_to c n);
      rep_once = λ e i n. here_too (RepOnce e) i (nullable_to c n);
      rep_min = λ e j i n. (here_too (RepMin e j) i).0 (nullable_to c n);
      skipping = λ n s x. w.skipping n s (nullable_to c x);
      no_cycle = λ n l. w.no_cycle n (leads_to c l);
    }
      where
        endless_here : (p : Expression) → InRules g p → HoldsHere (endless_nowhere B g) p
        endless_here (Rep e) x = w.rep e x
        endless_here (RepOnce e) x = w.rep_once e x
        endless_here (RepMin e i) x = (w.rep_min e i x, tt)
        endless_here (RepMinMax e i j) x = at_part (bounding B) (c x.0 x.1 x.2) x.3
        endless_here _ x = tt

        here_too : (p : Expression) → InRules h p → HoldsHere (endless_nowhere B g) p
        here_too p x =
            let b = before x.0 x.1 x.2 in
            let y = everywhere (endless_nowhere B g) b.0 (λ p d. endless_here p (x.0, _, b.1, d)) in
            at_part (endless_nowhere B g) (endless_along x.1.type_of g b.2 y) x.3

    pub still_plain : IsPlain g → IsPlain h
    still_plain q = record {
      names = λ n i. still_plain_name (here_too (Ident n) i);
      slices = λ i j x. here_too (PeekSlice i j) x;
      skipping = λ n m r s x i. let b = before m r i in q.skipping n m _ s (reaches_to x) b.1;
    }
      where
        still_plain_name : {n : Text} → IsPlainName g n → IsPlainName h n
        still_plain_name {n} (of_rule i) = of_rule (forward Bodies (each_pair Bodies e n) i).1
        still_plain_name (of_builtin i x) = of_builtin i x

        plain_here : (p : Expression) → InRules g p → HoldsHere (calling (IsPlainName g)) p
        plain_here (Ident n) x = q.names n x
        plain_here (PeekSlice i j) x = q.slices i j x
        plain_here (RepMin e i) x = (tt, tt)
        plain_here _ x = tt

        here_too : (p : Expression) → InRules h p → HoldsHere (calling (IsPlainName g)) p
        here_too p x =
            let b = before x.0 x.1 x.2 in
            let y = everywhere (calling (IsPlainName g)) b.0 (λ p d. plain_here p (x.0, _, b.1, d)) in
            at_part (calling (IsPlainName g)) (calling_along x.1.type_of (IsPlainName g) b.2 y) x.3

  -- 7. by the rules of the list
  module _ (c : Condition) (body : (y : RuleType) (a b : Expression) → Many (R y) a b → Everywhere c a → Everywhere c b) where
    bodies_kept : {rs qs : Grammar} → EachBody (λ y. Many (R y)) rs qs → InBodies c rs → InBodies c qs
    bodies_kept no_rules a = All-nil (InBody c)
    bodies_kept (also_rule {r = r} {b = b} {rs = rs} {qs = qs} w e) a =
        All-cons (InBody c) (record r { body = b }) qs (body r.type_of _ _ w (All-head (InBody c) r rs a)) (bodies_kept e (All-tail (InBody c) r rs a))

  module _ (P : Text → Type 0) where
    abbrev OfName : Rule → Type 0
    OfName r = P r.name

    names_kept : {rs qs : Grammar} → EachBody (λ y. Many (R y)) rs qs → All OfName rs → All OfName qs
    names_kept no_rules a = All-nil OfName
    names_kept (also_rule {r = r} {b = b} {rs = rs} {qs = qs} w e) a =
        All-cons OfName (record r { body = b }) qs (All-head OfName r rs a) (names_kept e (All-tail OfName r rs a))

  distinct_kept : {rs qs : Grammar} → EachBody (λ y. Many (R y)) rs qs → HasDistinctNames rs → HasDistinctNames qs
  distinct_kept no_rules d = tt
  distinct_kept (also_rule {r = r} w e) d = (no_rule (λ y. Many (R y)) (each_pair (λ y. Many (R y)) e r.name) d.0, distinct_kept e d.1)

  pub still_readable : {h : Grammar} → EachBody (λ y. Many (R y)) g h → HasReadableCounts g → HasReadableCounts h
  still_readable {h} e c p i =
      count_of p (at_some_part readable h (bodies_kept readable (λ y a b. readable_along y) e (in_bodies readable g (λ p i. readable_at p (c p i)))) p i)

  still_fits : {h : Grammar} → EachBody (λ y. Many (R y)) g h → ((p : Expression) → InSomeRule g p → FitsItsTypes p) → (p : Expression) → InSomeRule h p → FitsItsTypes p
  still_fits {h} e f p i =
      let bodies = in_bodies fitting g (λ p i. fitting_at p (f p i)) in
      fits_of p (at_some_part fitting h (bodies_kept fitting (λ y a b. fitting_along y (fitting_closed g bodies)) e bodies) p i)

  pub still_grammar : {h : Grammar} → EachBody (λ y. Many (R y)) g h → IsGrammar g → IsGrammar h
  still_grammar e x = record {
    distinct = distinct_kept e x.distinct;
    no_keyword = names_kept (λ n. is_one_of keywords n ≡ false) e x.no_keyword;
    names = names_kept IsText e x.names;
    readable = still_readable e x.readable;
    fits = still_fits e x.fits;
  }
