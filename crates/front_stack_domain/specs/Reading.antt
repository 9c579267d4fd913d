-- Abstract interpretation: the reading of an expression from an abstract stack.
use Rattle.std.specs.Prelude.{ℕ, zero, suc, ◌-◌, min, List, [], ◌∷◌, ◌++◌, replicate, Option, Some, None, is_some, Bool, true, false, not, ◌&&◌, ◌||◌, if◌then◌else◌, ℤ, pos}
use Rattle.base_language.specs.Language.Text.{Text}
use Rattle.base_language.specs.Language.Expression.{Expression, Str, Insens, Range, Ident, PeekSlice, PosPred, NegPred, Seq, Choice, Opt, Rep, RepOnce, RepExact, RepMin, RepMax, RepMinMax, Skip, Push, RestoreOnErr, Rule, Grammar, rule_of, PushLiteral, NodeTag}
use Rattle.base_language.specs.Language.Builtins.{Builtin, Peek, Pop, Drop, PeekAll, PopAll, builtin_of}
use Rattle.front_stack_domain.specs.Stack.{Base, Empty, Blank, Any, AbstractStack, unknown, made_intact, all_blank, push_mark, pop_one, pop_all, join_any, failed, is_among, are_among}

-- an abstract outcome: the stack after a success and after a failure, where they are possible, and whether
-- a success certainly takes no character
pub record Reading : Type 0 where
  pub ok : Option AbstractStack
  pub err : Option AbstractStack
  pub still : Bool

-- the reading of an expression that is not reached
abbrev pub impossible : Reading
impossible = record { ok = None; err = None; still = true }

-- the reading of an expression that takes nothing and cannot fail
abbrev pub surely : AbstractStack → Reading
surely a = record { ok = Some a; err = None; still = true }

-- the reading of an expression that may take something or fail, and leaves the stack
abbrev pub maybe : AbstractStack → Reading
maybe a = record { ok = Some a; err = Some a; still = false }

-- the reading of which nothing is known
abbrev pub anything : Reading
anything = maybe unknown

-- from a stack that may be impossible
abbrev pub from : Option AbstractStack → (AbstractStack → Reading) → Reading
from None f = impossible
from (Some a) f = f a

-- the stack, where another is possible
abbrev pub only_if : Option AbstractStack → AbstractStack → Option AbstractStack
only_if None a = None
only_if (Some b) a = Some a

-- `PEEK_ALL`
abbrev pub peek_all_reading : AbstractStack → Reading
peek_all_reading a = if all_blank a then surely a else maybe a

-- `POP_ALL`
abbrev pub pop_all_reading : AbstractStack → Reading
pop_all_reading a =
    if all_blank a
    then surely (pop_all a)
    else record { ok = Some (pop_all a); err = Some unknown; still = false }

-- `PEEK` and `POP`, from marks and a base, with the stack after a success
abbrev pub top_reading : List Bool → Base → AbstractStack → Reading
top_reading (true ∷ ms) b a = surely a
top_reading (false ∷ ms) b a = maybe a
top_reading [] Empty a = impossible
top_reading [] Blank a = maybe a
top_reading [] Any a = maybe a

-- `DROP`, from the marks and the base of a stack
abbrev pub drop_reading : List Bool → Base → AbstractStack → Reading
drop_reading (m ∷ ms) b a = surely (pop_one a)
drop_reading [] Empty a = record { ok = None; err = Some a; still = false }
drop_reading [] Blank a = record { ok = Some (pop_one a); err = Some a; still = true }
drop_reading [] Any a = record { ok = Some (pop_one a); err = Some a; still = true }

-- names that no rule has: the five that look at the stack, and all others
abbrev pub builtin_reading : Option Builtin → AbstractStack → Reading
builtin_reading (Some Peek) a = top_reading a.marks a.base a
builtin_reading (Some Pop) a = top_reading a.marks a.base (pop_one a)
builtin_reading (Some Drop) a = drop_reading a.marks a.base a
builtin_reading (Some PeekAll) a = peek_all_reading a
builtin_reading (Some PopAll) a = pop_all_reading a
builtin_reading _ a = maybe a

-- slices: the whole stack, none of it, and others
abbrev pub slice_reading : ℤ → Option ℤ → AbstractStack → Reading
slice_reading (pos zero) None a = peek_all_reading a
slice_reading (pos zero) (Some (pos zero)) a = surely a
slice_reading _ _ a = maybe a

-- strings
abbrev pub text_reading : Text → AbstractStack → Reading
text_reading [] a = surely a
text_reading (c ∷ t) a = maybe a

-- a literal push: one more mark, blank where its string is empty
abbrev pub literal_reading : Text → AbstractStack → Reading
literal_reading [] a = surely (push_mark true a)
literal_reading (c ∷ t) a = surely (push_mark false a)

-- `PUSH(e)`, `&e` and `!e`, from the reading of e
abbrev pub pushed_reading : Reading → Reading
pushed_reading r = record {
  ok = elim r.ok [ None ↦ None | Some b ↦ Some (push_mark r.still b) ];
  err = r.err;
  still = r.still;
}

abbrev pub ahead_reading : AbstractStack → Reading → Reading
ahead_reading a r = record { ok = only_if r.ok a; err = only_if r.err a; still = true }

abbrev pub not_ahead_reading : AbstractStack → Reading → Reading
not_ahead_reading a r = record { ok = only_if r.err a; err = only_if r.ok a; still = true }

-- `a ~ b`, from the readings of both; `skips`: something may be skipped between them
abbrev pub seq_reading : Bool → AbstractStack → Reading → Reading → Reading
seq_reading skips a r q = record {
  ok = q.ok;
  err = if is_some r.err || is_some q.err then Some a else None;
  still = r.still && (q.still && not skips);
}

-- the expression takes nothing if it succeeds
abbrev pub stays : Reading → Bool
stays r = not (is_some r.ok) || r.still

-- `a | b`, from the readings of both
abbrev pub choice_reading : AbstractStack → Reading → Reading → Reading
choice_reading a r q = record { ok = join_any r.ok q.ok; err = failed q.err a; still = stays r && stays q }

-- the stack after an attempt, whether it succeeds or fails
abbrev pub tried : AbstractStack → Reading → Option AbstractStack
tried a r = join_any r.ok (failed r.err a)

-- `e?`
abbrev pub opt_reading : AbstractStack → Reading → Reading
opt_reading a r = record { ok = tried a r; err = None; still = stays r }

-- a repetition is copies in sequence: required ones, ones that may fail, and at the end one that is turns
-- without a greatest number
pub data Copy : Type 0 where
  Required : Copy
  Optional : Copy
  Endless : Copy

-- of `{m,n}`, and of `{n,}`
abbrev pub from_to_copies : ℕ → ℕ → List Copy
from_to_copies m n = replicate (min m n) Required ++ replicate (n - m) Optional

abbrev pub at_least_copies : ℕ → List Copy
at_least_copies n = replicate n Required ++ Endless ∷ []

-- the copy is no endless one
abbrev pub is_one : Copy → Bool
is_one Required = true
is_one Optional = true
is_one Endless = false

-- nothing can be skipped between its copies or turns
abbrev pub is_single : List Copy → Bool
is_single [] = true
is_single (c ∷ []) = is_one c
is_single (c ∷ d ∷ cs) = false

-- how far the copies have been followed: the stack, if it is possible, whether a required one may have
-- failed, and whether nothing was taken
pub record Walk : Type 0 where
  pub here : Option AbstractStack
  pub failing : Bool
  pub still : Bool

module _ (limit : ℕ) (step : AbstractStack → Reading) where
  -- turns, until a start comes again or there is no ok; `limit` of them at most, and then nothing is known
  unfoldable pub turns : ℕ → List AbstractStack → Option AbstractStack → Walk → Walk
  turns zero seen q w = record { here = Some unknown; failing = w.failing; still = false }
  turns (suc k) seen None w = w
  turns (suc k) seen (Some a) w =
      if is_among seen a then w
      else turns k (a ∷ seen) (step a).ok (record {
        here = join_any w.here (failed (step a).err a);
        failing = w.failing;
        still = w.still && stays (step a);
      })

  -- past one copy, from a stack
  abbrev pub copy_from : Copy → AbstractStack → Walk → Walk
  copy_from Required a w = record {
    here = (step a).ok;
    failing = w.failing || is_some (step a).err;
    still = w.still && stays (step a);
  }
  copy_from Optional a w = record {
    here = tried a (step a);
    failing = w.failing;
    still = w.still && stays (step a);
  }
  copy_from Endless a w =
      turns limit [] (Some a) (record { here = None; failing = w.failing; still = w.still })

  -- past one copy, if it is reached
  abbrev pub onward : Copy → Option AbstractStack → Walk → Walk
  onward c None w = w
  onward c (Some a) w = copy_from c a w

  -- past all copies
  abbrev pub walk : List Copy → Walk → Walk
  walk [] w = w
  walk (c ∷ cs) w = walk cs (onward c w.here w)

  -- the reading of the repetition; where a copy has no ok, it has none, and counts as taking nothing
  abbrev pub walked : Bool → AbstractStack → List Copy → Reading
  walked skips a cs =
      let w = walk cs (record { here = Some a; failing = false; still = true }) in
      record {
        ok = w.here;
        err = if w.failing then Some a else None;
        still = not (is_some w.here) || (w.still && (not skips || is_single cs));
      }

-- the reading of an expression, by that of names
module _ (limit : ℕ) (skips : Bool) (named : Text → AbstractStack → Reading) where
  abbrev pub reading : Expression → AbstractStack → Reading
  reading (Str t) a = text_reading t a
  reading (Insens t) a = text_reading t a
  reading (Range b c) a = maybe a
  reading (Ident n) a = named n a
  reading (PeekSlice i j) a = slice_reading i j a
  reading (PosPred e) a = ahead_reading a (reading e a)
  reading (NegPred e) a = not_ahead_reading a (reading e a)
  reading (Seq e f) a = seq_reading skips a (reading e a) (from (reading e a).ok (λ b. reading f b))
  reading (Choice e f) a =
      choice_reading a (reading e a) (from (failed (reading e a).err a) (λ b. reading f b))
  reading (Opt e) a = opt_reading a (reading e a)
  reading (Rep e) a = walked limit (λ b. reading e b) skips a (Endless ∷ [])
  reading (RepOnce e) a = walked limit (λ b. reading e b) skips a (Required ∷ Endless ∷ [])
  reading (RepExact e n) a = walked limit (λ b. reading e b) skips a (replicate n Required)
  reading (RepMin e n) a = walked limit (λ b. reading e b) skips a (at_least_copies n)
  reading (RepMax e n) a = walked limit (λ b. reading e b) skips a (replicate n Optional)
  reading (RepMinMax e m n) a = walked limit (λ b. reading e b) skips a (from_to_copies m n)
  reading (Skip ts) a = maybe a
  reading (Push e) a = pushed_reading (reading e a)
  reading (PushLiteral t) a = literal_reading t a
  reading (NodeTag e t) a = reading e a
  reading (RestoreOnErr e) a = reading e a

-- calls are followed, at most to a given depth, but not those of rules that are `recursive`
module _ (limit : ℕ) (skips : Bool) (recursive : Text → Bool) (g : Grammar) where
  abbrev pub rule_reading :
      Text → Option Rule → (Expression → AbstractStack → Reading) → AbstractStack → Reading
  rule_reading n None f a = builtin_reading (builtin_of n) a
  rule_reading n (Some r) f a = if recursive n then anything else f r.body a

  abbrev pub name_reading : ℕ → Text → AbstractStack → Reading
  name_reading zero n a = rule_reading n (rule_of g n) (λ e b. anything) a
  name_reading (suc k) n a =
      rule_reading n (rule_of g n) (λ e b. reading limit skips (name_reading k) e b) a

-- a turn of the loop search. There is no loop if the turn may fail, cannot succeed or may take something;
-- there is one if the stack is intact and has the marks of a start since the base last changed
abbrev pub lands : Option AbstractStack → Option AbstractStack → Bool → List (List Bool)
    → (List (List Bool) → AbstractStack → Bool) → Bool
lands (Some b) None true starts f =
    if b.intact
    then (if are_among starts b.marks then true else f (b.marks ∷ starts) (made_intact b))
    else f (b.marks ∷ []) (made_intact b)
lands _ _ _ starts f = false

-- a given number of turns of it, from a start and the marks of those before
abbrev pub loops_within : (AbstractStack → Reading) → ℕ → List (List Bool) → AbstractStack → Bool
loops_within step zero starts a = false
loops_within step (suc k) starts a =
    lands (step a).ok (step a).err (step a).still starts (λ marks b. loops_within step k marks b)

-- whether the loop search finds a loop from a stack
abbrev pub loops : ℕ → (AbstractStack → Reading) → AbstractStack → Bool
loops k step a = loops_within step k (a.marks ∷ []) (made_intact a)
