-- From stacks with eight marks at most a reading leads to such stacks.
use Rattle.std.proofs.Common.{◌≡◌, ℕ, zero, suc, ◌≤◌, List, [], ◌∷◌, replicate, length, Bool, true, false, ◌&&◌, ◌||◌, is_some, if◌then◌else◌, Option, Some, None, refl, subst, nat_eq, nat_le, ℤ, pos, negsuc, arith}
use Rattle.std.specs.Prelude.{⊤}
use Rattle.std.proofs.lemmas.Bool.{leb-false}
use Rattle.base_language.specs.Language.Expression.{Grammar, Expression, Str, Insens, Range, Ident, PeekSlice, PosPred, NegPred, Seq, Choice, Opt, Rep, RepOnce, RepExact, RepMin, RepMax, RepMinMax, Skip, Push, RestoreOnErr, Rule, rule_of, PushLiteral, NodeTag}
use Rattle.base_language.specs.Language.Text.{Text}
use Rattle.base_language.specs.Language.Builtins.{Builtin, One, Property, Newline, Soi, Eoi, Peek, Pop, Drop, PeekAll, PopAll, builtin_of}
use Rattle.front_stack_domain.specs.Stack.{Base, Empty, Blank, Any, AbstractStack, unknown, all_blank, push_mark, pop_one, pop_all, popped, common, both_marks, join, join_any, failed, is_among}
use Rattle.front_stack_domain.specs.Reading.{Reading, surely, maybe, anything, from, only_if, peek_all_reading, pop_all_reading, top_reading, drop_reading, builtin_reading, slice_reading, text_reading, pushed_reading, stays, tried, Copy, Required, Optional, Endless, Walk, turns, onward, walk, walked, at_least_copies, from_to_copies, reading, rule_reading, name_reading, literal_reading}
use Rattle.front_stack_domain.specs.Turns.{HasFewMarks, KeepsFewMarks}

-- a stack that may be impossible
abbrev pub FewWhere : Option AbstractStack → Type 0
FewWhere None = ⊤
FewWhere (Some a) = HasFewMarks a

pub few_where : (q : Option AbstractStack) → ((b : AbstractStack) → q ≡ Some b → HasFewMarks b) → FewWhere q
few_where None f = tt
few_where (Some a) f = f a refl

-- both stacks of a reading
abbrev pub FewBoth : Reading → Type 0
FewBoth r = FewWhere r.ok × FewWhere r.err

-- a reading of one stack leads to few marks from each stack with few
abbrev pub LeadsToFew : (AbstractStack → Reading) → Type 0
LeadsToFew f = (a : AbstractStack) → HasFewMarks a → FewBoth (f a)

pub keeps_few : (f : AbstractStack → Reading) → LeadsToFew f → KeepsFewMarks f
keeps_few f k = record {
  ok = λ a b h e. subst (λ q. FewWhere q) e (k a h).0;
  err = λ a b h e. subst (λ q. FewWhere q) e (k a h).1;
}

none_few : length {A = Bool} [] ≤ 8
none_few = omega arith

unknown_few : HasFewMarks unknown
unknown_few = none_few

both_shorter : (ms ns : List Bool) → length (both_marks ms ns) ≤ length ms
both_shorter [] [] = omega arith
both_shorter [] (n ∷ ns) = omega arith
both_shorter (m ∷ ms) [] = omega arith
both_shorter (m ∷ ms) (n ∷ ns) = let h = both_shorter ms ns in omega arith

join_few : (a b : AbstractStack) → HasFewMarks a → HasFewMarks (join a b)
join_few a b h = go (nat_eq (length a.marks) (length b.marks)) (all_blank a && all_blank b)
  where
    go : (x y : Bool) → HasFewMarks (if x then record { base = common a.base b.base; marks = both_marks a.marks b.marks; intact = a.intact && b.intact } else (if y then record { base = Blank; marks = []; intact = false } else unknown))
    go true y = let k = both_shorter a.marks b.marks in omega arith
    go false true = none_few
    go false false = none_few

joins_few : (p q : Option AbstractStack) → FewWhere p → FewWhere q → FewWhere (join_any p q)
joins_few None q h k = k
joins_few (Some a) None h k = h
joins_few (Some a) (Some b) h k = join_few a b h

pub failed_few : (q : Option AbstractStack) (a : AbstractStack) → FewWhere q → FewWhere (failed q a)
failed_few None a h = tt
failed_few (Some b) a h = join_few b a h

if_few : (a : AbstractStack) (b : Bool) → HasFewMarks a → FewWhere (if b then Some a else None)
if_few a true h = h
if_few a false h = tt

only_few : (q : Option AbstractStack) (a : AbstractStack) → HasFewMarks a → FewWhere (only_if q a)
only_few None a h = tt
only_few (Some b) a h = h

pushed_few : (a : AbstractStack) (m : Bool) → HasFewMarks (push_mark m a)
pushed_few a m = go (nat_le 8 (length a.marks)) refl
  where
    go : (x : Bool) → nat_le 8 (length a.marks) ≡ x → HasFewMarks (if x then unknown else record { base = a.base; marks = m ∷ a.marks; intact = a.intact })
    go true e = none_few
    go false e = let h = leb-false 8 (length a.marks) e in omega arith

popped_few : (ms : List Bool) (b : Base) (i : Bool) → length ms ≤ 8 → HasFewMarks (popped ms b i)
popped_few (m ∷ ms) b i h = omega arith
popped_few [] Empty i h = none_few
popped_few [] Blank i h = none_few
popped_few [] Any i h = none_few

peek_all_few : LeadsToFew peek_all_reading
peek_all_few a h = go (all_blank a)
  where
    go : (b : Bool) → FewBoth (if b then surely a else maybe a)
    go true = (h, tt)
    go false = (h, h)

pop_all_few : LeadsToFew pop_all_reading
pop_all_few a h = go (all_blank a)
  where
    go : (b : Bool) → FewBoth (if b then surely (pop_all a) else record { ok = Some (pop_all a); err = Some unknown; still = false })
    go true = (none_few, tt)
    go false = (none_few, none_few)

top_few : (ms : List Bool) (b : Base) (a : AbstractStack) → HasFewMarks a → FewBoth (top_reading ms b a)
top_few (true ∷ ms) b a h = (h, tt)
top_few (false ∷ ms) b a h = (h, h)
top_few [] Empty a h = (tt, tt)
top_few [] Blank a h = (h, h)
top_few [] Any a h = (h, h)

drop_few : (ms : List Bool) (b : Base) (a : AbstractStack) → HasFewMarks a → HasFewMarks (pop_one a) → FewBoth (drop_reading ms b a)
drop_few (m ∷ ms) b a h k = (k, tt)
drop_few [] Empty a h k = (tt, h)
drop_few [] Blank a h k = (k, h)
drop_few [] Any a h k = (k, h)

builtin_few : (q : Option Builtin) (a : AbstractStack) → HasFewMarks a → FewBoth (builtin_reading q a)
builtin_few None a h = (h, h)
builtin_few (Some (One set)) a h = (h, h)
builtin_few (Some (Property n)) a h = (h, h)
builtin_few (Some Newline) a h = (h, h)
builtin_few (Some Soi) a h = (h, h)
builtin_few (Some Eoi) a h = (h, h)
builtin_few (Some Peek) a h = top_few a.marks a.base a h
builtin_few (Some Pop) a h = top_few a.marks a.base (pop_one a) (popped_few a.marks a.base a.intact h)
builtin_few (Some Drop) a h = drop_few a.marks a.base a h (popped_few a.marks a.base a.intact h)
builtin_few (Some PeekAll) a h = peek_all_few a h
builtin_few (Some PopAll) a h = pop_all_few a h

slice_few : (i : ℤ) (j : Option ℤ) (a : AbstractStack) → HasFewMarks a → FewBoth (slice_reading i j a)
slice_few (pos zero) None a h = peek_all_few a h
slice_few (pos zero) (Some (pos zero)) a h = (h, tt)
slice_few (pos zero) (Some (pos (suc k))) a h = (h, h)
slice_few (pos zero) (Some (negsuc k)) a h = (h, h)
slice_few (pos (suc k)) j a h = (h, h)
slice_few (negsuc k) j a h = (h, h)

text_few : (t : Text) (a : AbstractStack) → HasFewMarks a → FewBoth (text_reading t a)
text_few [] a h = (h, tt)
text_few (c ∷ t) a h = (h, h)

from_few : (q : Option AbstractStack) (f : AbstractStack → Reading) → FewWhere q → LeadsToFew f → FewBoth (from q f)
from_few None f h k = (tt, tt)
from_few (Some b) f h k = k b h

literal_few : (t : Text) (a : AbstractStack) → FewBoth (literal_reading t a)
literal_few [] a = (pushed_few a true, tt)
literal_few (c ∷ t) a = (pushed_few a false, tt)

push_few : (r : Reading) → FewBoth r → FewBoth (pushed_reading r)
push_few r k = (go r.ok, k.1)
  where
    go : (q : Option AbstractStack) → FewWhere (elim q [ None ↦ None | Some b ↦ Some (push_mark r.still b) ])
    go None = tt
    go (Some b) = pushed_few b r.still

module _ (limit : ℕ) (step : AbstractStack → Reading) (few : LeadsToFew step) where
  pub tried_few : (a : AbstractStack) → HasFewMarks a → FewWhere (tried a (step a))
  tried_few a h = joins_few (step a).ok (failed (step a).err a) (few a h).0 (failed_few (step a).err a (few a h).1)

  turns_few : (k : ℕ) (seen : List AbstractStack) (q : Option AbstractStack) (w : Walk) → FewWhere q → FewWhere w.here → FewWhere (turns limit step k seen q w).here
  unfolding turns
  turns_few zero seen q w f h = none_few
  turns_few (suc k) seen None w f h = h
  turns_few (suc k) seen (Some b) w f h =
      let v = turns limit step k (b ∷ seen) (step b).ok (record { here = join_any w.here (failed (step b).err b); failing = w.failing; still = w.still && stays (step b) }) in
      go v (is_among seen b) (turns_few k (b ∷ seen) (step b).ok (record { here = join_any w.here (failed (step b).err b); failing = w.failing; still = w.still && stays (step b) })
      (few b f).0 (joins_few w.here (failed (step b).err b) h (failed_few (step b).err b (few b f).1)))
    where
      go : (v : Walk) (x : Bool) → FewWhere v.here → FewWhere (if x then w else v).here
      go v true i = h
      go v false i = i

  pub onward_few : (c : Copy) (q : Option AbstractStack) (w : Walk) → FewWhere q → FewWhere w.here → FewWhere (onward limit step c q w).here
  onward_few c None w f h = h
  onward_few Required (Some b) w f h = (few b f).0
  onward_few Optional (Some b) w f h = tried_few b f
  onward_few Endless (Some b) w f h = turns_few limit [] (Some b) (record { here = None; failing = w.failing; still = w.still }) f tt

  walk_few : (cs : List Copy) (w : Walk) → FewWhere w.here → FewWhere (walk limit step cs w).here
  walk_few [] w h = h
  walk_few (c ∷ cs) w h = walk_few cs (onward limit step c w.here w) (onward_few c w.here w h h)

  walked_few : (skips : Bool) (cs : List Copy) (a : AbstractStack) → HasFewMarks a → FewBoth (walked limit step skips a cs)
  walked_few skips cs a h = (walk_few cs (record { here = Some a; failing = false; still = true }) h, if_few a (walk limit step cs (record { here = Some a; failing = false; still = true })).failing h)

module _ (limit : ℕ) (skips : Bool) (named : Text → AbstractStack → Reading) (names : (n : Text) → LeadsToFew (named n)) where
  pub expression_few : (e : Expression) (a : AbstractStack) → HasFewMarks a → FewBoth (reading limit skips named e a)
  expression_few (Str t) a h = text_few t a h
  expression_few (Insens t) a h = text_few t a h
  expression_few (Range b c) a h = (h, h)
  expression_few (Ident n) a h = names n a h
  expression_few (PeekSlice i j) a h = slice_few i j a h
  expression_few (PosPred e) a h = (only_few (reading limit skips named e a).ok a h, only_few (reading limit skips named e a).err a h)
  expression_few (NegPred e) a h = (only_few (reading limit skips named e a).err a h, only_few (reading limit skips named e a).ok a h)
  expression_few (Seq e f) a h = (
    (from_few (reading limit skips named e a).ok (λ b. reading limit skips named f b) (expression_few e a h).0 (λ b k. expression_few f b k)).0,
    if_few a (is_some (reading limit skips named e a).err || is_some (from (reading limit skips named e a).ok (λ b. reading limit skips named f b)).err) h,
  )
  expression_few (Choice e f) a h =
      let r = reading limit skips named e a in
      let q = from (failed r.err a) (λ b. reading limit skips named f b) in
      let k = from_few (failed r.err a) (λ b. reading limit skips named f b) (failed_few r.err a (expression_few e a h).1) (λ b k. expression_few f b k) in
      (joins_few r.ok q.ok (expression_few e a h).0 k.0, failed_few q.err a k.1)
  expression_few (Opt e) a h = let r = reading limit skips named e a in (joins_few r.ok (failed r.err a) (expression_few e a h).0 (failed_few r.err a (expression_few e a h).1), tt)
  expression_few (Rep e) a h = walked_few limit (λ b. reading limit skips named e b) (λ b k. expression_few e b k) skips (Endless ∷ []) a h
  expression_few (RepOnce e) a h = walked_few limit (λ b. reading limit skips named e b) (λ b k. expression_few e b k) skips (Required ∷ Endless ∷ []) a h
  expression_few (RepExact e n) a h = walked_few limit (λ b. reading limit skips named e b) (λ b k. expression_few e b k) skips (replicate n Required) a h
  expression_few (RepMin e n) a h = walked_few limit (λ b. reading limit skips named e b) (λ b k. expression_few e b k) skips (at_least_copies n) a h
  expression_few (RepMax e n) a h = walked_few limit (λ b. reading limit skips named e b) (λ b k. expression_few e b k) skips (replicate n Optional) a h
  expression_few (RepMinMax e m n) a h = walked_few limit (λ b. reading limit skips named e b) (λ b k. expression_few e b k) skips (from_to_copies m n) a h
  expression_few (Skip ts) a h = (h, h)
  expression_few (Push e) a h = push_few (reading limit skips named e a) (expression_few e a h)
  expression_few (PushLiteral t) a h = literal_few t a
  expression_few (NodeTag e t) a h = expression_few e a h
  expression_few (RestoreOnErr e) a h = expression_few e a h

module _ (limit : ℕ) (skips : Bool) (recursive : Text → Bool) (g : Grammar) where
  rule_few : (n : Text) (q : Option Rule) (f : Expression → AbstractStack → Reading) → ((e : Expression) → LeadsToFew (f e)) → (a : AbstractStack) → HasFewMarks a → FewBoth (rule_reading limit skips recursive g n q f a)
  rule_few n None f k a h = builtin_few (builtin_of n) a h
  rule_few n (Some r) f k a h = go (recursive n)
    where
      go : (b : Bool) → FewBoth (if b then anything else f r.body a)
      go true = (none_few, none_few)
      go false = k r.body a h

  pub name_few : (k : ℕ) (n : Text) → LeadsToFew (name_reading limit skips recursive g k n)
  name_few zero n a h = rule_few n (rule_of g n) (λ e b. anything) (λ e b i. (none_few, none_few)) a h
  name_few (suc k) n a h =
      rule_few n (rule_of g n) (λ e b. reading limit skips (name_reading limit skips recursive g k) e b) (λ e b i. expression_few limit skips (name_reading limit skips recursive g k) (name_few k) e b i) a h

  pub reading_few : (k : ℕ) (e : Expression) → LeadsToFew (reading limit skips (name_reading limit skips recursive g k) e)
  reading_few k e a h = expression_few limit skips (name_reading limit skips recursive g k) (name_few k) e a h
