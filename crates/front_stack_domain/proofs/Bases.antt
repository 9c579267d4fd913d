-- A stack that a reading gives as intact has the base that the reading began with.
use Rattle.std.proofs.Common.{◌≡◌, ℕ, zero, suc, List, [], ◌∷◌, replicate, length, Bool, true, false, ◌&&◌, ◌||◌, is_some, if◌then◌else◌, Option, Some, None, refl, sym, ◌∙◌, subst, nat_eq, nat_le, ℤ, pos, negsuc}
use Rattle.std.specs.Prelude.{⊤}
use Rattle.base_language.specs.Language.Expression.{Grammar, Expression, Str, Insens, Range, Ident, PeekSlice, PosPred, NegPred, Seq, Choice, Opt, Rep, RepOnce, RepExact, RepMin, RepMax, RepMinMax, Skip, Push, RestoreOnErr, Rule, rule_of, PushLiteral, NodeTag}
use Rattle.base_language.specs.Language.Text.{Text}
use Rattle.base_language.specs.Language.Builtins.{Builtin, One, Property, Newline, Soi, Eoi, Peek, Pop, Drop, PeekAll, PopAll, builtin_of}
use Rattle.base_language.proofs.Basics.{first_of_both, second_of_both}
use Rattle.front_stack_domain.specs.Stack.{Base, Empty, Blank, Any, AbstractStack, unknown, is_empty, all_blank, push_mark, pop_one, pop_all, popped, common, both_marks, join, join_any, failed, is_among}
use Rattle.front_stack_domain.specs.Reading.{Reading, surely, maybe, anything, from, only_if, peek_all_reading, pop_all_reading, top_reading, drop_reading, builtin_reading, slice_reading, text_reading, pushed_reading, stays, tried, Copy, Required, Optional, Endless, Walk, turns, onward, walk, walked, at_least_copies, from_to_copies, reading, rule_reading, name_reading, literal_reading}

abbrev pub FromBase : AbstractStack → AbstractStack → Type 0
FromBase a b = b.intact ≡ true → (a.intact ≡ true) × (b.base ≡ a.base)

abbrev pub AllFrom : AbstractStack → Option AbstractStack → Type 0
AllFrom a None = ⊤
AllFrom a (Some b) = FromBase a b

abbrev pub Keeps : AbstractStack → Reading → Type 0
Keeps a r = AllFrom a r.ok × AllFrom a r.err

same : (a : AbstractStack) → FromBase a a
same a h = (h, refl)

lost : {P : Type 0} → false ≡ true → P
lost h = cc

onto : (a b c : AbstractStack) → FromBase a b → FromBase b c → FromBase a c
onto a b c f h i = let j = h i in let k = f j.0 in (k.0, j.1 ∙ k.1)

pub common_same : (b : Base) → common b b ≡ b
common_same Empty = refl
common_same Blank = refl
common_same Any = refl

common_from : (b c d : Base) → c ≡ b → d ≡ b → common c d ≡ b
common_from b c d e f = subst (λ x. common x d ≡ b) (sym e) (subst (λ x. common b x ≡ b) (sym f) (common_same b))

join_from : (a b c : AbstractStack) → FromBase a b → FromBase a c → FromBase a (join b c)
join_from a b c f h = go (nat_eq (length b.marks) (length c.marks)) (all_blank b && all_blank c)
  where
    go : (x y : Bool) → FromBase a (if x then record { base = common b.base c.base; marks = both_marks b.marks c.marks; intact = b.intact && c.intact } else (if y then record { base = Blank; marks = []; intact = false } else unknown))
    go true y i =
        let j = f (first_of_both b.intact c.intact i) in
        let k = h (second_of_both b.intact c.intact i) in (j.0, common_from a.base b.base c.base j.1 k.1)
    go false true i = lost i
    go false false i = lost i

joins_from : (a : AbstractStack) (p q : Option AbstractStack) → AllFrom a p → AllFrom a q → AllFrom a (join_any p q)
joins_from a None q f h = h
joins_from a (Some b) None f h = f
joins_from a (Some b) (Some c) f h = join_from a b c f h

failed_from : (a b : AbstractStack) (q : Option AbstractStack) → AllFrom a q → FromBase a b → AllFrom a (failed q b)
failed_from a b None f h = tt
failed_from a b (Some c) f h = join_from a c b f h

all_onto : (a b : AbstractStack) (q : Option AbstractStack) → FromBase a b → AllFrom b q → AllFrom a q
all_onto a b None f h = tt
all_onto a b (Some c) f h = onto a b c f h

if_from : (a : AbstractStack) (b : Bool) → AllFrom a (if b then Some a else None)
if_from a true = same a
if_from a false = tt

only_from : (a : AbstractStack) (q : Option AbstractStack) → AllFrom a (only_if q a)
only_from a None = tt
only_from a (Some b) = same a

maybe_keeps : (a b : AbstractStack) → FromBase a b → Keeps a (maybe b)
maybe_keeps a b f = (f, f)

surely_keeps : (a b : AbstractStack) → FromBase a b → Keeps a (surely b)
surely_keeps a b f = (f, tt)

pushed_from : (a b : AbstractStack) (m : Bool) → FromBase a b → FromBase a (push_mark m b)
pushed_from a b m f = go (nat_le 8 (length b.marks))
  where
    go : (x : Bool) → FromBase a (if x then unknown else record { base = b.base; marks = m ∷ b.marks; intact = b.intact })
    go true h = lost h
    go false h = f h

literal_keeps : (t : Text) (a : AbstractStack) → Keeps a (literal_reading t a)
literal_keeps [] a = surely_keeps a (push_mark true a) (pushed_from a a true (same a))
literal_keeps (c ∷ t) a = surely_keeps a (push_mark false a) (pushed_from a a false (same a))

popped_from : (ms : List Bool) (b : Base) (i : Bool) → FromBase (record { base = b; marks = ms; intact = i }) (popped ms b i)
popped_from (m ∷ ms) b i h = (h, refl)
popped_from [] Empty i h = (h, refl)
popped_from [] Blank i h = lost h
popped_from [] Any i h = lost h

pop_all_from : (a : AbstractStack) → FromBase a (pop_all a)
pop_all_from a h = (first_of_both a.intact (is_empty a.base) h, empty a.base (second_of_both a.intact (is_empty a.base) h))
  where
    empty : (b : Base) → is_empty b ≡ true → Empty ≡ b
    empty Empty h = refl
    empty Blank h = lost h
    empty Any h = lost h

peek_all_keeps : (a : AbstractStack) → Keeps a (peek_all_reading a)
peek_all_keeps a = go (all_blank a)
  where
    go : (b : Bool) → Keeps a (if b then surely a else maybe a)
    go true = surely_keeps a a (same a)
    go false = maybe_keeps a a (same a)

pop_all_keeps : (a : AbstractStack) → Keeps a (pop_all_reading a)
pop_all_keeps a = go (all_blank a)
  where
    go : (b : Bool) → Keeps a (if b then surely (pop_all a) else record { ok = Some (pop_all a); err = Some unknown; still = false })
    go true = surely_keeps a (pop_all a) (pop_all_from a)
    go false = (pop_all_from a, λ h. lost h)

top_keeps : (ms : List Bool) (b : Base) (a c : AbstractStack) → FromBase a c → Keeps a (top_reading ms b c)
top_keeps (true ∷ ms) b a c f = surely_keeps a c f
top_keeps (false ∷ ms) b a c f = maybe_keeps a c f
top_keeps [] Empty a c f = (tt, tt)
top_keeps [] Blank a c f = maybe_keeps a c f
top_keeps [] Any a c f = maybe_keeps a c f

drop_keeps : (ms : List Bool) (b : Base) (a : AbstractStack) → FromBase a (pop_one a) → Keeps a (drop_reading ms b a)
drop_keeps (m ∷ ms) b a f = (f, tt)
drop_keeps [] Empty a f = (tt, same a)
drop_keeps [] Blank a f = (f, same a)
drop_keeps [] Any a f = (f, same a)

builtin_keeps : (q : Option Builtin) (a : AbstractStack) → Keeps a (builtin_reading q a)
builtin_keeps None a = maybe_keeps a a (same a)
builtin_keeps (Some (One set)) a = maybe_keeps a a (same a)
builtin_keeps (Some (Property n)) a = maybe_keeps a a (same a)
builtin_keeps (Some Newline) a = maybe_keeps a a (same a)
builtin_keeps (Some Soi) a = maybe_keeps a a (same a)
builtin_keeps (Some Eoi) a = maybe_keeps a a (same a)
builtin_keeps (Some Peek) a = top_keeps a.marks a.base a a (same a)
builtin_keeps (Some Pop) a = top_keeps a.marks a.base a (pop_one a) (popped_from a.marks a.base a.intact)
builtin_keeps (Some Drop) a = drop_keeps a.marks a.base a (popped_from a.marks a.base a.intact)
builtin_keeps (Some PeekAll) a = peek_all_keeps a
builtin_keeps (Some PopAll) a = pop_all_keeps a

slice_keeps : (i : ℤ) (j : Option ℤ) (a : AbstractStack) → Keeps a (slice_reading i j a)
slice_keeps (pos zero) None a = peek_all_keeps a
slice_keeps (pos zero) (Some (pos zero)) a = surely_keeps a a (same a)
slice_keeps (pos zero) (Some (pos (suc k))) a = maybe_keeps a a (same a)
slice_keeps (pos zero) (Some (negsuc k)) a = maybe_keeps a a (same a)
slice_keeps (pos (suc k)) j a = maybe_keeps a a (same a)
slice_keeps (negsuc k) j a = maybe_keeps a a (same a)

text_keeps : (t : Text) (a : AbstractStack) → Keeps a (text_reading t a)
text_keeps [] a = surely_keeps a a (same a)
text_keeps (c ∷ t) a = maybe_keeps a a (same a)

from_keeps : (a : AbstractStack) (q : Option AbstractStack) (f : AbstractStack → Reading) → AllFrom a q → ((b : AbstractStack) → Keeps b (f b)) → Keeps a (from q f)
from_keeps a None f h k = (tt, tt)
from_keeps a (Some b) f h k = (all_onto a b (f b).ok h (k b).0, all_onto a b (f b).err h (k b).1)

pushed_keeps : (a : AbstractStack) (r : Reading) → Keeps a r → Keeps a (pushed_reading r)
pushed_keeps a r k = (go r.ok k.0, k.1)
  where
    go : (q : Option AbstractStack) → AllFrom a q → AllFrom a (elim q [ None ↦ None | Some b ↦ Some (push_mark r.still b) ])
    go None h = tt
    go (Some b) h = pushed_from a b r.still h

module _ (limit : ℕ) (step : AbstractStack → Reading) (keeps : (b : AbstractStack) → Keeps b (step b)) where
  turn_from : (a b : AbstractStack) → FromBase a b → Keeps a (step b)
  turn_from a b f = (all_onto a b (step b).ok f (keeps b).0, all_onto a b (step b).err f (keeps b).1)

  tried_from : (a b : AbstractStack) → FromBase a b → AllFrom a (tried b (step b))
  tried_from a b f = joins_from a (step b).ok (failed (step b).err b) (turn_from a b f).0 (failed_from a b (step b).err (turn_from a b f).1 f)

  turns_from : (a : AbstractStack) (k : ℕ) (seen : List AbstractStack) (q : Option AbstractStack) (w : Walk) → AllFrom a q → AllFrom a w.here → AllFrom a (turns limit step k seen q w).here
  unfolding turns
  turns_from a zero seen q w f h = λ i. lost i
  turns_from a (suc k) seen None w f h = h
  turns_from a (suc k) seen (Some b) w f h =
      let v = turns limit step k (b ∷ seen) (step b).ok (record { here = join_any w.here (failed (step b).err b); failing = w.failing; still = w.still && stays (step b) }) in
      go v (is_among seen b) (turns_from a k (b ∷ seen) (step b).ok (record { here = join_any w.here (failed (step b).err b); failing = w.failing; still = w.still && stays (step b) })
      (turn_from a b f).0 (joins_from a w.here (failed (step b).err b) h (failed_from a b (step b).err (turn_from a b f).1 f)))
    where
      go : (v : Walk) (x : Bool) → AllFrom a v.here → AllFrom a (if x then w else v).here
      go v true i = h
      go v false i = i

  onward_from : (a : AbstractStack) (c : Copy) (q : Option AbstractStack) (w : Walk) → AllFrom a q → AllFrom a w.here → AllFrom a (onward limit step c q w).here
  onward_from a c None w f h = h
  onward_from a Required (Some b) w f h = (turn_from a b f).0
  onward_from a Optional (Some b) w f h = tried_from a b f
  onward_from a Endless (Some b) w f h = turns_from a limit [] (Some b) (record { here = None; failing = w.failing; still = w.still }) f tt

  walk_from : (a : AbstractStack) (cs : List Copy) (w : Walk) → AllFrom a w.here → AllFrom a (walk limit step cs w).here
  walk_from a [] w h = h
  walk_from a (c ∷ cs) w h = walk_from a cs (onward limit step c w.here w) (onward_from a c w.here w h h)

  walked_keeps : (skips : Bool) (cs : List Copy) (a : AbstractStack) → Keeps a (walked limit step skips a cs)
  walked_keeps skips cs a = (walk_from a cs (record { here = Some a; failing = false; still = true }) (same a), if_from a (walk limit step cs (record { here = Some a; failing = false; still = true })).failing)

module _ (limit : ℕ) (skips : Bool) (named : Text → AbstractStack → Reading) (names : (n : Text) (a : AbstractStack) → Keeps a (named n a)) where
  pub keeps : (e : Expression) (a : AbstractStack) → Keeps a (reading limit skips named e a)
  keeps (Str t) a = text_keeps t a
  keeps (Insens t) a = text_keeps t a
  keeps (Range b c) a = maybe_keeps a a (same a)
  keeps (Ident n) a = names n a
  keeps (PeekSlice i j) a = slice_keeps i j a
  keeps (PosPred e) a = (only_from a (reading limit skips named e a).ok, only_from a (reading limit skips named e a).err)
  keeps (NegPred e) a = (only_from a (reading limit skips named e a).err, only_from a (reading limit skips named e a).ok)
  keeps (Seq e f) a =
      ((from_keeps a (reading limit skips named e a).ok (λ b. reading limit skips named f b) (keeps e a).0 (λ b. keeps f b)).0, if_from a (is_some (reading limit skips named e a).err || is_some (from (reading limit skips named e a).ok (λ b. reading limit skips named f b)).err))
  keeps (Choice e f) a =
      let r = reading limit skips named e a in
      let q = from (failed r.err a) (λ b. reading limit skips named f b) in
      let k = from_keeps a (failed r.err a) (λ b. reading limit skips named f b) (failed_from a a r.err (keeps e a).1 (same a)) (λ b. keeps f b) in
      (joins_from a r.ok q.ok (keeps e a).0 k.0, failed_from a a q.err k.1 (same a))
  keeps (Opt e) a = let r = reading limit skips named e a in (joins_from a r.ok (failed r.err a) (keeps e a).0 (failed_from a a r.err (keeps e a).1 (same a)), tt)
  keeps (Rep e) a = walked_keeps limit (λ b. reading limit skips named e b) (λ b. keeps e b) skips (Endless ∷ []) a
  keeps (RepOnce e) a = walked_keeps limit (λ b. reading limit skips named e b) (λ b. keeps e b) skips (Required ∷ Endless ∷ []) a
  keeps (RepExact e n) a = walked_keeps limit (λ b. reading limit skips named e b) (λ b. keeps e b) skips (replicate n Required) a
  keeps (RepMin e n) a = walked_keeps limit (λ b. reading limit skips named e b) (λ b. keeps e b) skips (at_least_copies n) a
  keeps (RepMax e n) a = walked_keeps limit (λ b. reading limit skips named e b) (λ b. keeps e b) skips (replicate n Optional) a
  keeps (RepMinMax e m n) a = walked_keeps limit (λ b. reading limit skips named e b) (λ b. keeps e b) skips (from_to_copies m n) a
  keeps (Skip ts) a = maybe_keeps a a (same a)
  keeps (Push e) a = pushed_keeps a (reading limit skips named e a) (keeps e a)
  keeps (PushLiteral t) a = literal_keeps t a
  keeps (NodeTag e t) a = keeps e a
  keeps (RestoreOnErr e) a = keeps e a

module _ (limit : ℕ) (skips : Bool) (recursive : Text → Bool) (g : Grammar) where
  rule_keeps : (n : Text) (q : Option Rule) (f : Expression → AbstractStack → Reading) (a : AbstractStack) → ((e : Expression) (a : AbstractStack) → Keeps a (f e a)) → Keeps a (rule_reading limit skips recursive g n q f a)
  rule_keeps n None f a k = builtin_keeps (builtin_of n) a
  rule_keeps n (Some r) f a k = go (recursive n)
    where
      go : (b : Bool) → Keeps a (if b then anything else f r.body a)
      go true = (λ h. lost h, λ h. lost h)
      go false = k r.body a

  pub name_keeps : (k : ℕ) (n : Text) (a : AbstractStack) → Keeps a (name_reading limit skips recursive g k n a)
  name_keeps zero n a = rule_keeps n (rule_of g n) (λ e b. anything) a (λ e b. (λ h. lost h, λ h. lost h))
  name_keeps (suc k) n a = rule_keeps n (rule_of g n) (λ e b. reading limit skips (name_reading limit skips recursive g k) e b) a (λ e b. keeps limit skips (name_reading limit skips recursive g k) (name_keeps k) e b)

  pub reading_keeps : (k : ℕ) (e : Expression) (a : AbstractStack) → Keeps a (reading limit skips (name_reading limit skips recursive g k) e a)
  reading_keeps k e a = keeps limit skips (name_reading limit skips recursive g k) (name_keeps k) e a
