-- What stays apart from the stack does the same from every stack, and leaves it.
use Rattle.std.proofs.Common.{◌≡◌, ◌∙◌, sym, ap, refl, arith, ℕ, zero, suc, ◌<◌, ◌≤◌, ◌-◌, nat_eq, nat_le, List, [], ◌∷◌, length, Bool, true, false, not, ◌&&◌, ◌||◌, if◌then◌else◌, Option, Some, None, is_some, slice_get, inl}
use Rattle.std.proofs.lemmas.Bool.Decides.{nat_tests}
use Rattle.std.proofs.lemmas.Bool.{and_parts}
use Rattle.base_graphs.specs.Least.{is_set_at}
use Rattle.front_stack_domain.specs.Stack.{AbstractStack, both_marks, join, join_any, failed}
use Rattle.front_stack_domain.specs.Reading.{Reading, Walk, Copy, Required, Optional, Endless, from, only_if, tried, stays, ahead_reading, not_ahead_reading, opt_reading, seq_reading, choice_reading, turns, onward, walk, walked, is_single}
use Rattle.front_stack_domain.specs.Walks.{turned}
use Rattle.front_stack_domain.proofs.Turning.{is_in}
use Rattle.front_stack_domain.proofs.Bases.{common_same}
use Rattle.front_stack_loops.specs.Apart.{moved, AreMovable, AreApart, apart_kind, apart_call}
use Rattle.front_stack_loops.specs.Memory.{Meaning}
use Rattle.front_stack_loops.specs.Table.{IsMeaning, IsOrdered, Inside, HasOrderedOperands, LeadsTo, call_reading, copies, followed_at, level, node_reading, nodes_of}
use Rattle.front_stack_loops.specs.declared.table.NodeKind.{NodeKind}
use Rattle.front_stack_loops.specs.declared.table.NodeKind.TheVariants as is
use Rattle.front_stack_loops.specs.declared.table.PassNode.{PassNode}
use Rattle.front_stack_loops.specs.declared.table.Table.{Table}
use Rattle.front_stack_loops.proofs.Awaiting.{level_inside, level_called}
use Rattle.front_stack_loops.proofs.Follow.{turns_again, turns_none, turns_on}

and_same : (b : Bool) → (b && b) ≡ b
and_same true = refl
and_same false = refl

both_same : (ms : List Bool) → both_marks ms ms ≡ ms
both_same [] = refl
both_same (m ∷ ms) = λ x. and_same m x ∷ both_same ms x

-- a stack joined with itself
join_same : (a : AbstractStack) → join a a ≡ a
join_same a =
    let e : nat_eq (length a.marks) (length a.marks) ≡ true = grind (arith, nat_tests) in
    rw e (λ x. record { base = common_same a.base x; marks = both_same a.marks x; intact = and_same a.intact x })

-- the stack, or none
abbrev opt : Bool → AbstractStack → Option AbstractStack
opt b a = if b then Some a else None

join_any_at : (o p : Bool) (a : AbstractStack) → join_any (opt o a) (opt p a) ≡ opt (o || p) a
join_any_at true true a = ap Some (join_same a)
join_any_at true false a = refl
join_any_at false p a = refl

failed_at : (e : Bool) (a : AbstractStack) → failed (opt e a) a ≡ opt e a
failed_at true a = ap Some (join_same a)
failed_at false a = refl

is_some_at : (o : Bool) (a : AbstractStack) → is_some (opt o a) ≡ o
is_some_at true a = refl
is_some_at false a = refl

only_if_at : (o : Bool) (a b : AbstractStack) → only_if (opt o a) b ≡ opt o b
only_if_at true a b = refl
only_if_at false a b = refl

-- what is done, whatever the stack is
pub record Shape : Type 0 where
  pub ok : Bool
  pub err : Bool
  pub still : Bool

abbrev placed : Shape → AbstractStack → Reading
placed s a = record { ok = opt s.ok a; err = opt s.err a; still = s.still }

pub record IsShaped (g : AbstractStack → Reading) : Type 0 where
  pub shape : Shape
  pub is : (a : AbstractStack) → g a ≡ placed shape a

-- where it succeeds, it takes nothing
abbrev stays_still : Shape → Bool
stays_still s = not s.ok || s.still

stays_at : (s : Shape) (a : AbstractStack) → stays (placed s a) ≡ stays_still s
stays_at s a = ap (λ b. not b || s.still) (is_some_at s.ok a)

shaped_ahead : (g : AbstractStack → Reading) → IsShaped g → IsShaped (λ a. ahead_reading a (g a))
shaped_ahead g h = record {
  shape = record { ok = h.shape.ok; err = h.shape.err; still = true };
  is = λ a. ap (ahead_reading a) (h.is a) ∙ (λ x. record { ok = only_if_at h.shape.ok a a x; err = only_if_at h.shape.err a a x; still = true });
}

shaped_not_ahead : (g : AbstractStack → Reading) → IsShaped g → IsShaped (λ a. not_ahead_reading a (g a))
shaped_not_ahead g h = record {
  shape = record { ok = h.shape.err; err = h.shape.ok; still = true };
  is = λ a. ap (not_ahead_reading a) (h.is a) ∙ (λ x. record { ok = only_if_at h.shape.err a a x; err = only_if_at h.shape.ok a a x; still = true });
}

tried_at : (s : Shape) (a : AbstractStack) → tried a (placed s a) ≡ opt (s.ok || s.err) a
tried_at s a = ap (λ q. join_any (opt s.ok a) q) (failed_at s.err a) ∙ join_any_at s.ok s.err a

shaped_opt : (g : AbstractStack → Reading) → IsShaped g → IsShaped (λ a. opt_reading a (g a))
shaped_opt g h = record {
  shape = record { ok = h.shape.ok || h.shape.err; err = false; still = stays_still h.shape };
  is = λ a. ap (opt_reading a) (h.is a) ∙ (λ x. record { ok = tried_at h.shape a x; err = None; still = stays_at h.shape a x });
}

-- what follows, where it is reached
abbrev reached : Bool → Shape → Shape
reached true s = s
reached false s = record { ok = false; err = false; still = true }

then_at : (o : Bool) (h : AbstractStack → Reading) (q : IsShaped h) (a : AbstractStack) → from (opt o a) h ≡ placed (reached o q.shape) a
then_at true h q a = q.is a
then_at false h q a = refl

else_at : (e : Bool) (h : AbstractStack → Reading) (q : IsShaped h) (a : AbstractStack) → from (failed (opt e a) a) h ≡ placed (reached e q.shape) a
else_at e h q a = ap (λ o. from o h) (failed_at e a) ∙ then_at e h q a

err_at : (e i : Bool) (a : AbstractStack) → (if is_some (opt e a) || is_some (opt i a) then Some a else None) ≡ opt (e || i) a
err_at e i a = ap (λ b. opt b a) (λ x. is_some_at e a x || is_some_at i a x)

shaped_seq : (skips : Bool) (g h : AbstractStack → Reading) → IsShaped g → IsShaped h → IsShaped (λ a. seq_reading skips a (g a) (from (g a).ok h))
shaped_seq skips g h p q =
    let s = p.shape in
    let r = reached s.ok q.shape in
    record {
      shape = record { ok = r.ok; err = s.err || r.err; still = s.still && (r.still && not skips) };
      is = λ a. ap (λ z. seq_reading skips a z (from z.ok h)) (p.is a) ∙ ap (seq_reading skips a (placed s a)) (then_at s.ok h q a)
          ∙ (λ x. record { ok = opt r.ok a; err = err_at s.err r.err a x; still = s.still && (r.still && not skips) });
    }

shaped_choice : (g h : AbstractStack → Reading) → IsShaped g → IsShaped h → IsShaped (λ a. choice_reading a (g a) (from (failed (g a).err a) h))
shaped_choice g h p q =
    let s = p.shape in
    let r = reached s.err q.shape in
    record {
      shape = record { ok = s.ok || r.ok; err = r.err; still = stays_still s && stays_still r };
      is = λ a. ap (λ z. choice_reading a z (from (failed z.err a) h)) (p.is a) ∙ ap (choice_reading a (placed s a)) (else_at s.err h q a)
          ∙ (λ x. record { ok = join_any_at s.ok r.ok a x; err = failed_at r.err a x; still = stays_at s a x && stays_at r a x });
    }

-- how far copies have been followed, whatever the stack is
pub record Way : Type 0 where
  pub here : Bool
  pub failing : Bool
  pub still : Bool

abbrev along : Way → AbstractStack → Walk
along w a = record { here = opt w.here a; failing = w.failing; still = w.still }

module _ (limit : ℕ) (some : 2 ≤ limit) (g : AbstractStack → Reading) (p : IsShaped g) where
  -- past one copy
  pub record Onward (c : Copy) (w : Way) : Type 0 where
    pub way : Way
    pub is : (a : AbstractStack) → onward limit g c (opt w.here a) (along w a) ≡ along way a

  turns_end : (o : Bool) (k : ℕ) (a : AbstractStack) (w : Walk) → 0 < k → turns limit g k (a ∷ []) (opt o a) w ≡ w
  turns_end true k a w h = turns_again limit g k (a ∷ []) a w h (is_in (a ∷ []) a (inl refl))
  turns_end false k a w h = turns_none limit g k (a ∷ []) w h

  turns_at : (f t : Bool) (a : AbstractStack) → turns limit g limit [] (Some a) (record { here = None; failing = f; still = t }) ≡ along (record { here = p.shape.err; failing = f; still = t && stays_still p.shape }) a
  turns_at f t a =
      let w : Walk = record { here = None; failing = f; still = t } in
      turns_on limit g (limit - 1) limit [] a w (omega arith) refl
      ∙ ap (λ r. turns limit g (limit - 1) (a ∷ []) r.ok (turned a r w)) (p.is a)
      ∙ turns_end p.shape.ok (limit - 1) a (turned a (placed p.shape a) w) (omega arith)
      ∙ (λ x. record { here = failed_at p.shape.err a x; failing = f; still = t && stays_at p.shape a x })

  past : (c : Copy) (h f t : Bool) → Onward c (record { here = h; failing = f; still = t })
  past c false f t = record { way = record { here = false; failing = f; still = t }; is = λ a. refl }
  past Required true f t = record {
    way = record { here = p.shape.ok; failing = f || p.shape.err; still = t && stays_still p.shape };
    is = λ a. ap (λ r. let w : Walk = record { here = r.ok; failing = f || is_some r.err; still = t && stays r } in w) (p.is a)
        ∙ (λ x. record { here = opt p.shape.ok a; failing = f || is_some_at p.shape.err a x; still = t && stays_at p.shape a x });
  }
  past Optional true f t = record {
    way = record { here = p.shape.ok || p.shape.err; failing = f; still = t && stays_still p.shape };
    is = λ a. ap (λ r. let w : Walk = record { here = tried a r; failing = f; still = t && stays r } in w) (p.is a)
        ∙ (λ x. record { here = tried_at p.shape a x; failing = f; still = t && stays_at p.shape a x });
  }
  past Endless true f t = record {
    way = record { here = p.shape.err; failing = f; still = t && stays_still p.shape };
    is = λ a. turns_at f t a;
  }

  -- past all of them
  pub record Through (cs : List Copy) (w : Way) : Type 0 where
    pub way : Way
    pub is : (a : AbstractStack) → walk limit g cs (along w a) ≡ along way a

  through : (cs : List Copy) (w : Way) → Through cs w
  through [] w = record { way = w; is = λ a. refl }
  through (c ∷ cs) w =
      let one = past c w.here w.failing w.still in
      let others = through cs one.way in
      record { way = others.way; is = λ a. ap (walk limit g cs) (one.is a) ∙ others.is a }

  pub shaped_walked : (skips : Bool) (cs : List Copy) → IsShaped (λ a. walked limit g skips a cs)
  shaped_walked skips cs =
      let all = through cs (record { here = true; failing = false; still = true }) in
      let v = all.way in
      record {
        shape = record { ok = v.here; err = v.failing; still = not v.here || (v.still && (not skips || is_single cs)) };
        is = λ a. ap (λ w. let r : Reading = record { ok = w.here; err = if w.failing then Some a else None; still = not (is_some w.here) || (w.still && (not skips || is_single cs)) } in r) (all.is a)
            ∙ (λ x. record { ok = opt v.here a; err = opt v.failing a; still = not (is_some_at v.here a x) || (v.still && (not skips || is_single cs)) });
      }

module _ (t : Table) (meaning : Meaning) (set : ℕ → Bool) where
  -- those below are so
  abbrev Below : ℕ → Type 0
  Below i = (j : ℕ) → level t j < level t i → j < length (nodes_of t) → set j ≡ true → IsShaped (meaning j)

  inside : (i j : ℕ) → Below i → Inside t i j → set j ≡ true → IsShaped (meaning j)
  inside i j b h e = b j (level_inside t i j h) h.within e

  shaped_call : (i : ℕ) (o : Option ℕ) → Below i → LeadsTo t i o → apart_call set o ≡ true → IsShaped (call_reading meaning o)
  shaped_call i None b h e = cc
  shaped_call i (Some j) b h e = b j (level_called t i j h) h.within e

  shaped_kind : (i : ℕ) (k : NodeKind) → Below i → HasOrderedOperands t i k → apart_kind t set k ≡ true → IsShaped (node_reading t meaning k)
  shaped_kind i is.Still b h e = record { shape = record { ok = true; err = false; still = true }; is = λ a. refl }
  shaped_kind i is.Leaf b h e = record { shape = record { ok = true; err = true; still = false }; is = λ a. refl }
  shaped_kind i is.Peek b h e = cc
  shaped_kind i is.Pop b h e = cc
  shaped_kind i is.Drop b h e = cc
  shaped_kind i is.PeekAll b h e = cc
  shaped_kind i is.PopAll b h e = cc
  shaped_kind i (is.Push j) b h e = cc
  shaped_kind i (is.PushLiteral blank) b h e = cc
  shaped_kind i (is.Tag j) b h e = inside i j b h e
  shaped_kind i (is.Call r) b h e = shaped_call i (followed_at t r) b h e
  shaped_kind i (is.PosPred j) b h e = shaped_ahead (meaning j) (inside i j b h e)
  shaped_kind i (is.NegPred j) b h e = shaped_not_ahead (meaning j) (inside i j b h e)
  shaped_kind i (is.Opt j) b h e = shaped_opt (meaning j) (inside i j b h e)
  shaped_kind i (is.Seq j k) b h e =
      let both = and_parts (set j) (set k) e in
      shaped_seq t.skips (meaning j) (meaning k) (inside i j b h.0 both.0) (inside i k b h.1 both.1)
  shaped_kind i (is.Choice j k) b h e =
      let both = and_parts (set j) (set k) e in
      shaped_choice (meaning j) (meaning k) (inside i j b h.0 both.0) (inside i k b h.1 both.1)
  shaped_kind i (is.Repeat j required optional endless) b h e =
      let both = and_parts (nat_le 2 t.limit) (set j) e in
      let some : 2 ≤ t.limit = let few = both.0 in grind (arith, nat_tests, few) in
      shaped_walked t.limit some (meaning j) (inside i j b h both.1) t.skips (copies required optional endless)

-- a node that is there
node_there : (ns : List PassNode) (i : ℕ) → i < length ns → (n : PassNode) × (slice_get ns i ≡ Some n)
node_there [] i h = absurd (omega arith)
node_there (n ∷ ns) zero h = (n, refl)
node_there (n ∷ ns) (suc i) h = node_there ns i (omega arith)

module _ (t : Table) (meaning : Meaning) (flags : List Bool) (means : IsMeaning t meaning) (ordered : IsOrdered t) (apart : AreApart t flags) where
  shaped_below : (l i : ℕ) → level t i < l → i < length (nodes_of t) → is_set_at flags i ≡ true → IsShaped (meaning i)
  shaped_below zero i low within e = absurd (omega arith)
  shaped_below (suc l) i low within e =
      let there = node_there (nodes_of t) i within in
      let n = there.0 in
      let at = there.1 in
      let s = shaped_kind t meaning (is_set_at flags) i n.kind (λ j below inside set. shaped_below l j (omega arith) inside set) (ordered i n at) (apart i n at e) in
      record { shape = s.shape; is = λ a. means i n at a ∙ s.is a }

  shaped_moves : (g : AbstractStack → Reading) → IsShaped g → (a b : AbstractStack) → g b ≡ moved b (g a)
  shaped_moves g s a b = s.is b ∙ (λ x. record { ok = sym (only_if_at s.shape.ok a b) x; err = sym (only_if_at s.shape.err a b) x; still = s.shape.still }) ∙ ap (moved b) (sym (s.is a))

  pub movable : ((i : ℕ) → is_set_at flags i ≡ true → i < length (nodes_of t)) → AreMovable meaning flags
  movable within i e a b = shaped_moves (meaning i) (shaped_below (suc (level t i)) i (omega arith) (within i e) e) a b
