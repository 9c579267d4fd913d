-- What `rotate`, `skip` and `factor` make of a node: each makes something, no larger and without wrappers.
use Rattle.std.proofs.Common.{◌≡◌, refl, sym, subst, ◌≤◌, Bool, true, false, List, ◌⊎◌, inl, inr, bytes_eq, codes, arith}
use Rattle.std.proofs.lemmas.Slice.Eq.{bytes_eq-Decides}
use Rattle.base_language.specs.Language.Text.{Text}
use Rattle.base_language.specs.Language.Expression.{Expression, Ident, NegPred, Seq, Choice, Opt, Rep, Skip, RuleType, Atomic, CompoundAtomic, Grammar}
use Rattle.base_language.specs.Rewritings.Rewriting.{Rotates, rotate_sequence, rotate_choice, Strings, SkipsUntil, skip_until}
use Rattle.front_optimizer.specs.Bodies.{SkippedHere, skipped, stays}
use Rattle.base_ast.specs.Operands.{count_of_nodes}
use Rattle.base_language.specs.Rewritings.Equality.{expression_eq}
use Rattle.front_optimizer.specs.Here.{Exhausted, stop, again, factored_here, factored_choice, with_optional, absorbed}
use Rattle.pest_meta.proofs.Bare.{Bare, chosen}
use Rattle.front_optimizer.proofs.Factoring.{Factored, smaller}
use Rattle.pest_meta.proofs.FromAbove.{Makes}
use Rattle.pest_meta.proofs.StringsDecided.{strings_decided}

abbrev Turns : Expression → Type 0
Turns = Makes (Exhausted Rotates)

sequence : (a b : Expression) → Bare a → Bare b → Turns (Seq a b)
sequence (Seq x y) z u v =
    let m = sequence x (Seq y z) u.0 (u.1, v) in
    let small = m.small in
    record { node = m.node; made = again rotate_sequence m.made; bare = m.bare; small = omega arith }
sequence a b u v = record { node = Seq a b; made = stop (λ q r. elim r [ ]); bare = (u, v); small = omega arith }

choice : (a b : Expression) → Bare a → Bare b → Turns (Choice a b)
choice (Choice x y) z u v =
    let m = choice x (Choice y z) u.0 (u.1, v) in
    let small = m.small in
    record { node = m.node; made = again rotate_choice m.made; bare = m.bare; small = omega arith }
choice a b u v = record { node = Choice a b; made = stop (λ q r. elim r [ ]); bare = (u, v); small = omega arith }

pub turns : (a : Expression) → Bare a → Turns a
turns (Seq a b) u = sequence a b u.0 u.1
turns (Choice a b) u = choice a b u.0 u.1
turns a u = record { node = a; made = stop (λ q r. elim r [ ]); bare = u; small = omega arith }

module _ (g : Grammar) where
  abbrev Skips : Expression → Type 0
  Skips = Makes (SkippedHere g)

  named : (c q : Expression) (n : Text) → SkipsUntil g Atomic (Rep (Seq (NegPred c) (Ident n))) q → n ≡ codes "ANY"
  named c q n s = go s refl
    where
      go : {a q : Expression} → SkipsUntil g Atomic a q → a ≡ Rep (Seq (NegPred c) (Ident n)) → n ≡ codes "ANY"
      go (skip_until k) h = cc

  strings : (c q : Expression) (n : Text) → SkipsUntil g Atomic (Rep (Seq (NegPred c) (Ident n))) q → (ts : List Text) × Strings g c ts
  strings c q n s = go s refl
    where
      same : {c d : Expression} {n m : Text} → Rep (Seq (NegPred d) (Ident m)) ≡ Rep (Seq (NegPred c) (Ident n)) → d ≡ c
      same h = cc

      go : {a q : Expression} → SkipsUntil g Atomic a q → a ≡ Rep (Seq (NegPred c) (Ident n)) → (ts : List Text) × Strings g c ts
      go (skip_until {ts = ts} k) h = (ts, subst (λ x. Strings g x ts) (same h) k)

  turn : (c : Expression) (n : Text) → Bare c → Skips (Rep (Seq (NegPred c) (Ident n)))
  turn c n u = go (bytes_eq n (codes "ANY")) refl (strings_decided g c)
    where
      unmoved : ((q : Expression) → SkipsUntil g Atomic (Rep (Seq (NegPred c) (Ident n))) q → ⊥) → Skips (Rep (Seq (NegPred c) (Ident n)))
      unmoved f = record { node = Rep (Seq (NegPred c) (Ident n)); made = stays f; bare = (u, tt); small = omega arith }

      go : (b : Bool) → bytes_eq n (codes "ANY") ≡ b → ((ts : List Text) × Strings g c ts) ⊎ ((ts : List Text) → Strings g c ts → ⊥) → Skips (Rep (Seq (NegPred c) (Ident n)))
      go false h d = unmoved (λ q s. let e = (bytes_eq-Decides n (codes "ANY")).1 (named c q n s) in cc)
      go true h (inr f) = unmoved (λ q s. let d = strings c q n s in f d.0 d.1)
      go true h (inl d) =
          let any = (bytes_eq-Decides n (codes "ANY")).0 h in
          record {
            node = Skip d.0;
            made = subst (λ m. SkippedHere g (Rep (Seq (NegPred c) (Ident m))) (Skip d.0)) (sym any) (skipped (skip_until d.1));
            bare = tt;
            small = omega arith;
          }

  pub skips : (a : Expression) → Bare a → Skips a
  skips (Rep (Seq (NegPred c) (Ident n))) u = turn c n u.0
  skips a u = record { node = a; made = stays (λ q s. elim s [ ]); bare = u; small = omega arith }

absorbed_bare : (a b : Expression) → Bare a → Bare b → Bare (absorbed a b)
absorbed_bare a (Seq l r) u v = chosen (expression_eq a l) a (Choice a (Seq l r)) u (u, v)
absorbed_bare a _ u v = (u, v)

optional_bare : (l r k : Expression) → Bare l → Bare r → Bare k → Bare (with_optional l r k)
optional_bare l r k u v w = chosen (expression_eq l k) (Seq l (Opt r)) (Choice (Seq l r) k) (u, v) ((u, v), w)

choice_bare : (y : RuleType) (a b : Expression) → Bare a → Bare b → Bare (factored_choice y a b)
choice_bare y (Seq l r) (Seq k q) u v =
    chosen (expression_eq l k) (Seq l (Choice r q)) (Choice (Seq l r) (Seq k q)) (u.0, (u.1, v.1)) (u, v)
choice_bare Atomic (Seq l r) k u v = optional_bare l r k u.0 u.1 v
choice_bare CompoundAtomic (Seq l r) k u v = optional_bare l r k u.0 u.1 v
choice_bare y a b u v = absorbed_bare a b u v

module _ (y : RuleType) where
  no_larger : (a : Expression) → count_of_nodes (factored_here y a) ≤ count_of_nodes a
  no_larger (Choice a b) = smaller y a b
  no_larger _ = omega arith

  stays_bare : (a : Expression) → Bare a → Bare (factored_here y a)
  stays_bare (Choice a b) u = choice_bare y a b u.0 u.1
  stays_bare _ u = u

  pub factors : (a : Expression) → Bare a → Makes (Factored y) a
  factors a u = record { node = factored_here y a; made = refl; bare = stays_bare a u; small = no_larger a }
