-- Where runs are put in at each node from the root down, none is left to put in.
use Rattle.std.proofs.Common.{◌≡◌, ◌∙◌, refl, sym, ap, ap₂, subst, List, ◌∷◌, ◌++◌, map, codes, string_bytes, Global, Box, ℕ, Bool, true, false, not, Option, Some, None, Result, Ok, Err, IfOk}
use Rattle.std.proofs.Math.Utf8.{encodes}
use Rattle.std.specs.Str.{chars, bytes_eq}
use Rattle.std.proofs.lemmas.Slice.Eq.{bytes_eq-Decides}
use Rattle.std.specs.declared.alloc.AllocError.{AllocError}
use Rattle.std.specs.declared.string.String.{String}
use Rattle.std.specs.declared.vec.Vec.{Vec}
use Rattle.base_language.specs.Language.Text.{Text}
use Rattle.base_language.specs.Language.Expression.{Expression, Ident, NegPred, Seq, Choice, Rep, Skip, Atomic, Rule, Grammar, Part, whole, of_pos_pred, of_neg_pred, of_seq_left, of_seq_right, of_choice_left, of_choice_right, of_opt, of_rep, of_rep_once, of_rep_exact, of_rep_min, of_rep_max, of_rep_min_max, of_push, of_restore, of_tag}
use Rattle.base_language.specs.Rewritings.Rewriting.{Many, no_step, one_step, here, Strings, more, SkipsUntil, skip_until, IsDone, Rewrites, by_skipping, Chain, done}
use Rattle.base_language.proofs.StepsKeepOutcomes.{each_body}
use Rattle.base_language.proofs.PassesAreChains.{pass}
use Rattle.base_language.proofs.Replacing as replacing
use Rattle.base_ast.specs.Ast.{expression_of, rule_type_of, text_of}
use Rattle.base_ast.specs.declared.ast.Expr.{Expr, Rep', Seq'}
use Rattle.base_ast.specs.declared.ast.Expr.TheVariants as form
use Rattle.base_ast.proofs.Characters.{encodes-text_of}
use Rattle.base_ast.specs.declared.ast.RuleType as code
use Rattle.base_ast.specs.declared.ast.RuleType.TheVariants as is
use Rattle.front_optimizer.specs.Bodies.{SkippedHere, skipped, stays, StringsOrNone, TextsUntil}
use Rattle.front_optimizer.specs.Traversals.{HasNoOperands, TopDown, met, Below}
use Rattle.front_optimizer.specs.Traversals as trav
use Rattle.front_optimizer.proofs.Chains as chains

-- what one relation does another does, at each node
module _ (R S : Expression → Expression → Type 0) (f : (a b : Expression) → R a b → S a b) where
  mutual
    pub mapped : {a b : Expression} → TopDown R a b → TopDown S a b
    mapped (met r d) = met (f _ _ r) (mapped_below d)

    mapped_below : {a b : Expression} → Below R a b → Below S a b
    mapped_below (trav.Below.leaf h) = trav.Below.leaf h
    mapped_below (trav.Below.pos_pred d) = trav.Below.pos_pred (mapped d)
    mapped_below (trav.Below.neg_pred d) = trav.Below.neg_pred (mapped d)
    mapped_below (trav.Below.seq d e) = trav.Below.seq (mapped d) (mapped e)
    mapped_below (trav.Below.choice d e) = trav.Below.choice (mapped d) (mapped e)
    mapped_below (trav.Below.opt d) = trav.Below.opt (mapped d)
    mapped_below (trav.Below.rep d) = trav.Below.rep (mapped d)
    mapped_below (trav.Below.rep_once d) = trav.Below.rep_once (mapped d)
    mapped_below (trav.Below.rep_exact d) = trav.Below.rep_exact (mapped d)
    mapped_below (trav.Below.rep_min d) = trav.Below.rep_min (mapped d)
    mapped_below (trav.Below.rep_max d) = trav.Below.rep_max (mapped d)
    mapped_below (trav.Below.rep_min_max d) = trav.Below.rep_min_max (mapped d)
    mapped_below (trav.Below.push d) = trav.Below.push (mapped d)
    mapped_below (trav.Below.tag d) = trav.Below.tag (mapped d)

module _ (g : Grammar) where
  abbrev Here : Expression → Expression → Type 0
  Here = SkippedHere g

  steps_here : (a b : Expression) → Here a b → Many (SkipsUntil g Atomic) a b
  steps_here a b (skipped s) = one_step (here s) no_step
  steps_here a b (stays n) = no_step

  pub reached : {a b : Expression} → TopDown Here a b → Many (SkipsUntil g Atomic) a b
  reached d = chains.top_down_many (SkipsUntil g Atomic) Here steps_here d

  -- what stands for strings was so before
  mutual
    same_strings : {a b : Expression} {ts : List Text} → TopDown Here a b → Strings g b ts → a ≡ b
    same_strings (met (skipped (skip_until k)) (trav.Below.leaf h)) d = elim d [ ]
    same_strings (met (stays n) w) d = same_below w d

    same_below : {a b : Expression} {ts : List Text} → Below Here a b → Strings g b ts → a ≡ b
    same_below (trav.Below.leaf h) d = refl
    same_below (trav.Below.choice w v) (more l d f) = ap₂ Choice (same_strings w d) (same_strings v f)
    same_below _ d = elim d [ ]

  same_name : {a : Expression} {n : Text} → TopDown Here a (Ident n) → a ≡ Ident n
  same_name (met (stays n) (trav.Below.leaf h)) = refl
  same_name (met (skipped (skip_until k)) w) = elim w [ ]

  same_predicate : {a c : Expression} {ts : List Text} → TopDown Here a (NegPred c) → Strings g c ts → a ≡ NegPred c
  same_predicate (met (stays n) (trav.Below.neg_pred d)) k = ap NegPred (same_strings d k)
  same_predicate (met (stays n) (trav.Below.leaf h)) k = elim h [ ]
  same_predicate (met (skipped (skip_until k)) w) j = elim w [ ]

  same_turn : {a c : Expression} {n : Text} {ts : List Text} → TopDown Here a (Seq (NegPred c) (Ident n)) → Strings g c ts → a ≡ Seq (NegPred c) (Ident n)
  same_turn (met (stays m) (trav.Below.seq d e)) k = ap₂ Seq (same_predicate d k) (same_name e)
  same_turn (met (stays m) (trav.Below.leaf h)) k = elim h [ ]
  same_turn (met (skipped (skip_until k)) w) j = elim w [ ]

  abbrev NotHere : Expression → Type 0
  NotHere a = (q : Expression) → SkipsUntil g Atomic a q → ⊥

  turn_stays : {a b q : Expression} → TopDown Here a b → NotHere (Rep a) → SkipsUntil g Atomic (Rep b) q → ⊥
  turn_stays d n (skip_until {ts = ts} k) = n (Skip ts) (subst (λ x. SkipsUntil g Atomic (Rep x) (Skip ts)) (sym (same_turn d k)) (skip_until k))

  at_leaf : {a p q : Expression} → HasNoOperands a → NotHere a → Part a p → SkipsUntil g Atomic p q → ⊥
  at_leaf h n whole s = n _ s
  at_leaf h n (of_pos_pred k) s = h
  at_leaf h n (of_neg_pred k) s = h
  at_leaf h n (of_seq_left k) s = h
  at_leaf h n (of_seq_right k) s = h
  at_leaf h n (of_choice_left k) s = h
  at_leaf h n (of_choice_right k) s = h
  at_leaf h n (of_opt k) s = h
  at_leaf h n (of_rep k) s = h
  at_leaf h n (of_rep_once k) s = h
  at_leaf h n (of_rep_exact k) s = h
  at_leaf h n (of_rep_min k) s = h
  at_leaf h n (of_rep_max k) s = h
  at_leaf h n (of_rep_min_max k) s = h
  at_leaf h n (of_push k) s = h
  at_leaf h n (of_tag k) s = h
  at_leaf h n (of_restore k) s = h

  mutual
    pub nowhere : {a b : Expression} → TopDown Here a b → (p q : Expression) → Part b p → SkipsUntil g Atomic p q → ⊥
    nowhere (met (skipped (skip_until k)) (trav.Below.leaf h)) p q whole s = elim s [ ]
    nowhere (met (stays n) w) p q k s = below w n p q k s

    below : {a b : Expression} → Below Here a b → NotHere a → (p q : Expression) → Part b p → SkipsUntil g Atomic p q → ⊥
    below (trav.Below.leaf h) n p q k s = at_leaf h n k s
    below (trav.Below.rep d) n p q whole s = turn_stays d n s
    below (trav.Below.rep d) n p q (of_rep k) s = nowhere d p q k s
    below (trav.Below.pos_pred d) n p q (of_pos_pred k) s = nowhere d p q k s
    below (trav.Below.neg_pred d) n p q (of_neg_pred k) s = nowhere d p q k s
    below (trav.Below.seq d e) n p q (of_seq_left k) s = nowhere d p q k s
    below (trav.Below.seq d e) n p q (of_seq_right k) s = nowhere e p q k s
    below (trav.Below.choice d e) n p q (of_choice_left k) s = nowhere d p q k s
    below (trav.Below.choice d e) n p q (of_choice_right k) s = nowhere e p q k s
    below (trav.Below.opt d) n p q (of_opt k) s = nowhere d p q k s
    below (trav.Below.rep_once d) n p q (of_rep_once k) s = nowhere d p q k s
    below (trav.Below.rep_exact d) n p q (of_rep_exact k) s = nowhere d p q k s
    below (trav.Below.rep_min d) n p q (of_rep_min k) s = nowhere d p q k s
    below (trav.Below.rep_max d) n p q (of_rep_max k) s = nowhere d p q k s
    below (trav.Below.rep_min_max d) n p q (of_rep_min_max k) s = nowhere d p q k s
    below (trav.Below.push d) n p q (of_push k) s = nowhere d p q k s
    below (trav.Below.tag d) n p q (of_tag k) s = nowhere d p q k s
    below _ n p q whole s = elim s [ ]

  pub all_done : {a b : Expression} → TopDown Here a b → IsDone (SkipsUntil g Atomic) a b
  all_done d = record { reached = reached d; nowhere = nowhere d }

  -- in another type there is nothing to do
  pub nothing_done : (y : code.RuleType) (a : Expression) → (y ≡ is.Atomic → ⊥) → IsDone (SkipsUntil g (rule_type_of y)) a a
  nothing_done y a n = record { reached = no_step; nowhere = at y n }
    where
      at : (y : code.RuleType) → (y ≡ is.Atomic → ⊥) → (p q : Expression) → Part a p → SkipsUntil g (rule_type_of y) p q → ⊥
      at is.Normal n p q k s = elim s [ ]
      at is.Silent n p q k s = elim s [ ]
      at is.Atomic n p q k s = n refl
      at is.CompoundAtomic n p q k s = elim s [ ]
      at is.NonAtomic n p q k s = elim s [ ]

-- a rule in which it is done, in the place of the rule
pub chained : (r : Rule) (b : Expression) (before after : Grammar) → Many (SkipsUntil (before ++ r ∷ after) r.type_of) r.body b → Chain (before ++ r ∷ after) (before ++ replacing.with_body r b ∷ after)
chained r b before after m =
    let g = before ++ r ∷ after in
    pass done (each_body (λ y. Many (SkipsUntil g y)) (λ y. Many (Rewrites g y)) (λ y a c w. replacing.many (SkipsUntil g y) (Rewrites g y) (λ d e s. by_skipping s) w) (replacing.replaced (SkipsUntil g) r b m before after))

-- where the name is another, and where it is ANY
the_name : {g : Grammar} {a q c : Expression} {n : Text} → SkipsUntil g Atomic a q → a ≡ Rep (Seq (NegPred c) (Ident n)) → n ≡ codes "ANY"
the_name (skip_until k) h = cc

the_strings : {g : Grammar} {a q c : Expression} {n : Text} → SkipsUntil g Atomic a q → a ≡ Rep (Seq (NegPred c) (Ident n)) → (ts : List Text) × Strings g c ts
the_strings {g = g} (skip_until {c = d} {ts = ts} k) h = (ts, subst (λ x. Strings g x ts) (same_inner h) k)
  where
    same_inner : {c d : Expression} {n m : Text} → Rep (Seq (NegPred d) (Ident m)) ≡ Rep (Seq (NegPred c) (Ident n)) → d ≡ c
    same_inner h = cc

pub not_any : (s : String Global) → (string_bytes s ≡ codes "ANY" → ⊥) → text_of s ≡ codes "ANY" → ⊥
unfolding lib.Utf8.encode
not_any s n h = n (sym (encodes-text_of s) ∙ ap encodes h)

pub is_any : (s : String Global) → string_bytes s ≡ codes "ANY" → text_of s ≡ codes "ANY"
unfolding chars
is_any s h = ap chars h

pub other_name : (g : Grammar) (c : Expression) (n : Text) → (n ≡ codes "ANY" → ⊥) → (q : Expression) → SkipsUntil g Atomic (Rep (Seq (NegPred c) (Ident n))) q → ⊥
other_name g c n h q s = h (the_name s refl)

abbrev Answer : Type 0
Answer = Result (Option (Vec (String Global) Global)) AllocError

pub until : (H : Grammar → Type 0) (c e : Expression) (r : Answer) → e ≡ Seq (NegPred c) (Ident (codes "ANY")) → IfOk r (λ found. (g : Grammar) → H g → StringsOrNone g c found) → IfOk r (λ found. (g : Grammar) → H g → TextsUntil g e found)
until H c e (Ok (Some ts)) h f = λ g k. subst (λ x. SkipsUntil g Atomic (Rep x) (Skip (map text_of ts.items))) (sym h) (skip_until (f g k))
until H c e (Ok None) h f = λ g k q s. let d = the_strings s (ap Rep h) in f g k d.0 d.1
until H c e (Err x) h f = f

-- in words of code
abbrev Boxed : Type 0
Boxed = Box Expr Global

pub shape : (x : Expr) (left right inner : Boxed) (s : String Global) → x ≡ form.Seq left right → left.value ≡ form.NegPred inner → right.value ≡ form.Ident s → expression_of x ≡ Seq (NegPred (expression_of inner.value)) (Ident (text_of s))
shape x left right inner s h i j = ap expression_of h ∙ ap₂ Seq (ap expression_of i) (ap expression_of j)

pub any_shape : (e c : Expression) (s : String Global) → e ≡ Seq (NegPred c) (Ident (text_of s)) → text_of s ≡ codes "ANY" → e ≡ Seq (NegPred c) (Ident (codes "ANY"))
any_shape e c s h i = h ∙ ap (λ n. Seq (NegPred c) (Ident n)) i

pub no_turns : (g : Grammar) (x : Expr) → ((b : Boxed) → x ≡ form.Rep b → ⊥) → (q : Expression) → SkipsUntil g Atomic (expression_of x) q → ⊥
no_turns g (Rep' p x) n q s = n _ refl
no_turns g _ n q s = elim s [ ]

pub no_turn_inside : (g : Grammar) (x : Expr) → ((a b : Boxed) → x ≡ form.Seq a b → ⊥) → (q : Expression) → SkipsUntil g Atomic (Rep (expression_of x)) q → ⊥
no_turn_inside g (Seq' p x r y) n q s = n _ _ refl
no_turn_inside g _ n q s = elim s [ ]

pub texts_differ : (bs cs : List ℕ) (r : Bool) → r ≡ not (bytes_eq bs cs) → r ≡ true → bs ≡ cs → ⊥
texts_differ bs cs r h i e = let t = (bytes_eq-Decides bs cs).1 e in let j : not (bytes_eq bs cs) ≡ true = sym h ∙ i in let k : not true ≡ true = ap not (sym t) ∙ j in cc

pub texts_same : (bs cs : List ℕ) (r : Bool) → r ≡ not (bytes_eq bs cs) → r ≡ false → bs ≡ cs
texts_same bs cs r h i = (bytes_eq-Decides bs cs).0 (from (bytes_eq bs cs) (sym h ∙ i))
  where
    from : (t : Bool) → not t ≡ false → t ≡ true
    from true j = refl
    from false j = cc
