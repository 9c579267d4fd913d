-- What each step of a run makes of what was found, and of the furthest failure.
use Rattle.std.proofs.Common.{◌≡◌, refl, sym, ap, ℕ, nat_eq, max, Bool, true, false, ◌&&◌, Some, None, arith, if◌then◌else◌}
use Rattle.base_language.specs.Language.Expression.{Grammar, Expression, Str, Range, Ident, PosPred, NegPred, Seq, Choice, Opt, Rep, RepOnce, RepMinMax, RuleType, Normal, Silent, Atomic, CompoundAtomic, NonAtomic, Rule, rule_of}
use Rattle.base_language.specs.Language.State.{Classes, Mode, NonAtomicMode, AtomicMode, CompoundAtomicMode, Between, State, Trees, None', Tree, joined, Outcome, Success, Failure}
use Rattle.base_language.specs.Language.Text.{Text}
use Rattle.base_language.specs.Language.Matching.{text_outcome, character_outcome, range_set, other_outcome}
use Rattle.base_language.specs.Language.Meaning.{Does, Run, Turns, Skipping, str, range, call, other, pos_pred, neg_pred, seq, seq_first, seq_second, left, right, opt, opt_none, rep, rep_none, turn, turn_none, rep_once, rep_min_max, skips, atomic, compound_atomic, between, ahead, not_ahead, with_token, body_mode, mode_in, gives_token, seen_from, from_to, skipped}
use Rattle.base_language.specs.Language.FurthestFailure.{furthest, place_of, is_eoi}
use Rattle.base_language.specs.Language.Ran.{Ran}

-- trees before those of a success
abbrev pub after_trees : Trees → Outcome → Outcome
after_trees us Failure = Failure
after_trees us (Success t vs) = Success t (joined us vs)

pub joined_nil : (us : Trees) → joined us None' ≡ us
joined_nil None' = refl
joined_nil (Tree r i j inner others) = ap (λ vs. Tree r i j inner vs) (joined_nil others)

pub joined_assoc : (us vs ws : Trees) → joined (joined us vs) ws ≡ joined us (joined vs ws)
joined_assoc None' vs ws = refl
joined_assoc (Tree r i j inner others) vs ws = ap (λ xs. Tree r i j inner xs) (joined_assoc others vs ws)

pub after_assoc : (us vs : Trees) (o : Outcome) → after_trees us (after_trees vs o) ≡ after_trees (joined us vs) o
after_assoc us vs Failure = refl
after_assoc us vs (Success t ws) = ap (Success t) (sym (joined_assoc us vs ws))

pub after_none : (o : Outcome) → after_trees None' o ≡ o
after_none Failure = refl
after_none (Success t us) = refl

pub nowhere : (s : State) (o : Outcome) → place_of false s o ≡ 0
nowhere s Failure = refl
nowhere s (Success t us) = refl

pub same_mode_in : (y : RuleType) (b : Bool) → mode_in y b Between ≡ mode_in y b NonAtomicMode
same_mode_in Normal true = refl
same_mode_in Normal false = refl
same_mode_in Silent true = refl
same_mode_in Silent false = refl
same_mode_in Atomic b = refl
same_mode_in CompoundAtomic b = refl
same_mode_in NonAtomic b = refl

pub same_body_mode : (r : Rule) → body_mode r Between ≡ body_mode r NonAtomicMode
same_body_mode r = same_mode_in r.type_of _

pub same_gives : (y : RuleType) → gives_token y Between ≡ gives_token y NonAtomicMode
same_gives Normal = refl
same_gives Silent = refl
same_gives Atomic = refl
same_gives CompoundAtomic = refl
same_gives NonAtomic = refl

pub same_with_token : (r : Rule) (s : State) (o : Outcome) → with_token r Between s o ≡ with_token r NonAtomicMode s o
same_with_token r s Failure = refl
same_with_token r s (Success t us) = ap (λ b. Success t (if b then Tree r.name s.position t.position us None' else us)) (same_gives r.type_of)

module _ {g : Grammar} {classes : Classes} where
  pub ran_str : {m : Mode} {t : Text} {s : State} {o : Outcome} {p : ℕ} → o ≡ text_outcome nat_eq t s → Ran g classes (Run m (Str t)) s o p p
  ran_str e = rw e (record { found = str; noted = omega arith })

  pub ran_range : {m : Mode} {a b : Text} {s : State} {o : Outcome} {p : ℕ} → o ≡ character_outcome (range_set a b) s → Ran g classes (Run m (Range a b)) s o p p
  ran_range e = rw e (record { found = range; noted = omega arith })

  -- a name that is no rule's
  pub ran_other : {m : Mode} {n : Text} {s : State} {o : Outcome} {p q : ℕ} → rule_of g n ≡ None → other_outcome classes m n s ≡ Some o → q ≡ max p (place_of (seen_from m && is_eoi n) s o) → Ran g classes (Run m (Ident n)) s o p q
  ran_other h b e = record { found = other h b; noted = e }

  pub ran_quietly : {m : Mode} {n : Text} {s : State} {o : Outcome} {p : ℕ} → rule_of g n ≡ None → other_outcome classes m n s ≡ Some o → (seen_from m && is_eoi n) ≡ false → Ran g classes (Run m (Ident n)) s o p p
  ran_quietly {s = s} {o = o} h b f = ran_other h b (rw (f, nowhere s o) (omega arith))

  -- a rule's name
  pub ran_call : {m : Mode} {n : Text} {s : State} {o : Outcome} {r : Rule} {p q z : ℕ} → rule_of g n ≡ Some r → Ran g classes (Run (body_mode r m) r.body) s o p q → z ≡ max q (place_of (seen_from m && gives_token r.type_of m) s o) → Ran g classes (Run m (Ident n)) s (with_token r m s o) p z
  ran_call h x e = record { found = call h x.found; noted = omega (arith, x.noted) }

  pub ran_ahead : {m : Mode} {e : Expression} {s : State} {o : Outcome} {p q : ℕ} → Ran g classes (Run m e) s o p q → Ran g classes (Run m (PosPred e)) s (ahead s o) p q
  ran_ahead x = record { found = pos_pred x.found; noted = x.noted }

  pub ran_not_ahead : {m : Mode} {e : Expression} {s : State} {o : Outcome} {p q : ℕ} → Ran g classes (Run m e) s o p q → Ran g classes (Run m (NegPred e)) s (not_ahead s o) p q
  ran_not_ahead x = record { found = neg_pred x.found; noted = x.noted }

  pub ran_opt : {m : Mode} {e : Expression} {s t : State} {us : Trees} {p q : ℕ} → Ran g classes (Run m e) s (Success t us) p q → Ran g classes (Run m (Opt e)) s (Success t us) p q
  ran_opt x = record { found = opt x.found; noted = x.noted }

  pub ran_opt_none : {m : Mode} {e : Expression} {s : State} {p q : ℕ} → Ran g classes (Run m e) s Failure p q → Ran g classes (Run m (Opt e)) s (Success s None') p q
  ran_opt_none x = record { found = opt_none x.found; noted = x.noted }

  pub ran_seq_fails : {m : Mode} {a b : Expression} {s : State} {p q : ℕ} → Ran g classes (Run m a) s Failure p q → Ran g classes (Run m (Seq a b)) s Failure p q
  ran_seq_fails x = record { found = seq_first x.found; noted = x.noted }

  pub ran_seq : {m : Mode} {a b : Expression} {s t u : State} {us vs : Trees} {o : Outcome} {p q r z : ℕ} → Ran g classes (Run m a) s (Success t us) p q → Ran g classes (Skipping m) t (Success u vs) q r → Ran g classes (Run m b) u o r z → Ran g classes (Run m (Seq a b)) s (after_trees us (after_trees vs o)) p z
  ran_seq {o = Failure} x y w = record { found = seq_second x.found y.found w.found; noted = omega (arith, x.noted, y.noted, w.noted) }
  ran_seq {o = Success v ws} x y w = record { found = seq x.found y.found w.found; noted = omega (arith, x.noted, y.noted, w.noted) }

  pub ran_left : {m : Mode} {a b : Expression} {s t : State} {us : Trees} {p q : ℕ} → Ran g classes (Run m a) s (Success t us) p q → Ran g classes (Run m (Choice a b)) s (Success t us) p q
  ran_left x = record { found = left x.found; noted = x.noted }

  pub ran_right : {m : Mode} {a b : Expression} {s : State} {o : Outcome} {p q r : ℕ} → Ran g classes (Run m a) s Failure p q → Ran g classes (Run m b) s o q r → Ran g classes (Run m (Choice a b)) s o p r
  ran_right x y = record { found = right x.found y.found; noted = omega (arith, x.noted, y.noted) }

  pub ran_rep_none : {m : Mode} {e : Expression} {s : State} {p q : ℕ} → Ran g classes (Run m e) s Failure p q → Ran g classes (Run m (Rep e)) s (Success s None') p q
  ran_rep_none x = record { found = rep_none x.found; noted = x.noted }

  pub ran_rep : {m : Mode} {e : Expression} {s t : State} {us : Trees} {o : Outcome} {p q r : ℕ} → Ran g classes (Run m e) s (Success t us) p q → Ran g classes (Turns m e) t o q r → Ran g classes (Run m (Rep e)) s (after_trees us o) p r
  ran_rep {o = Failure} x y = elim y.found [ ]
  ran_rep {o = Success u vs} x y = record { found = rep x.found y.found; noted = omega (arith, x.noted, y.noted) }

  pub ran_turns_end : {m : Mode} {e : Expression} {s t : State} {us : Trees} {p q r : ℕ} → Ran g classes (Skipping m) s (Success t us) p q → Ran g classes (Run m e) t Failure q r → Ran g classes (Turns m e) s (Success s None') p r
  ran_turns_end x y = record { found = turn_none x.found y.found; noted = omega (arith, x.noted, y.noted) }

  pub ran_turns_more : {m : Mode} {e : Expression} {s t u : State} {us vs : Trees} {o : Outcome} {p q r z : ℕ} → Ran g classes (Skipping m) s (Success t us) p q → Ran g classes (Run m e) t (Success u vs) q r → Ran g classes (Turns m e) u o r z → Ran g classes (Turns m e) s (after_trees us (after_trees vs o)) p z
  ran_turns_more {o = Failure} x y w = elim w.found [ ]
  ran_turns_more {o = Success v ws} x y w = record { found = turn x.found y.found w.found; noted = omega (arith, x.noted, y.noted, w.noted) }

  pub ran_rep_once : {m : Mode} {e : Expression} {s : State} {o : Outcome} {p q : ℕ} → Ran g classes (Run m (Seq e (Rep e))) s o p q → Ran g classes (Run m (RepOnce e)) s o p q
  ran_rep_once x = record { found = rep_once x.found; noted = x.noted }

  pub ran_rep_min_max : {m : Mode} {e : Expression} {i j : ℕ} {s : State} {o : Outcome} {p q : ℕ} → Ran g classes (Run m (from_to e i j)) s o p q → Ran g classes (Run m (RepMinMax e i j)) s o p q
  ran_rep_min_max x = record { found = rep_min_max x.found; noted = x.noted }

  pub ran_skips : {s : State} {o : Outcome} {p q : ℕ} → Ran g classes (Run Between skipped) s o p q → Ran g classes (Skipping NonAtomicMode) s o p q
  ran_skips x = record { found = skips x.found; noted = x.noted }

  pub ran_atomic : {s : State} {p : ℕ} → Ran g classes (Skipping AtomicMode) s (Success s None') p p
  ran_atomic = record { found = atomic; noted = omega arith }

  pub ran_compound_atomic : {s : State} {p : ℕ} → Ran g classes (Skipping CompoundAtomicMode) s (Success s None') p p
  ran_compound_atomic = record { found = compound_atomic; noted = omega arith }

  pub ran_between : {s : State} {p : ℕ} → Ran g classes (Skipping Between) s (Success s None') p p
  ran_between = record { found = between; noted = omega arith }

  -- where nothing is skipped between turns, a repetition goes on as it began
  again_found : {e : Expression} {s : State} {o : Outcome} (d : Does g classes (Run Between (Rep e)) s o) → (f : Does g classes (Turns Between e) s o) × (furthest f ≡ furthest d)
  again_found (rep a b) = (turn between a b, omega arith)
  again_found (rep_none a) = (turn_none between a, omega arith)

  again : {e : Expression} {s : State} {o : Outcome} {p q : ℕ} → Ran g classes (Run Between (Rep e)) s o p q → Ran g classes (Turns Between e) s o p q
  again x = let y = again_found x.found in record { found = y.0; noted = omega (arith, x.noted, y.1) }

  pub ran_more : {e : Expression} {s t : State} {us : Trees} {o : Outcome} {p q r : ℕ} → Ran g classes (Run Between e) s (Success t us) p q → Ran g classes (Run Between (Rep e)) t o q r → Ran g classes (Run Between (Rep e)) s (after_trees us o) p r
  ran_more x y = ran_rep x (again y)

  -- a task in an equal mode
  in_mode : {m n : Mode} {e : Expression} {s : State} {o : Outcome} → n ≡ m → (d : Does g classes (Run m e) s o) → (f : Does g classes (Run n e) s o) × (furthest f ≡ furthest d)
  in_mode h d = rw h (d, refl)

  -- the skipping calls its rules as in NonAtomic
  blank_found : {n : Text} {r : Rule} {s : State} {o : Outcome} → rule_of g n ≡ Some r → (d : Does g classes (Run NonAtomicMode (Ident n)) s o) → (f : Does g classes (Run Between (Ident n)) s o) × (furthest f ≡ furthest d)
  blank_found h (other i b) = cc
  blank_found h (call {s = s} {o = o} {r = r} i d) =
      let y = in_mode (same_body_mode r) d in
      rw (← same_with_token r s o) (call i y.0, rw (same_gives r.type_of, y.1) refl)

  pub ran_blank : {n : Text} {r : Rule} {s : State} {o : Outcome} {p q : ℕ} → rule_of g n ≡ Some r → Ran g classes (Run NonAtomicMode (Ident n)) s o p q → Ran g classes (Run Between (Ident n)) s o p q
  ran_blank h x = let y = blank_found h x.found in record { found = y.0; noted = rw y.1 x.noted }
