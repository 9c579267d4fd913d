-- The names that attempts record have numbers.
use Rattle.std.proofs.Common.{◌≡◌, ◌∙◌, ◌==◌, ℕ, suc, Bool, true, false, ◌&&◌, List, [], ◌∷◌, ◌++◌, None, Some, Option, if◌then◌else◌, inl, inr, refl, subst, sym}
use Rattle.std.specs.Prelude.{max, not}
use Rattle.std.proofs.lemmas.Bool.{and_parts}
use Rattle.base_language.specs.Language.Expression.{Grammar, Rule, last_place, rule_of}
use Rattle.base_language.specs.Language.FurthestFailure.{is_eoi}
use Rattle.base_language.specs.Language.Meaning as by
use Rattle.base_language.specs.Language.Meaning.{Does, Task, gives_token, seen_from}
use Rattle.base_language.specs.Language.State.{Classes, Outcome, State}
use Rattle.base_language.specs.Language.Text.{Text}
use Rattle.matcher_code.specs.Attempts.{Attempts, after_call, append, attempts_at, count, has_matched, is_recorded, no_attempt, place_from, told_attempts, with_rule}
use Rattle.matcher_compiler.specs.Names.{HasNumber, HaveNumbers}
use Rattle.matcher_compiler.proofs.Calling.{no_place}
use Rattle.matcher_compiler.proofs.Naming.{Says, places_say}

module _ (g : Grammar) where
  -- the rules that are expected, and those that are not
  abbrev pub AllHave : Attempts Text → Type 0
  AllHave a = HaveNumbers g a.positives × HaveNumbers g a.negatives

  rule_has : (n : Text) (r : Rule) → rule_of g n ≡ Some r → HasNumber g n
  rule_has n r h = go (last_place g n) refl
    where
      go : (o : Option ℕ) → last_place g n ≡ o → HasNumber g n
      go (Some i) e = inl (i, e)
      go None e =
          let none : rule_of g n ≡ None = subst (Says g n) e (places_say g n) in
          let z : Some r ≡ None = sym h ∙ none in cc

  both_have : (ns ms : List Text) → HaveNumbers g ns → HaveNumbers g ms → HaveNumbers g (ns ++ ms)
  both_have [] ms x y = y
  both_have (n ∷ ns) ms x y = (x.0, both_have ns ms x.1 y)

  two : (a b : Attempts Text) → AllHave a → AllHave b → AllHave (append a b)
  two a b x y = (both_have a.positives b.positives x.0 y.0, both_have a.negatives b.negatives x.1 y.1)

  three : (a b c : Attempts Text) → AllHave a → AllHave b → AllHave c → AllHave (append a (append b c))
  three a b c x y z = two a (append b c) x (two b c y z)

  stands : (c below : Bool) (n : Text) (now : Attempts Text) (f : ℕ) → HasNumber g n → AllHave now
      → AllHave (record (if c then with_rule below n no_attempt else now) { furthest = f })
  stands true true n now f x y = (tt, (x, tt))
  stands true false n now f x y = ((x, tt), tt)
  stands false below n now f x y = y

  called : (t below : Bool) (n : Text) (place : ℕ) (s : State) (o : Outcome) (now : Attempts Text) → (t ≡ true → HasNumber g n) → AllHave now
      → AllHave (told_attempts t below n place s o now)
  called false below n place s o now x y = y
  called true below n place s o now x y = go (is_recorded below (has_matched o))
    where
      go : (b : Bool) → AllHave (if b then after_call below place n s.position no_attempt now else now)
      go true = stands (s.position == place && not (count now == suc (count {A = Text} no_attempt))) below n now (max now.furthest (place_from place s.position)) (x refl) y
      go false = y

  pub attempts_have : {classes : Classes} {k : Task} {s : State} {o : Outcome} (below : Bool) (p : ℕ) (d : Does g classes k s o) → AllHave (attempts_at below p d)
  attempts_have below p by.str = (tt, tt)
  attempts_have below p by.insens = (tt, tt)
  attempts_have below p by.range = (tt, tt)
  attempts_have below p by.slice = (tt, tt)
  attempts_have below p by.skip = (tt, tt)
  attempts_have below p (by.call {m = m} {n = n} {s = s} {o = o} {r = r} h d) =
      called (gives_token r.type_of m) below n p s o (attempts_at below p d) (λ e. rule_has n r h) (attempts_have below p d)
  attempts_have below p (by.other {m = m} {n = n} {s = s} {o = o} h b) =
      called (seen_from m && is_eoi n) below n p s o no_attempt (λ e. inr (no_place g n h, (and_parts (seen_from m) (is_eoi n) e).1)) (tt, tt)
  attempts_have below p (by.pos_pred d) = attempts_have below p d
  attempts_have below p (by.neg_pred d) = attempts_have (not below) p d
  attempts_have below p (by.push d) = attempts_have below p d
  attempts_have below p by.push_literal = (tt, tt)
  attempts_have below p (by.tag d) = attempts_have below p d
  attempts_have below p (by.restore d) = attempts_have below p d
  attempts_have below p (by.seq a k b) = three (attempts_at below p a) (attempts_at below p k) (attempts_at below p b) (attempts_have below p a) (attempts_have below p k) (attempts_have below p b)
  attempts_have below p (by.seq_first a) = attempts_have below p a
  attempts_have below p (by.seq_second a k b) = three (attempts_at below p a) (attempts_at below p k) (attempts_at below p b) (attempts_have below p a) (attempts_have below p k) (attempts_have below p b)
  attempts_have below p (by.left a) = attempts_have below p a
  attempts_have below p (by.right a b) = two (attempts_at below p a) (attempts_at below p b) (attempts_have below p a) (attempts_have below p b)
  attempts_have below p (by.opt a) = attempts_have below p a
  attempts_have below p (by.opt_none a) = attempts_have below p a
  attempts_have below p (by.rep a b) = two (attempts_at below p a) (attempts_at below p b) (attempts_have below p a) (attempts_have below p b)
  attempts_have below p (by.rep_none a) = attempts_have below p a
  attempts_have below p (by.turn k a b) = three (attempts_at below p k) (attempts_at below p a) (attempts_at below p b) (attempts_have below p k) (attempts_have below p a) (attempts_have below p b)
  attempts_have below p (by.turn_none k a) = two (attempts_at below p k) (attempts_at below p a) (attempts_have below p k) (attempts_have below p a)
  attempts_have below p (by.rep_once d) = attempts_have below p d
  attempts_have below p (by.rep_exact d) = attempts_have below p d
  attempts_have below p (by.rep_min d) = attempts_have below p d
  attempts_have below p (by.rep_max d) = attempts_have below p d
  attempts_have below p (by.rep_min_max d) = attempts_have below p d
  attempts_have below p (by.skips d) = attempts_have below p d
  attempts_have below p by.atomic = (tt, tt)
  attempts_have below p by.compound_atomic = (tt, tt)
  attempts_have below p by.between = (tt, tt)
