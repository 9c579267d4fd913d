-- The names that failures record, and their numbers.
use Rattle.std.proofs.Common.{◌≡◌, refl, sym, ◌∙◌, ap, subst, ℕ, inl, inr, Bool, true, false, ◌&&◌, List, [], ◌∷◌, ◌++◌, None, Some, Option, arith, codes, length, nat_eq, if◌then◌else◌}
use Rattle.std.proofs.lemmas.Bool.{and_parts}
use Rattle.std.proofs.lemmas.Slice.Eq.{bytes_eq-Decides}
use Rattle.base_language.specs.Language.Expected.{expected_at, told}
use Rattle.base_language.specs.Language.Expression.{Grammar, Rule, last_place, rule_of}
use Rattle.base_language.specs.Language.FurthestFailure.{is_eoi}
use Rattle.base_language.specs.Language.Meaning as by
use Rattle.base_language.specs.Language.Meaning.{Does, Task, gives_token, seen_from}
use Rattle.base_language.specs.Language.State.{Classes, Failure, Outcome, State, Success}
use Rattle.base_language.specs.Language.Text.{Text}
use Rattle.matcher_sets.specs.Forms.{no_rule}
use Rattle.matcher_compiler.specs.Names.{HasNumber, HaveNumbers, number_in, or_end}
use Rattle.matcher_compiler.proofs.Calling.{no_place}
use Rattle.matcher_compiler.proofs.Naming.{Says, place_of_last, places_say}

module _ (g : Grammar) where
  of_rule : (n : Text) (i : ℕ) → last_place g n ≡ Some i → number_in g n ≡ i
  of_rule n i e = ap (λ o. or_end o (is_eoi n) (length g)) e

  of_end : (n : Text) → last_place g n ≡ None → is_eoi n ≡ true → number_in g n ≡ length g
  of_end n e f = ap (λ o. or_end o (is_eoi n) (length g)) e ∙ ap (λ b. or_end None b (length g)) f

  is_end : (n : Text) → is_eoi n ≡ true → n ≡ codes "EOI"
  is_end n e = (bytes_eq-Decides n (codes "EOI")).0 e

  -- names of one number are the same
  pub one_name : (n m : Text) → HasNumber g n → HasNumber g m → number_in g n ≡ number_in g m → n ≡ m
  one_name n m (inl (i, e)) (inl (j, f)) same =
      let k : i ≡ j = sym (of_rule n i e) ∙ (same ∙ of_rule m j f) in
      let x = (place_of_last g n i e).named no_rule in
      let y = (place_of_last g m i (f ∙ ap Some (sym k))).named no_rule in
      sym x ∙ y
  one_name n m (inl (i, e)) (inr (f, h)) same =
      let l = (place_of_last g n i e).within in
      let k : i ≡ length g = sym (of_rule n i e) ∙ (same ∙ of_end m f h) in
      absurd (omega (arith, l, k))
  one_name n m (inr (f, h)) (inl (i, e)) same =
      let l = (place_of_last g m i e).within in
      let k : i ≡ length g = sym (of_rule m i e) ∙ (sym same ∙ of_end n f h) in
      absurd (omega (arith, l, k))
  one_name n m (inr (f, h)) (inr (e, k)) same = is_end n h ∙ sym (is_end m k)

  rule_has : (n : Text) (r : Rule) → rule_of g n ≡ Some r → HasNumber g n
  rule_has n r h = go (last_place g n) refl
    where
      go : (o : Option ℕ) → last_place g n ≡ o → HasNumber g n
      go (Some i) e = inl (i, e)
      go None e =
          let none : rule_of g n ≡ None = subst (Says g n) e (places_say g n) in
          let z : Some r ≡ None = sym h ∙ none in cc

  both_have : (ns ms : List Text) → HaveNumbers g ns → HaveNumbers g ms → HaveNumbers g (ns ++ ms)
  both_have [] ms x y = y
  both_have (n ∷ ns) ms x y = (x.0, both_have ns ms x.1 y)

  told_have : (b : Bool) (n : Text) (place : ℕ) (s : State) (o : Outcome) (ns : List Text) → (b ≡ true → HasNumber g n) → HaveNumbers g ns
      → HaveNumbers g (told b n place s o ns)
  told_have b n place s (Success t us) ns x y = y
  told_have b n place s Failure ns x y = go (b && nat_eq s.position place) refl
    where
      go : (c : Bool) → (b && nat_eq s.position place) ≡ c → HaveNumbers g (if c then n ∷ [] else ns)
      go true e = (x (and_parts b (nat_eq s.position place) e).0, tt)
      go false e = y

  -- so have the names that are expected
  pub expected_have : {classes : Classes} {k : Task} {s : State} {o : Outcome} (place : ℕ) (d : Does g classes k s o)
      → HaveNumbers g (expected_at place d)
  expected_have place by.str = tt
  expected_have place by.insens = tt
  expected_have place by.range = tt
  expected_have place by.slice = tt
  expected_have place by.skip = tt
  expected_have place (by.call {m = m} {n = n} {s = s} {o = o} {r = r} h d) =
      told_have (seen_from m && gives_token r.type_of m) n place s o (expected_at place d) (λ e. rule_has n r h) (expected_have place d)
  expected_have place (by.other {m = m} {n = n} {s = s} {o = o} h b) =
      told_have (seen_from m && is_eoi n) n place s o [] (λ e. inr (no_place g n h, (and_parts (seen_from m) (is_eoi n) e).1)) tt
  expected_have place (by.pos_pred d) = expected_have place d
  expected_have place (by.neg_pred d) = tt
  expected_have place (by.push d) = expected_have place d
  expected_have place by.push_literal = tt
  expected_have place (by.tag d) = expected_have place d
  expected_have place (by.restore d) = expected_have place d
  expected_have place (by.seq a k b) = both_have _ _ (expected_have place a) (both_have _ _ (expected_have place k) (expected_have place b))
  expected_have place (by.seq_first a) = expected_have place a
  expected_have place (by.seq_second a k b) = both_have _ _ (expected_have place a) (both_have _ _ (expected_have place k) (expected_have place b))
  expected_have place (by.left a) = expected_have place a
  expected_have place (by.right a b) = both_have _ _ (expected_have place a) (expected_have place b)
  expected_have place (by.opt a) = expected_have place a
  expected_have place (by.opt_none a) = expected_have place a
  expected_have place (by.rep a b) = both_have _ _ (expected_have place a) (expected_have place b)
  expected_have place (by.rep_none a) = expected_have place a
  expected_have place (by.turn k a b) = both_have _ _ (expected_have place k) (both_have _ _ (expected_have place a) (expected_have place b))
  expected_have place (by.turn_none k a) = both_have _ _ (expected_have place k) (expected_have place a)
  expected_have place (by.rep_once d) = expected_have place d
  expected_have place (by.rep_exact d) = expected_have place d
  expected_have place (by.rep_min d) = expected_have place d
  expected_have place (by.rep_max d) = expected_have place d
  expected_have place (by.rep_min_max d) = expected_have place d
  expected_have place (by.skips d) = expected_have place d
  expected_have place by.atomic = tt
  expected_have place by.compound_atomic = tt
  expected_have place by.between = tt
