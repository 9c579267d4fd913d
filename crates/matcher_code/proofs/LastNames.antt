-- The last names of the paths of a failure are the names that are expected.
use Rattle.std.proofs.Common.{◌≡◌, ◌∙◌, refl, ap, ap₂, ℕ, List, [], ◌∷◌, ◌++◌, Bool, true, false, if◌then◌else◌, ◌&&◌, map, nat_eq}
use Rattle.std.proofs.lemmas.List.{map-append}
use Rattle.base_language.specs.Language.Text.{Text}
use Rattle.base_language.specs.Language.Expression.{Grammar}
use Rattle.base_language.specs.Language.State.{State, Outcome, Success, Failure, Classes}
use Rattle.base_language.specs.Language.Meaning.{Does, Task, str, insens, range, slice, skip, call, other, pos_pred, neg_pred, push, restore, seq, seq_first, seq_second, left, right, opt, opt_none, rep_none, turn, turn_none, rep_exact, rep_max, rep_min_max, skips, atomic, compound_atomic, between, gives_token, seen_from, rep, rep_once, rep_min, push_literal, tag}
use Rattle.base_language.specs.Language.FurthestFailure.{is_eoi}
use Rattle.base_language.specs.Language.Expected.{expected_at, told}
use Rattle.matcher_code.specs.Paths.{Path, last_name, paths_at, told_paths, within_call}

-- each path has a call
abbrev HaveCalls : List Path → Type 0
HaveCalls [] = Unit {0}
HaveCalls ([] ∷ ps) = ⊥
HaveCalls ((c ∷ p) ∷ ps) = HaveCalls ps

both_have : (ps qs : List Path) → HaveCalls ps → HaveCalls qs → HaveCalls (ps ++ qs)
both_have [] qs h k = k
both_have ([] ∷ ps) qs h k = absurd h
both_have ((c ∷ p) ∷ ps) qs h k = both_have ps qs h k

within_have : (n : Text) (s : State) (ps : List Path) → HaveCalls (within_call n s ps)
within_have n s [] = tt
within_have n s (p ∷ ps) = within_have n s ps

told_have : (b : Bool) (n : Text) (place : ℕ) (s : State) (o : Outcome) (ps : List Path) → HaveCalls ps → HaveCalls (told_paths b n place s o ps)
told_have false n place s o ps h = h
told_have true n place s (Success t us) ps h = within_have n s ps
told_have true n place s Failure ps h = go (nat_eq s.position place)
  where
    go : (v : Bool) → HaveCalls (if v then ((n, s.position) ∷ []) ∷ [] else within_call n s ps)
    go true = tt
    go false = within_have n s ps

-- a call around paths keeps their last names
within_names : (n : Text) (s : State) (ps : List Path) → HaveCalls ps → map last_name (within_call n s ps) ≡ map last_name ps
within_names n s [] h = refl
within_names n s ([] ∷ ps) h = absurd h
within_names n s ((c ∷ p) ∷ ps) h = ap (λ ns. last_name (c ∷ p) ∷ ns) (within_names n s ps h)

told_names : (b : Bool) (n : Text) (place : ℕ) (s : State) (o : Outcome) (ps : List Path) (ns : List Text) → HaveCalls ps → map last_name ps ≡ ns
    → map last_name (told_paths b n place s o ps) ≡ told b n place s o ns
told_names false n place s (Success t us) ps ns h e = e
told_names false n place s Failure ps ns h e = e
told_names true n place s (Success t us) ps ns h e = within_names n s ps h ∙ e
told_names true n place s Failure ps ns h e = go (nat_eq s.position place)
  where
    go : (v : Bool) → map last_name (if v then ((n, s.position) ∷ []) ∷ [] else within_call n s ps) ≡ (if v then n ∷ [] else ns)
    go true = refl
    go false = within_names n s ps h ∙ e

two : (ps qs : List Path) {ms ns : List Text} → map last_name ps ≡ ms → map last_name qs ≡ ns → map last_name (ps ++ qs) ≡ ms ++ ns
two ps qs e f = map-append last_name ps qs ∙ ap₂ (λ xs ys. xs ++ ys) e f

module _ {g : Grammar} {classes : Classes} (place : ℕ) where
  have : {k : Task} {s : State} {o : Outcome} (d : Does g classes k s o) → HaveCalls (paths_at place d)
  have str = tt
  have insens = tt
  have range = tt
  have slice = tt
  have skip = tt
  have (call {m = m} {n = n} {s = s} {o = o} {r = r} h d) = told_have (seen_from m && gives_token r.type_of m) n place s o (paths_at place d) (have d)
  have (other {m = m} {n = n} {s = s} {o = o} h b) = told_have (seen_from m && is_eoi n) n place s o [] tt
  have (pos_pred d) = have d
  have (neg_pred d) = tt
  have (push d) = have d
  have push_literal = tt
  have (tag d) = have d
  have (restore d) = have d
  have (seq a k b) = both_have (paths_at place a) (paths_at place k ++ paths_at place b) (have a) (both_have (paths_at place k) (paths_at place b) (have k) (have b))
  have (seq_first a) = have a
  have (seq_second a k b) = both_have (paths_at place a) (paths_at place k ++ paths_at place b) (have a) (both_have (paths_at place k) (paths_at place b) (have k) (have b))
  have (left a) = have a
  have (right a b) = both_have (paths_at place a) (paths_at place b) (have a) (have b)
  have (opt a) = have a
  have (opt_none a) = have a
  have (rep a b) = both_have (paths_at place a) (paths_at place b) (have a) (have b)
  have (rep_none a) = have a
  have (turn k a b) = both_have (paths_at place k) (paths_at place a ++ paths_at place b) (have k) (both_have (paths_at place a) (paths_at place b) (have a) (have b))
  have (turn_none k a) = both_have (paths_at place k) (paths_at place a) (have k) (have a)
  have (rep_once d) = have d
  have (rep_exact d) = have d
  have (rep_min d) = have d
  have (rep_max d) = have d
  have (rep_min_max d) = have d
  have (skips d) = have d
  have atomic = tt
  have compound_atomic = tt
  have between = tt

  pub last_names : {k : Task} {s : State} {o : Outcome} (d : Does g classes k s o) → map last_name (paths_at place d) ≡ expected_at place d
  last_names str = refl
  last_names insens = refl
  last_names range = refl
  last_names slice = refl
  last_names skip = refl
  last_names (call {m = m} {n = n} {s = s} {o = o} {r = r} h d) =
      told_names (seen_from m && gives_token r.type_of m) n place s o (paths_at place d) (expected_at place d) (have d) (last_names d)
  last_names (other {m = m} {n = n} {s = s} {o = o} h b) = told_names (seen_from m && is_eoi n) n place s o [] [] tt refl
  last_names (pos_pred d) = last_names d
  last_names (neg_pred d) = refl
  last_names (push d) = last_names d
  last_names push_literal = refl
  last_names (tag d) = last_names d
  last_names (restore d) = last_names d
  last_names (seq a k b) = two (paths_at place a) (paths_at place k ++ paths_at place b) (last_names a) (two (paths_at place k) (paths_at place b) (last_names k) (last_names b))
  last_names (seq_first a) = last_names a
  last_names (seq_second a k b) = two (paths_at place a) (paths_at place k ++ paths_at place b) (last_names a) (two (paths_at place k) (paths_at place b) (last_names k) (last_names b))
  last_names (left a) = last_names a
  last_names (right a b) = two (paths_at place a) (paths_at place b) (last_names a) (last_names b)
  last_names (opt a) = last_names a
  last_names (opt_none a) = last_names a
  last_names (rep a b) = two (paths_at place a) (paths_at place b) (last_names a) (last_names b)
  last_names (rep_none a) = last_names a
  last_names (turn k a b) = two (paths_at place k) (paths_at place a ++ paths_at place b) (last_names k) (two (paths_at place a) (paths_at place b) (last_names a) (last_names b))
  last_names (turn_none k a) = two (paths_at place k) (paths_at place a) (last_names k) (last_names a)
  last_names (rep_once d) = last_names d
  last_names (rep_exact d) = last_names d
  last_names (rep_min d) = last_names d
  last_names (rep_max d) = last_names d
  last_names (rep_min_max d) = last_names d
  last_names (skips d) = last_names d
  last_names atomic = refl
  last_names compound_atomic = refl
  last_names between = refl
