-- Characters that forms take alone.
use Rattle.std.proofs.Common.{◌≡◌, refl, sym, ◌∙◌, ap, subst, ℕ, ◌<◌, ◌&&◌, List, [], ◌∷◌, Bool, true, false, if◌then◌else◌}
use Rattle.std.specs.Prelude.{Err, IfOk, IfSome, None, Ok, Option, Result, Some, not}
use Rattle.std.specs.declared.alloc.Global.{Global}
use Rattle.std.specs.declared.vec.Vec.{Vec}
use Rattle.base_language.specs.Language.Expression.{Choice, Expression, NegPred, Opt, Seq}
use Rattle.base_language.specs.Language.Matching.{starts_in}
use Rattle.base_language.specs.Language.Meaning as by
use Rattle.base_language.specs.Language.Meaning.{Does, Run, Task}
use Rattle.base_language.specs.Language.State.{Failure, Mode, None', Success, moved}
use Rattle.base_language.specs.Language.Text.{Text}
use Rattle.matcher_code.specs.Lists.{is_covered}
use Rattle.matcher_code.specs.Laid.{Hits, IsSilent, Misses}
use Rattle.matcher_code.proofs.Characters.{not_and_then}
use Rattle.matcher_program.specs.declared.form.Form.{Form}
use Rattle.matcher_program.specs.declared.form.Program.{Program}
use Rattle.matcher_sets.specs.declared.first_sets.FirstSet.{FirstSet}
use Rattle.matcher_sets.specs.declared.modes.Atomicity.{Atomicity}
use Rattle.matcher_sets.specs.Differences.{HasRanges}
use Rattle.matcher_sets.specs.Forms.{grammar_in, said}
use Rattle.matcher_sets.specs.FirstSets.{HasFirstSet}
use Rattle.matcher_sets.specs.Modes.{mode_of}
use Rattle.matcher_sets.specs.Ranges.{Covers}
use Rattle.matcher_sets.proofs.Heading.{fails_outside}
use Rattle.matcher_sets.proofs.Recording.{three_silent, two_silent}
use Rattle.matcher_compiler.specs.Plans.{FailsBefore, IsTightIn, TakesOneIn}

no_first : (a b : Bool) → (not a && b) ≡ true → a ≡ false
no_first true b e = cc
no_first false b e = refl

second : (a b : Bool) → (not a && b) ≡ true → b ≡ true
second true b e = cc
second false b e = e

misses_of : (ranges : List (ℕ × ℕ)) (c : ℕ) (cs u : Text) → u ≡ c ∷ cs → c < 1114112 → is_covered ranges c ≡ false → Misses ranges u
misses_of ranges c cs u e l k = subst (Misses ranges) (sym e) (l, k)

-- a form fails before a character that its FIRST set does not have
pub fails_before : (p : Program) (m : Atomicity) (form : Form) (h : FirstSet) (ranges rest : List (ℕ × ℕ))
    → HasFirstSet p (mode_of m) (said p form) h → h.empty ≡ false → h.noted ≡ false
    → Covers rest (λ c. not (is_covered h.ranges.items c) && is_covered ranges c)
    → FailsBefore p (Run (mode_of m) (said p form)) ranges rest
fails_before p m form h ranges rest has q n covers classes fits s hit = go s.rest refl hit
  where
    go : (u : Text) → s.rest ≡ u → Hits rest u
        → Hits ranges s.rest × ((d : Does (grammar_in p) classes (Run (mode_of m) (said p form)) s Failure) × IsSilent d)
    go [] e z = absurd z
    go (c ∷ cs) e z =
        let both : (not (is_covered h.ranges.items c) && is_covered ranges c) ≡ true = sym (covers c z.0) ∙ z.1 in
        let free : is_covered h.ranges.items c ≡ false = no_first (is_covered h.ranges.items c) (is_covered ranges c) both in
        let taken : is_covered ranges c ≡ true = second (is_covered h.ranges.items c) (is_covered ranges c) both in
        let x = fails_outside p (mode_of m) (said p form) h has q classes fits s (misses_of h.ranges.items c cs s.rest e z.0 free) in (
          subst (Hits ranges) (sym e) (z.0, taken),
          (
            x.0,
            λ place. x.2 n place,
          ),
        )

-- a form takes a character of its ranges
ranges_take : (p : Program) (m : Atomicity) (form : Form) (ranges : List (ℕ × ℕ)) → HasRanges p form ranges
    → TakesOneIn p (Run (mode_of m) (said p form)) ranges
ranges_take p m form ranges y classes fits s hit = go s.rest refl hit
  where
    go : (u : Text) → s.rest ≡ u → Hits ranges u
        → (d : Does (grammar_in p) classes (Run (mode_of m) (said p form)) s (Success (moved 1 s) None')) × IsSilent d
    go [] e z = absurd z
    go (c ∷ cs) e z =
        let w = y classes fits in
        let k : starts_in w.characters s.rest ≡ true = ap (starts_in w.characters) e ∙ (sym (w.covers c z.0) ∙ z.1) in
        subst (λ b. (d : Does (grammar_in p) classes (Run (mode_of m) (said p form)) s (if b then Success (moved 1 s) None' else Failure)) × IsSilent d) k (w.holds m s)

-- so it does where it comes behind a refusal of another, or behind an option, and as a second alternative
refusal_takes : (p : Program) (m : Atomicity) (a b : Expression) (ranges rest : List (ℕ × ℕ)) → IsTightIn p m
    → TakesOneIn p (Run (mode_of m) b) ranges → FailsBefore p (Run (mode_of m) a) ranges rest
    → TakesOneIn p (Run (mode_of m) (Seq (NegPred a) b)) rest
refusal_takes p m a b ranges rest tight takes fails classes fits s hit =
    let x = fails classes fits s hit in
    not_and_then (grammar_in p) classes (mode_of m) a b s (moved 1 s) false true (tight classes) x.1 (takes classes fits s x.0)

option_takes : (p : Program) (m : Atomicity) (a b : Expression) (ranges rest : List (ℕ × ℕ)) → IsTightIn p m
    → TakesOneIn p (Run (mode_of m) b) ranges → FailsBefore p (Run (mode_of m) a) ranges rest
    → TakesOneIn p (Run (mode_of m) (Seq (Opt a) b)) rest
option_takes p m a b ranges rest tight takes fails classes fits s hit =
    let x = fails classes fits s hit in
    let k = tight classes s in
    let y = takes classes fits s x.0 in
    (by.seq (by.opt_none x.1.0) k.0 y.0, three_silent x.1.1 k.1 y.1)

second_takes : (p : Program) (m : Atomicity) (a b : Expression) (ranges rest : List (ℕ × ℕ))
    → TakesOneIn p (Run (mode_of m) b) ranges → FailsBefore p (Run (mode_of m) a) ranges rest
    → TakesOneIn p (Run (mode_of m) (Choice a b)) rest
second_takes p m a b ranges rest takes fails classes fits s hit =
    let x = fails classes fits s hit in
    let y = takes classes fits s x.0 in
    (by.right x.1.0 y.0, two_silent x.1.1 y.1)

if_taken : {E : Type 0} (p : Program) (k q : Task) (ranges : List (ℕ × ℕ)) (r : Result (Option (Vec (ℕ × ℕ) Global)) E)
    → ((rest : List (ℕ × ℕ)) → FailsBefore p k ranges rest → TakesOneIn p q rest)
    → IfOk r (λ made. IfSome made (λ rest. FailsBefore p k ranges rest.items))
    → IfOk r (λ made. IfSome made (λ rest. TakesOneIn p q rest.items))
if_taken p k q ranges (Ok (Some x)) f h = f x.items h
if_taken p k q ranges (Ok None) f h = tt
if_taken p k q ranges (Err x) f h = tt

module _ {E : Type 0} (p : Program) (m : Atomicity) (stop : Expression) (form : Form) (ranges : List (ℕ × ℕ)) (r : Result (Option (Vec (ℕ × ℕ) Global)) E)
    (fails : IfOk r (λ made. IfSome made (λ rest. FailsBefore p (Run (mode_of m) stop) ranges rest.items))) where
  pub unstopped : IsTightIn p m → HasRanges p form ranges
      → IfOk r (λ made. IfSome made (λ rest. TakesOneIn p (Run (mode_of m) (Seq (NegPred stop) (said p form))) rest.items))
  unstopped tight has = if_taken p (Run (mode_of m) stop) (Run (mode_of m) (Seq (NegPred stop) (said p form))) ranges r
      (λ rest f. refusal_takes p m stop (said p form) ranges rest tight (ranges_take p m form ranges has) f) fails

  pub missing : IsTightIn p m → HasRanges p form ranges
      → IfOk r (λ made. IfSome made (λ rest. TakesOneIn p (Run (mode_of m) (Seq (Opt stop) (said p form))) rest.items))
  missing tight has = if_taken p (Run (mode_of m) stop) (Run (mode_of m) (Seq (Opt stop) (said p form))) ranges r
      (λ rest f. option_takes p m stop (said p form) ranges rest tight (ranges_take p m form ranges has) f) fails

  pub fallen : TakesOneIn p (Run (mode_of m) (said p form)) ranges
      → IfOk r (λ made. IfSome made (λ rest. TakesOneIn p (Run (mode_of m) (Choice stop (said p form))) rest.items))
  fallen takes = if_taken p (Run (mode_of m) stop) (Run (mode_of m) (Choice stop (said p form))) ranges r
      (λ rest f. second_takes p m stop (said p form) ranges rest takes f) fails

-- a choice takes what its first alternative takes
pub first_takes : (p : Program) (m : Mode) (a b : Expression) (ranges : List (ℕ × ℕ)) → TakesOneIn p (Run m a) ranges → TakesOneIn p (Run m (Choice a b)) ranges
first_takes p m a b ranges x classes fits s hit = let y = x classes fits s hit in (by.left y.0, y.1)
