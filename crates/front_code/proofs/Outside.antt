-- Expressions that fail where no character of some ranges is next.
use Rattle.std.proofs.Common.{◌≡◌, refl, sym, ◌∙◌, ap, ap₂, subst, ℕ, List, [], ◌∷◌, ◌++◌, Bool, true, false, ◌||◌, ◌&&◌, codes, length, nat_eq, arith, if◌then◌else◌}
use Rattle.std.proofs.Math.Bool.{and-false}
use Rattle.std.specs.Prelude.{max}
use Rattle.base_language.specs.Language.Text.{Text}
use Rattle.base_language.specs.Language.Expression.{Choice, Expression, Ident, NegPred, RepOnce, Seq, Str}
use Rattle.base_language.specs.Language.FurthestFailure.{furthest, place_of}
use Rattle.base_language.specs.Language.Matching.{begins, starts_in, text_outcome}
use Rattle.base_language.specs.Language.Meaning as by
use Rattle.base_language.specs.Language.Meaning.{Does, Run, Task, body_mode, gives_token, seen_from}
use Rattle.base_language.specs.Language.State.{Classes, Failure, IsRuleMode, Mode, None', Outcome, State, Success, moved}
use Rattle.base_language.specs.Pieces.MetaRules.{name_of}
use Rattle.base_language.specs.declared.grammar.Rule.{Rule}
use Rattle.front_grammar.specs.MetaGrammar.{body_of, meta_grammar, rule_at, type_of_rule}
use Rattle.front_grammar.specs.Rules.{is_defined}
use Rattle.front_grammar.proofs.Lookup.{defined_rule}
use Rattle.matcher_code.specs.Failures.{both, unnamed}
use Rattle.matcher_code.specs.Lists.{is_covered}
use Rattle.matcher_code.specs.Laid.{FailsOutside, Hits, IsSilent, IsSilentUnless, IsTight, Misses, TakesOne}
use Rattle.matcher_code.specs.Steps.{one_place}
use Rattle.front_code.proofs.Characters.{TakesCharacter, apart, are_apart, covered_either, one_any}
use Rattle.front_code.proofs.Leaves.{covers_all, silent_failure}

or_false : (a b : Bool) → (a || b) ≡ false → (a ≡ false) × (b ≡ false)
or_false false b h = (refl, h)
or_false true b h = cc

misses_first : (r q : List (ℕ × ℕ)) (cs : Text) → Misses (r ++ q) cs → Misses r cs
misses_first r q [] h = tt
misses_first r q (c ∷ cs) h = (h.0, (or_false (is_covered r c) (is_covered q c) (sym (covered_either r q c) ∙ h.1)).0)

misses_second : (r q : List (ℕ × ℕ)) (cs : Text) → Misses (r ++ q) cs → Misses q cs
misses_second r q [] h = tt
misses_second r q (c ∷ cs) h = (h.0, (or_false (is_covered r c) (is_covered q c) (sym (covered_either r q c) ∙ h.1)).1)

two_places : (a b : Bool) (s : State) → max (place_of a s Failure) (place_of b s Failure) ≡ place_of (a || b) s Failure
two_places true true s = omega arith
two_places true false s = omega arith
two_places false true s = omega arith
two_places false false s = omega arith

module _ (classes : Classes) where
  abbrev Fails : Task → List (ℕ × ℕ) → Bool → Type 0
  Fails k ranges noted = FailsOutside meta_grammar classes k ranges noted

  -- a failure without a record
  silently : (k : Task) (s : State) → (x : (d : Does meta_grammar classes k s Failure) × IsSilent d)
      → (d : Does meta_grammar classes k s Failure) × (furthest d ≡ place_of false s Failure) × IsSilentUnless false d
  silently k s x = (x.0, ap (λ f. f.furthest) (x.1 (one_place 0)), λ z. x.1)

  pub outside_set : {m : Mode} {e : Expression} {ranges : List (ℕ × ℕ)} → TakesCharacter classes m e ranges → Fails (Run m e) ranges false
  outside_set {m} {e} {ranges} x s h =
      silently (Run m e) s (subst (λ b. (d : Does meta_grammar classes (Run m e) s (if b then Success (moved 1 s) None' else Failure)) × IsSilent d) (none s.rest h) (x.takes s))
    where
      none : (cs : Text) → Misses ranges cs → starts_in x.set cs ≡ false
      none [] h = refl
      none (c ∷ cs) h = sym (x.covers c h.0) ∙ h.1

  pub outside_text : {m : Mode} {c : ℕ} {t : Text} → Fails (Run m (Str (c ∷ t))) ((c, c) ∷ []) false
  outside_text {m} {c} {t} s h =
      silently (Run m (Str (c ∷ t))) s
      (subst (λ o. (d : Does meta_grammar classes (Run m (Str (c ∷ t))) s o) × IsSilent d) (ap (λ b. if b then Success (moved (length (c ∷ t)) s) None' else Failure) (none s.rest h)) (by.str, λ place. refl))
    where
      other : (d : ℕ) → is_covered ((c, c) ∷ []) d ≡ false → nat_eq c d ≡ false
      other d h = grind arith

      none : (cs : Text) → Misses ((c, c) ∷ []) cs → begins nat_eq (c ∷ t) cs ≡ false
      none [] h = refl
      none (d ∷ cs) h = ap (λ b. b && begins nat_eq t cs) (other d h.1)

  pub outside_choice : {m : Mode} {a b : Expression} (r q : List (ℕ × ℕ)) (i j : Bool) → Fails (Run m a) r i → Fails (Run m b) q j
      → Fails (Run m (Choice a b)) (r ++ q) (i || j)
  outside_choice r q i j x y s h =
      let u = x s (misses_first r q s.rest h) in
      let v = y s (misses_second r q s.rest h) in (
        by.right u.0 v.0,
        ap₂ max u.1 v.1 ∙ two_places i j s,
        λ z place. let k = or_false i j z in ap₂ both (u.2 k.0 place) (v.2 k.1 place),
      )

  pub outside_seq : {m : Mode} {a b : Expression} (r : List (ℕ × ℕ)) (i : Bool) → Fails (Run m a) r i → Fails (Run m (Seq a b)) r i
  outside_seq r i x s h = let u = x s h in (by.seq_first u.0, u.1, u.2)

  -- a call that gives a token, and counts
  pub outside_call : {m b : Mode} (q : List (ℕ × ℕ)) (i : Bool) (r : Rule) → is_defined r ≡ true → body_mode (rule_at r) m ≡ b
      → (seen_from m && gives_token (type_of_rule r) m) ≡ true → Fails (Run b (body_of r)) q i → Fails (Run m (Ident (name_of r))) q true
  outside_call {m} {b} q i r d e h x s k =
      let u = subst (λ z. Fails (Run z (body_of r)) q i) (sym e) x s k in (
        by.call {m = m} (defined_rule r d) u.0,
        ap₂ max (ap (λ z. place_of z s Failure) h) u.1 ∙ two_places true i s,
        λ z. cc,
      )

  -- a call that gives no token
  pub outside_sub : {m b : Mode} (q : List (ℕ × ℕ)) (r : Rule) → is_defined r ≡ true → body_mode (rule_at r) m ≡ b
      → gives_token (type_of_rule r) m ≡ false → Fails (Run b (body_of r)) q false → Fails (Run m (Ident (name_of r))) q false
  outside_sub {m} {b} q r d e h x s k =
      let u = subst (λ z. Fails (Run z (body_of r)) q false) (sym e) x s k in
      let c = silent_failure meta_grammar classes m (name_of r) s (rule_at r) (defined_rule r d) h (u.0, u.2 refl) in
      silently (Run m (Ident (name_of r))) s c

  hits_miss : (r q : List (ℕ × ℕ)) (cs : Text) → are_apart r q ≡ true → Hits r cs → Misses q cs
  hits_miss r q [] a h = absurd h
  hits_miss r q (c ∷ cs) a h = (h.0, apart r q c a h.1)

  abbrev Takes : Task → List (ℕ × ℕ) → Type 0
  Takes k ranges = TakesOne meta_grammar classes k ranges

  -- expressions that take one character of some ranges, and maybe others elsewhere
  pub takes_set : {m : Mode} {e : Expression} {r : List (ℕ × ℕ)} → TakesCharacter classes m e r → Takes (Run m e) r
  takes_set {m} {e} {r} x s h =
      subst (λ b. (d : Does meta_grammar classes (Run m e) s (if b then Success (moved 1 s) None' else Failure)) × IsSilent d) (some s.rest h) (x.takes s)
    where
      some : (cs : Text) → Hits r cs → starts_in x.set cs ≡ true
      some [] h = absurd h
      some (c ∷ cs) h = sym (x.covers c h.0) ∙ h.1

  -- any character but those with which an expression begins
  pub takes_other : {m : Mode} {a : Expression} (r q : List (ℕ × ℕ)) → IsTight meta_grammar classes m → IsRuleMode m → Fails (Run m a) q false
      → are_apart r q ≡ true → Takes (Run m (Seq (NegPred a) (Ident (codes "ANY")))) r
  takes_other {m} {a} r q t i x p s h =
      let u = x s (hits_miss r q s.rest p h) in
      let v = takes_set (one_any classes i) s (anything s.rest h) in
      let k = t s in
      (by.seq (by.neg_pred u.0) k.0 v.0, λ place. ap₂ both (ap unnamed (u.2 refl place)) (ap₂ both (k.1 place) (v.1 place)))
    where
      anything : (cs : Text) → Hits r cs → Hits ((0, 1114111) ∷ []) cs
      anything [] h = absurd h
      anything (c ∷ cs) h = (h.0, covers_all c h.0)

  -- a call that gives no token, of a rule whose body notes its failure
  pub outside_silent : {m b : Mode} (q : List (ℕ × ℕ)) (r : Rule) → is_defined r ≡ true → body_mode (rule_at r) m ≡ b
      → gives_token (type_of_rule r) m ≡ false → Fails (Run b (body_of r)) q true → Fails (Run m (Ident (name_of r))) q true
  outside_silent {m} {b} q r d e h x s k =
      let u = subst (λ z. Fails (Run z (body_of r)) q true) (sym e) x s k in
      let z : (seen_from m && gives_token (type_of_rule r) m) ≡ false = ap (λ b. seen_from m && b) h ∙ and-false (seen_from m) in
      (by.call {m = m} (defined_rule r d) u.0, ap₂ max (ap (λ z. place_of z s Failure) z) u.1 ∙ two_places false true s, λ z. cc)

  pub outside_some : {m : Mode} {e : Expression} (r : List (ℕ × ℕ)) (i : Bool) → Fails (Run m e) r i → Fails (Run m (RepOnce e)) r i
  outside_some r i x s h = let u = x s h in (by.rep_once (by.seq_first u.0), u.1, u.2)

  -- behind a text that must not be there
  pub outside_not : {m : Mode} {t : Text} {b : Expression} (r : List (ℕ × ℕ)) → IsTight meta_grammar classes m → Fails (Run m b) r false
      → Fails (Run m (Seq (NegPred (Str t)) b)) r false
  outside_not {m} {t} {b} r tight x s h = silently (Run m (Seq (NegPred (Str t)) b)) s (go (text_outcome nat_eq t s) (by.str, λ place. refl))
    where
      go : (o : Outcome) → (d : Does meta_grammar classes (Run m (Str t)) s o) × IsSilent d
          → (d : Does meta_grammar classes (Run m (Seq (NegPred (Str t)) b)) s Failure) × IsSilent d
      go (Success u us) y = (by.seq_first (by.neg_pred y.0), λ place. ap unnamed (y.1 place))
      go Failure y =
          let k = tight s in
          let v = x s h in
          (by.seq_second (by.neg_pred y.0) k.0 v.0, λ place. ap₂ both (ap unnamed (y.1 place)) (ap₂ both (k.1 place) (v.2 refl place)))
