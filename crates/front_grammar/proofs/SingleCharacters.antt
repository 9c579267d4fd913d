-- What fails by the next character, among characters, texts and calls of silent rules.
use Rattle.std.proofs.Common.{◌≡◌, refl, subst, ℕ, zero, suc, max, [], ◌∷◌, Bool, true, false, not, ◌&&◌, Option, Some, None, arith, if◌then◌else◌, nat_eq}
use Rattle.base_language.specs.Language.Text.{Text}
use Rattle.base_language.specs.Language.Expression.{Expression, Str, Range, Ident, Choice, RuleType, Silent, rule_of}
use Rattle.base_language.specs.Language.State.{Classes, State, Mode, Outcome, Failure}
use Rattle.base_language.specs.Language.Matching.{range_set}
use Rattle.base_language.specs.Language.Meaning.{Run, body_mode, gives_token, seen_from}
use Rattle.base_language.specs.Language.Ran.{Ran}
use Rattle.base_language.specs.declared.grammar.Rule.{Rule}
use Rattle.base_language.proofs.Steps.{ran_str, ran_range, ran_right, ran_call}
use Rattle.base_language.proofs.Basics.{first_of_both, second_of_both}
use Rattle.front_grammar.specs.MetaGrammar.{meta_grammar, rule_at, type_of_rule, body_of}
use Rattle.front_grammar.specs.Rules.{is_defined}
use Rattle.front_grammar.proofs.Lookup.{defined_rule}
use Rattle.front_grammar.proofs.Naming.{rule_named, name_of_named}

-- whether an expression fails by the character c, if what it calls does
abbrev pub fails_by : (Text → Bool) → ℕ → Expression → Bool
fails_by called c (Str []) = false
fails_by called c (Str (x ∷ t)) = not (nat_eq x c)
fails_by called c (Range a b) = not (range_set a b c)
fails_by called c (Ident n) = called n
fails_by called c (Choice a b) = fails_by called c a && fails_by called c b
fails_by called c _ = false

abbrev pub is_silent : RuleType → Bool
is_silent Silent = true
is_silent _ = false

abbrev pub silently : (Expression → Bool) → Option Rule → Bool
silently f None = false
silently f (Some r) = (is_defined r && is_silent (type_of_rule r)) && f (body_of r)

-- the same of a name, with so many calls of silent rules followed
abbrev pub fails_within : ℕ → ℕ → Text → Bool
fails_within zero c n = false
fails_within (suc k) c n = silently (fails_by (fails_within k c) c) (rule_named n)

-- a silent call notes nothing
silent_place : (y : RuleType) (m : Mode) (p k : ℕ) → is_silent y ≡ true → p ≡ max p (if (seen_from m && gives_token y m) then k else 0)
silent_place Silent m p k h = go (seen_from m)
  where
    go : (b : Bool) → p ≡ max p (if (b && false) then k else 0)
    go true = omega arith
    go false = omega arith
silent_place _ m p k h = cc

module _ (classes : Classes) (c : ℕ) where
  abbrev pub Ends : (State → Outcome) → Expression → Type 0
  Ends o e = (m : Mode) (s : State) (u : Text) (p : ℕ) → s.rest ≡ c ∷ u → Ran meta_grammar classes (Run m e) s (o s) p p

  abbrev pub Fails : Expression → Type 0
  Fails = Ends (λ s. Failure)

  text_fails : (x : ℕ) (t : Text) (b : Bool) → nat_eq x c ≡ b → not b ≡ true → Fails (Str (x ∷ t))
  text_fails x t true e h = cc
  text_fails x t false e h = λ m s u p i. ran_str (rw (i, e) refl)

  range_fails : (a b : Text) (v : Bool) → range_set a b c ≡ v → not v ≡ true → Fails (Range a b)
  range_fails a b true e h = cc
  range_fails a b false e h = λ m s u p i. ran_range (rw (i, e) refl)

  module _ (failing : Text → Bool) (calls_fail : (n : Text) → failing n ≡ true → Fails (Ident n)) where
    pub all_fail : (e : Expression) → fails_by failing c e ≡ true → Fails e
    all_fail (Str []) h = cc
    all_fail (Str (x ∷ t)) h = text_fails x t (nat_eq x c) refl h
    all_fail (Range a b) h = range_fails a b (range_set a b c) refl h
    all_fail (Ident n) h = calls_fail n h
    all_fail (Choice a b) h = λ m s u p e. ran_right (all_fail a (first_of_both _ _ h) m s u p e) (all_fail b (second_of_both _ _ h) m s u p e)
    all_fail _ h = cc

  -- a call of a silent rule fails where its body does
  silent_fails : (n : Text) (o : Option Rule) (f : Expression → Bool) → rule_named n ≡ o → silently f o ≡ true → ((e : Expression) → f e ≡ true → Fails e) → Fails (Ident n)
  silent_fails n None f e h k = cc
  silent_fails n (Some r) f e h k = λ m s u p i.
      let P : Text → Type 0 = λ t. rule_of meta_grammar t ≡ Some (rule_at r) in
      let d = first_of_both _ _ h in
      let found : rule_of meta_grammar n ≡ Some (rule_at r) = subst P (name_of_named n r e) (defined_rule r (first_of_both _ _ d)) in
      ran_call found (k (body_of r) (second_of_both _ _ h) (body_mode (rule_at r) m) s u p i) (silent_place (type_of_rule r) m p s.position (second_of_both _ _ d))

  pub call_fails : (k : ℕ) (n : Text) → fails_within k c n ≡ true → Fails (Ident n)
  call_fails zero n h = cc
  call_fails (suc k) n h = silent_fails n (rule_named n) _ refl h (all_fail (fails_within k c) (call_fails k))
