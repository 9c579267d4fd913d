-- What the names that read the stack match.
use Rattle.std.proofs.Common.{◌≡◌, refl, sym, ◌∙◌, ap, [], false, ◌&&◌, Option, None, Some, codes, nat_eq}
use Rattle.std.proofs.Math.Bool.{and-false}
use Rattle.base_language.specs.Language.Builtins.{Builtin, Drop, Peek, PeekAll, Pop, PopAll, builtin_of, builtins}
use Rattle.base_language.specs.Language.Expression.{Ident, Rule, rule_of}
use Rattle.base_language.specs.Language.FurthestFailure.{is_eoi}
use Rattle.base_language.specs.Language.Matching.{builtin_outcome, concatenated, drop_outcome, other_outcome, peek_outcome, pop_outcome, text_outcome, with_stack}
use Rattle.base_language.specs.Language.Meaning as by
use Rattle.base_language.specs.Language.Meaning.{Does, Run, seen_from}
use Rattle.base_language.specs.Language.State.{Classes, Outcome, State}
use Rattle.base_language.specs.Language.Text.{Text}
use Rattle.matcher_code.specs.Failures.{in_silence}
use Rattle.matcher_code.specs.Laid.{HasOrLacks, HasOutcome, MayHave}
use Rattle.matcher_program.specs.declared.form.Program.{Program}
use Rattle.matcher_sets.specs.declared.modes.Atomicity.{Atomicity}
use Rattle.matcher_sets.specs.Forms.{grammar_in}
use Rattle.matcher_sets.specs.Modes.{mode_of}
use Rattle.matcher_sets.proofs.Leaves.{builtin_outcome_of, by_builtin, quiet, unseen}

peek_builtin : builtin_of (codes "PEEK") ≡ Some Peek
unfolding builtins
peek_builtin = refl

pop_builtin : builtin_of (codes "POP") ≡ Some Pop
unfolding builtins
pop_builtin = refl

drop_builtin : builtin_of (codes "DROP") ≡ Some Drop
unfolding builtins
drop_builtin = refl

peek_all_builtin : builtin_of (codes "PEEK_ALL") ≡ Some PeekAll
unfolding builtins
peek_all_builtin = refl

pop_all_builtin : builtin_of (codes "POP_ALL") ≡ Some PopAll
unfolding builtins
pop_all_builtin = refl

module _ (p : Program) (classes : Classes) where
  -- a builtin that may have no outcome
  may_have : (m : Atomicity) (n : Text) (b : Builtin) (f : State → Option Outcome) → rule_of (grammar_in p) n ≡ None → builtin_of n ≡ Some b → is_eoi n ≡ false
      → ((s : State) → builtin_outcome classes (mode_of m) b s ≡ f s) → MayHave (grammar_in p) classes (Run (mode_of m) (Ident n)) f
  may_have m n b f u h q e s = go (f s) refl
    where
      says : other_outcome classes (mode_of m) n s ≡ f s
      says = by_builtin classes m n b s h ∙ e s

      free : {r : Rule} → Some r ≡ None → ⊥
      free z = cc

      other : {o : Outcome} → Some o ≡ None → ⊥
      other z = cc

      lacks : f s ≡ None → (o : Outcome) → Does (grammar_in p) classes (Run (mode_of m) (Ident n)) s o → ⊥
      lacks k o (by.call z d) = free (sym z ∙ u)
      lacks k o (by.other z d) = other (sym d ∙ (says ∙ k))

      go : (x : Option Outcome) → f s ≡ x → HasOrLacks (grammar_in p) classes (Run (mode_of m) (Ident n)) s x
      go (Some o) k =
          let z : (seen_from (mode_of m) && is_eoi n) ≡ false = ap (λ y. seen_from (mode_of m) && y) q ∙ and-false (seen_from (mode_of m)) in
          (by.other u (says ∙ k), λ place. unseen (seen_from (mode_of m) && is_eoi n) n place s o z)
      go None k = lacks k

  pub peek_has : (m : Atomicity) → rule_of (grammar_in p) (codes "PEEK") ≡ None
      → MayHave (grammar_in p) classes (Run (mode_of m) (Ident (codes "PEEK"))) (λ s. peek_outcome s.stack s)
  peek_has m u = may_have m (codes "PEEK") Peek (λ s. peek_outcome s.stack s) u peek_builtin refl (λ s. refl)

  pub pop_has : (m : Atomicity) → rule_of (grammar_in p) (codes "POP") ≡ None
      → MayHave (grammar_in p) classes (Run (mode_of m) (Ident (codes "POP"))) (λ s. pop_outcome s.stack s)
  pop_has m u = may_have m (codes "POP") Pop (λ s. pop_outcome s.stack s) u pop_builtin refl (λ s. refl)

  pub discard_has : (m : Atomicity) → rule_of (grammar_in p) (codes "DROP") ≡ None
      → HasOutcome (grammar_in p) classes (Run (mode_of m) (Ident (codes "DROP"))) (λ s. drop_outcome s.stack s) in_silence
  discard_has m u =
      quiet p classes m (codes "DROP") (λ s. drop_outcome s.stack s) refl
      (builtin_outcome_of p classes m (codes "DROP") Drop (λ s. drop_outcome s.stack s) u drop_builtin (λ s. refl))

  pub peek_all_has : (m : Atomicity) → rule_of (grammar_in p) (codes "PEEK_ALL") ≡ None
      → HasOutcome (grammar_in p) classes (Run (mode_of m) (Ident (codes "PEEK_ALL"))) (λ s. text_outcome nat_eq (concatenated s.stack) s) in_silence
  peek_all_has m u =
      quiet p classes m (codes "PEEK_ALL") (λ s. text_outcome nat_eq (concatenated s.stack) s) refl
      (builtin_outcome_of p classes m (codes "PEEK_ALL") PeekAll (λ s. text_outcome nat_eq (concatenated s.stack) s) u peek_all_builtin (λ s. refl))

  pub pop_all_has : (m : Atomicity) → rule_of (grammar_in p) (codes "POP_ALL") ≡ None
      → HasOutcome (grammar_in p) classes (Run (mode_of m) (Ident (codes "POP_ALL"))) (λ s. with_stack [] (text_outcome nat_eq (concatenated s.stack) s)) in_silence
  pop_all_has m u =
      quiet p classes m (codes "POP_ALL") (λ s. with_stack [] (text_outcome nat_eq (concatenated s.stack) s)) refl
      (builtin_outcome_of p classes m (codes "POP_ALL") PopAll (λ s. with_stack [] (text_outcome nat_eq (concatenated s.stack) s)) u pop_all_builtin (λ s. refl))
