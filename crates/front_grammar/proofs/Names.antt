-- What the names of builtins and of blanks do in the meta-grammar.
use Rattle.std.proofs.Common.{◌≡◌, refl, ℕ, if◌then◌else◌, codes, true, nat_eq, arith}
use Rattle.base_language.specs.Language.Expression.{Ident, whitespace, comment}
use Rattle.base_language.specs.Language.Matching.{character_outcome, end_outcome}
use Rattle.base_language.specs.Language.Meaning.{Run}
use Rattle.base_language.specs.Language.Ran.{Ran}
use Rattle.base_language.specs.Language.State.{AtomicMode, Between, Classes, NonAtomicMode, None', Outcome, State, Success, Trees, Failure}
use Rattle.base_language.specs.Pieces.MetaRules.{name_of}
use Rattle.base_language.specs.declared.grammar.Rule.TheVariants as is
use Rattle.base_language.proofs.Steps.{ran_blank, ran_other, ran_quietly}
use Rattle.front_grammar.specs.MetaGrammar.{meta_grammar}
use Rattle.front_grammar.proofs.Lookup.{defined_rule, no_any, no_soi, no_eoi, any_builtin, soi_builtin, eoi_builtin, whitespace_name, comment_name}

module _ {classes : Classes} where
  pub ran_any : {s : State} {o : Outcome} {p : ℕ} → o ≡ character_outcome (λ c. true) s → Ran meta_grammar classes (Run AtomicMode (Ident (codes "ANY"))) s o p p
  ran_any {s} e = ran_quietly no_any (rw (any_builtin, e) refl) refl

  pub ran_soi : {s : State} {o : Outcome} {p : ℕ} → o ≡ (if nat_eq s.position 0 then Success s None' else Failure) → Ran meta_grammar classes (Run NonAtomicMode (Ident (codes "SOI"))) s o p p
  ran_soi {s} e = ran_quietly no_soi (rw (soi_builtin, e) refl) refl

  pub ran_end : {s t : State} {us : Trees} {p : ℕ} → Success t us ≡ end_outcome NonAtomicMode s.rest s → Ran meta_grammar classes (Run NonAtomicMode (Ident (codes "EOI"))) s (Success t us) p p
  ran_end {s} e = ran_other no_eoi (rw (eoi_builtin, e) refl) (omega arith)

  -- the skipping's own calls
  pub ran_whitespace : {s : State} {o : Outcome} {p q : ℕ} → Ran meta_grammar classes (Run NonAtomicMode (Ident (name_of is.WHITESPACE))) s o p q → Ran meta_grammar classes (Run Between (Ident whitespace)) s o p q
  ran_whitespace x = let y = ran_blank (defined_rule is.WHITESPACE refl) x in rw whitespace_name at y

  pub ran_comment : {s : State} {o : Outcome} {p q : ℕ} → Ran meta_grammar classes (Run NonAtomicMode (Ident (name_of is.COMMENT))) s o p q → Ran meta_grammar classes (Run Between (Ident comment)) s o p q
  ran_comment x = let y = ran_blank (defined_rule is.COMMENT refl) x in rw comment_name at y
