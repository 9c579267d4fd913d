-- Calls of rules by their numbers.
use Rattle.std.proofs.Common.{◌≡◌, refl, sym, ◌∙◌, ap, ap₂, subst, ℕ, ◌<◌, Bool, true, false, List, [], ◌∷◌, Some, None, Option, codes, if◌then◌else◌, bytes_eq, get_or, length}
use Rattle.std.proofs.lemmas.List.{length-map}
use Rattle.base_ast.specs.Ast.{rule_type_of}
use Rattle.base_language.specs.Language.Expression.{Grammar, Rule, last_place, or_else, rule_of}
use Rattle.base_language.specs.Language.FurthestFailure.{is_eoi}
use Rattle.base_language.specs.Language.Meaning.{Run, body_mode, mode_in}
use Rattle.base_language.specs.Language.State.{Mode}
use Rattle.base_language.specs.Language.Text.{Text}
use Rattle.matcher_code.specs.Lists.{CodeLists}
use Rattle.matcher_code.specs.declared.code.Op.TheVariants as op
use Rattle.matcher_code.specs.Laid as lay
use Rattle.matcher_code.specs.Laid.{IsPart, IsPoint, at_label}
use Rattle.matcher_program.specs.declared.form.Program.{Program}
use Rattle.matcher_program.specs.declared.form.ProgramRule.{ProgramRule}
use Rattle.matcher_program.specs.Programs.{name_at, names_of, grammar_rule}
use Rattle.matcher_compiler.specs.Names.{IsLast, number_in, or_end}
use Rattle.matcher_sets.specs.Forms.{IsSoundProgram, grammar_in, no_rule, said}
use Rattle.matcher_sets.proofs.Rules.{in_mode, made, named, same}
use Rattle.matcher_compiler.specs.Plans.{body_in}

pub no_place : (g : Grammar) (n : Text) → rule_of g n ≡ None → last_place g n ≡ None
no_place [] n h = refl
no_place (r ∷ g) n h = go (no_place g n) (rule_of g n) refl (bytes_eq r.name n) refl
  where
    go : (rule_of g n ≡ None → last_place g n ≡ None) → (o : Option Rule) → rule_of g n ≡ o → (b : Bool) → bytes_eq r.name n ≡ b → last_place (r ∷ g) n ≡ None
    go ih (Some q) e b f = let z : Some q ≡ None = sym (ap (λ x. or_else x (if bytes_eq r.name n then Some r else None)) e) ∙ h in cc
    go ih None e true f = let z : Some r ≡ None = sym (ap₂ (λ x y. or_else x (if y then Some r else None)) e f) ∙ h in cc
    go ih None e false f = rw (ih e, f) refl

pub leaf_rule : (code : CodeLists) (l : ℕ) {a b next : ℕ} → a ≡ b → at_label code l ≡ op.Leaf a next → at_label code l ≡ op.Leaf b next
leaf_rule code l {next = next} e h = h ∙ ap (λ k. op.Leaf k next) e

pub miss_rule : (code : CodeLists) (l : ℕ) {a b next : ℕ} → a ≡ b → at_label code l ≡ op.Miss a next → at_label code l ≡ op.Miss b next
miss_rule code l {next = next} e h = h ∙ ap (λ k. op.Miss k next) e

pub call_rule : (code : CodeLists) (l : ℕ) {first a b next fail : ℕ} {counts : Bool} → a ≡ b → at_label code l ≡ op.Call first a next fail counts
    → at_label code l ≡ op.Call first b next fail counts
call_rule code l {first = first} {next = next} {fail = fail} {counts = counts} e h = h ∙ ap (λ k. op.Call first k next fail counts) e

-- the number of `EOI`, if no rule has that name
pub end_number : (p : Program) (k : ℕ) → rule_of (grammar_in p) (codes "EOI") ≡ None → k ≡ length p.rules.items
    → k ≡ number_in (grammar_in p) (codes "EOI")
end_number p k h e =
    e ∙ (sym (length-map p.rules.items (grammar_rule (names_of p.rules.items)))
    ∙ ap (λ o. or_end o true (length (grammar_in p))) (sym (no_place (grammar_in p) (codes "EOI") h)))

module _ (p : Program) (rule : ℕ) (program_rule : ProgramRule) (within : rule < length p.rules.items) (is : program_rule ≡ get_or p.rules.items rule program_rule) where
  pub body_said : body_in p rule ≡ said p program_rule.body
  body_said = ap (λ r. r.body) (same p rule program_rule within is no_rule)

  pub number_is : IsLast p.rules.items rule → number_in (grammar_in p) (made p rule program_rule within is).name ≡ rule
  number_is last =
      ap (λ n. number_in (grammar_in p) n) (sym (named p rule program_rule within is))
      ∙ ap (λ o. or_end o (is_eoi (name_at (names_of p.rules.items) rule)) (length (grammar_in p))) last

  pub body_point : IsSoundProgram p → (laid : List lay.Point) (m inner : Mode) (first last : ℕ)
      → inner ≡ mode_in (rule_type_of program_rule.kind) program_rule.blank m → IsPoint laid (Run inner (body_in p rule)) first last 0
      → IsPoint laid (Run (body_mode (made p rule program_rule within is) m) (made p rule program_rule within is).body) first last 0
  body_point sound laid m inner first last e x =
      let r = made p rule program_rule within is in
      subst (λ k. IsPoint laid (Run k r.body) first last 0) (in_mode p rule program_rule within is sound m inner e)
      (subst (λ b. IsPoint laid (Run inner b) first last 0) body_said x)

  -- the same of a part
  pub body_part : IsSoundProgram p → (laid : List lay.Point) (m inner : Mode) (rank first last on_fail : ℕ)
      → inner ≡ mode_in (rule_type_of program_rule.kind) program_rule.blank m → IsPart laid rank (Run inner (body_in p rule)) first last on_fail
      → IsPart laid rank (Run (body_mode (made p rule program_rule within is) m) (made p rule program_rule within is).body) first last on_fail
  body_part sound laid m inner rank first last on_fail e x =
      let r = made p rule program_rule within is in
      subst (λ k. IsPart laid rank (Run k r.body) first last on_fail) (in_mode p rule program_rule within is sound m inner e)
      (subst (λ b. IsPart laid rank (Run inner b) first last on_fail) body_said x)
