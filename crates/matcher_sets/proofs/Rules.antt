-- Rules by their numbers.
use Rattle.std.proofs.Common.{◌≡◌, sym, ◌∙◌, ap, subst, ℕ, ◌<◌, ◌||◌, [], Some, bytes_eq, get_or, length}
use Rattle.std.proofs.lemmas.List.{get_or-map}
use Rattle.base_ast.specs.Ast.{rule_type_of, text_of}
use Rattle.base_language.specs.Language.Expression.{Rule, comment, rule_of, whitespace}
use Rattle.base_language.specs.Language.Meaning.{body_mode, mode_in}
use Rattle.base_language.specs.Language.State.{Mode}
use Rattle.matcher_program.specs.declared.form.Program.{Program}
use Rattle.matcher_program.specs.declared.form.ProgramRule.{ProgramRule}
use Rattle.matcher_program.specs.Programs.{IsRuleOf, name_at, names_of, grammar_rule}
use Rattle.matcher_sets.specs.Forms.{IsBoundIn, IsSoundProgram, grammar_in}

module _ (p : Program) (rule : ℕ) (program_rule : ProgramRule) (within : rule < length p.rules.items) (is : program_rule ≡ get_or p.rules.items rule program_rule) where
  abbrev pub made : Rule
  made = grammar_rule (names_of p.rules.items) program_rule

  pub same : (d : Rule) → get_or (grammar_in p) rule d ≡ made
  same d = get_or-map (grammar_rule (names_of p.rules.items)) p.rules.items rule program_rule d within ∙ ap (grammar_rule (names_of p.rules.items)) (sym is)

  pub named : name_at (names_of p.rules.items) rule ≡ text_of program_rule.name
  named = get_or-map (λ r. text_of r.name) p.rules.items rule program_rule [] within ∙ ap (λ r. text_of r.name) (sym is)

  pub program_rule_bound : IsSoundProgram p → IsBoundIn p program_rule.body
  program_rule_bound sound = subst (λ r. IsBoundIn p r.body) (sym is) ((sound.rules rule program_rule within).bound)

  pub meant_is : IsRuleOf (grammar_in p) (name_at (names_of p.rules.items) rule) rule
      → rule_of (grammar_in p) (name_at (names_of p.rules.items) rule) ≡ Some made
  meant_is meant = meant.meant made ∙ ap Some (same made)

  pub in_mode : IsSoundProgram p → (m inner : Mode) → inner ≡ mode_in (rule_type_of program_rule.kind) program_rule.blank m → inner ≡ body_mode made m
  in_mode sound m inner e =
      let b : program_rule.blank ≡ (bytes_eq (text_of program_rule.name) whitespace || bytes_eq (text_of program_rule.name) comment) =
      subst (λ r. r.blank ≡ (bytes_eq (text_of r.name) whitespace || bytes_eq (text_of r.name) comment)) (sym is) ((sound.rules rule program_rule within).blank) in
      e ∙ ap (λ x. mode_in (rule_type_of program_rule.kind) x m) b
