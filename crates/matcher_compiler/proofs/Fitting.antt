-- The stack and the size of rules, and of the grammar that they are.
use Rattle.std.proofs.Common.{◌≡◌, refl, ap, ap₂, subst, ◌+◌, ◌≤◌, List, [], ◌∷◌, Bool, true, false, ◌||◌, length, map}
use Rattle.base_language.specs.Language.Text.{Text}
use Rattle.matcher_code.specs.Lists.{CodeLists}
use Rattle.matcher_code.specs.StackUses.{is_stackless}
use Rattle.matcher_program.specs.Programs.{expression_of, grammar_of, names_of, grammar_rule}
use Rattle.matcher_program.specs.declared.form.Form.{Form}
use Rattle.matcher_program.specs.declared.form.Form.TheVariants as form
use Rattle.matcher_program.specs.declared.form.Program.{Program}
use Rattle.matcher_program.specs.declared.form.ProgramRule.{ProgramRule}
use Rattle.matcher_compiler.specs.Extents.{IsFitting, count_forms, count_parts, count_program_rules, grammar_size, grammar_stack, has_stack, most_operations, names_stack, program_rules_stack}

neither : (a b : Bool) → a || b ≡ false → (a ≡ false) × (b ≡ false)
neither true b e = cc
neither false b e = (refl, e)

both : (a b : Bool) → a ≡ false → b ≡ false → a || b ≡ false
both true b e f = e
both false b e f = f

module _ (names : List Text) where
  counted : (f : Form) → count_forms f ≡ count_parts (expression_of names f)
  counted (form.Set' p a) = counted a
  counted (form.PosPred' p a) = ap (λ n. n + 1) (counted a)
  counted (form.NegPred' p a) = ap (λ n. n + 1) (counted a)
  counted (form.Seq' p a q b) = ap₂ (λ n m. n + m + 1) (counted a) (counted b)
  counted (form.Choice' p a q b) = ap₂ (λ n m. n + m + 1) (counted a) (counted b)
  counted (form.Opt' p a) = ap (λ n. n + 1) (counted a)
  counted (form.Rep' p a) = ap (λ n. n + 1) (counted a)
  counted (form.RepOnce' p a) = ap (λ n. n + 1) (counted a)
  counted (form.Push' p a) = ap (λ n. n + 1) (counted a)
  counted (form.Tag' p a t) = ap (λ n. n + 1) (counted a)
  counted (form.Restore' p a) = ap (λ n. n + 1) (counted a)
  counted _ = refl

  stackless : (f : Form) → names_stack (expression_of names f) ≡ false → has_stack f ≡ false
  stackless (form.Set' p a) e = stackless a e
  stackless (form.PosPred' p a) e = stackless a e
  stackless (form.NegPred' p a) e = stackless a e
  stackless (form.Seq' p a q b) e =
      let n = neither (names_stack (expression_of names a)) (names_stack (expression_of names b)) e in
      both (has_stack a) (has_stack b) (stackless a n.0) (stackless b n.1)
  stackless (form.Choice' p a q b) e =
      let n = neither (names_stack (expression_of names a)) (names_stack (expression_of names b)) e in
      both (has_stack a) (has_stack b) (stackless a n.0) (stackless b n.1)
  stackless (form.Opt' p a) e = stackless a e
  stackless (form.Rep' p a) e = stackless a e
  stackless (form.RepOnce' p a) e = stackless a e
  stackless (form.Tag' p a t) e = stackless a e
  stackless (form.Restore' p a) e = stackless a e
  stackless (form.Push' p a) e = let z : true ≡ false = e in cc
  stackless (form.PushLiteral s) e = let z : true ≡ false = e in cc
  stackless form.Peek e = let z : true ≡ false = e in cc
  stackless form.Pop e = let z : true ≡ false = e in cc
  stackless form.Discard e = let z : true ≡ false = e in cc
  stackless form.PeekAll e = let z : true ≡ false = e in cc
  stackless form.PopAll e = let z : true ≡ false = e in cc
  stackless (form.PeekSlice i j) e = let z : true ≡ false = e in cc
  stackless _ e = refl

  rules_counted : (rs : List ProgramRule) → count_program_rules rs ≡ grammar_size (map (grammar_rule names) rs)
  rules_counted [] = refl
  rules_counted (r ∷ rs) = ap₂ (λ n m. n + 1 + m) (counted r.body) (rules_counted rs)

  program_rules_stackless : (rs : List ProgramRule) → grammar_stack (map (grammar_rule names) rs) ≡ false → program_rules_stack rs ≡ false
  program_rules_stackless [] e = refl
  program_rules_stackless (r ∷ rs) e =
      let n = neither (names_stack (expression_of names r.body)) (grammar_stack (map (grammar_rule names) rs)) e in
      both (has_stack r.body) (program_rules_stack rs) (stackless r.body n.0) (program_rules_stackless rs n.1)

pub code_stackless : (p : Program) (code : CodeLists) → IsFitting p code → grammar_stack (grammar_of p.rules.items) ≡ false → is_stackless code ≡ true
code_stackless p code fits e = fits.stackless (program_rules_stackless (names_of p.rules.items) p.rules.items e)

pub code_linear : (p : Program) (code : CodeLists) → IsFitting p code → length code.ops ≤ most_operations (grammar_size (grammar_of p.rules.items))
code_linear p code fits =
    subst (λ n. length code.ops ≤ most_operations n) (rules_counted (names_of p.rules.items) p.rules.items) fits.small
