-- The size of rules and their use of the stack, and code that fits them.
use Rattle.std.specs.Prelude.{◌≡◌, ℕ, ◌+◌, ◌*◌, ◌≤◌, List, [], ◌∷◌, Bool, true, false, ◌||◌, bytes_eq, codes, length}
use Rattle.std.specs.Borrow.{Bor}
use Rattle.base_language.specs.Language.Expression as spec
use Rattle.base_language.specs.Language.Expression.{Expression, Grammar}
use Rattle.matcher_code.specs.Lists.{CodeLists}
use Rattle.matcher_code.specs.StackUses.{is_stackless}
use Rattle.matcher_program.specs.FormWeight.{weight}
use Rattle.matcher_program.specs.declared.form.Form.{Form}
use Rattle.matcher_program.specs.declared.form.Form.TheVariants as form
use Rattle.matcher_program.specs.declared.form.Program.{Program}
use Rattle.matcher_program.specs.declared.form.ProgramRule.{ProgramRule}

-- whether a form is one that reads or changes the stack
abbrev pub is_stack_form : Form → Bool
is_stack_form (form.Push' p a) = true
is_stack_form (form.PushLiteral s) = true
is_stack_form form.Peek = true
is_stack_form form.Pop = true
is_stack_form form.Discard = true
is_stack_form form.PeekAll = true
is_stack_form form.PopAll = true
is_stack_form (form.PeekSlice i j) = true
is_stack_form _ = false

-- whether a form or a part of it is one
abbrev pub has_stack : Form → Bool
has_stack (form.Set' p a) = has_stack a
has_stack (form.PosPred' p a) = has_stack a
has_stack (form.NegPred' p a) = has_stack a
has_stack (form.Seq' p a q b) = has_stack a || has_stack b
has_stack (form.Choice' p a q b) = has_stack a || has_stack b
has_stack (form.Opt' p a) = has_stack a
has_stack (form.Rep' p a) = has_stack a
has_stack (form.RepOnce' p a) = has_stack a
has_stack (form.Tag' p a t) = has_stack a
has_stack (form.Restore' p a) = has_stack a
has_stack f = is_stack_form f

-- a set of characters is no form of its own, but the form that it is of
abbrev pub own_count : Form → ℕ
own_count (form.Set' p a) = 0
own_count _ = 1

-- the number of forms in a form
abbrev pub count_forms : Form → ℕ
count_forms (form.Set' p a) = count_forms a
count_forms (form.PosPred' p a) = count_forms a + 1
count_forms (form.NegPred' p a) = count_forms a + 1
count_forms (form.Seq' p a q b) = count_forms a + count_forms b + 1
count_forms (form.Choice' p a q b) = count_forms a + count_forms b + 1
count_forms (form.Opt' p a) = count_forms a + 1
count_forms (form.Rep' p a) = count_forms a + 1
count_forms (form.RepOnce' p a) = count_forms a + 1
count_forms (form.Push' p a) = count_forms a + 1
count_forms (form.Tag' p a t) = count_forms a + 1
count_forms (form.Restore' p a) = count_forms a + 1
count_forms _ = 1

-- so it is with forms that wait
abbrev pub any_stack : List (Bor Form) → Bool
any_stack [] = false
any_stack (f ∷ fs) = has_stack f.now || any_stack fs

abbrev pub count_all : List (Bor Form) → ℕ
count_all [] = 0
count_all (f ∷ fs) = count_forms f.now + count_all fs

-- the weight of forms that wait
abbrev pub heft : List (Bor Form) → ℕ
heft [] = 0
heft (f ∷ fs) = weight f.now + heft fs

-- so it is with program rules
abbrev pub program_rules_stack : List ProgramRule → Bool
program_rules_stack [] = false
program_rules_stack (r ∷ rs) = has_stack r.body || program_rules_stack rs

abbrev pub count_program_rules : List ProgramRule → ℕ
count_program_rules [] = 0
count_program_rules (r ∷ rs) = count_forms r.body + 1 + count_program_rules rs

-- whether the rules of a program use the stack, and their size: their forms, and one for each rule
abbrev pub uses_stack : Program → Bool
uses_stack p = program_rules_stack p.rules.items

abbrev pub size_of : Program → ℕ
size_of p = count_program_rules p.rules.items

-- whether an expression names the stack: a push, or the name of a builtin that uses it
abbrev pub names_stack : Expression → Bool
names_stack (spec.Ident n) =
    bytes_eq n (codes "PEEK") || bytes_eq n (codes "POP") || bytes_eq n (codes "DROP")
    || bytes_eq n (codes "PEEK_ALL") || bytes_eq n (codes "POP_ALL")
names_stack (spec.PeekSlice i j) = true
names_stack (spec.Push e) = true
names_stack (spec.PushLiteral t) = true
names_stack (spec.PosPred e) = names_stack e
names_stack (spec.NegPred e) = names_stack e
names_stack (spec.Seq a b) = names_stack a || names_stack b
names_stack (spec.Choice a b) = names_stack a || names_stack b
names_stack (spec.Opt e) = names_stack e
names_stack (spec.Rep e) = names_stack e
names_stack (spec.RepOnce e) = names_stack e
names_stack (spec.RepExact e i) = names_stack e
names_stack (spec.RepMin e i) = names_stack e
names_stack (spec.RepMax e i) = names_stack e
names_stack (spec.RepMinMax e i j) = names_stack e
names_stack (spec.NodeTag e t) = names_stack e
names_stack (spec.RestoreOnErr e) = names_stack e
names_stack _ = false

-- whether the body of a rule of a grammar does
abbrev pub grammar_stack : Grammar → Bool
grammar_stack [] = false
grammar_stack (r ∷ rs) = names_stack r.body || grammar_stack rs

-- the number of expressions in an expression
abbrev pub count_parts : Expression → ℕ
count_parts (spec.PosPred e) = count_parts e + 1
count_parts (spec.NegPred e) = count_parts e + 1
count_parts (spec.Seq a b) = count_parts a + count_parts b + 1
count_parts (spec.Choice a b) = count_parts a + count_parts b + 1
count_parts (spec.Opt e) = count_parts e + 1
count_parts (spec.Rep e) = count_parts e + 1
count_parts (spec.RepOnce e) = count_parts e + 1
count_parts (spec.RepExact e i) = count_parts e + 1
count_parts (spec.RepMin e i) = count_parts e + 1
count_parts (spec.RepMax e i) = count_parts e + 1
count_parts (spec.RepMinMax e i j) = count_parts e + 1
count_parts (spec.Push e) = count_parts e + 1
count_parts (spec.NodeTag e t) = count_parts e + 1
count_parts (spec.RestoreOnErr e) = count_parts e + 1
count_parts _ = 1

-- the size of a grammar: its expressions, and one for each rule
abbrev pub grammar_size : Grammar → ℕ
grammar_size [] = 0
grammar_size (r ∷ rs) = count_parts r.body + 1 + grammar_size rs

-- how many operations a program for rules of a size has at most
abbrev pub most_operations : ℕ → ℕ
most_operations size = 8192 * (size + 1)

-- code has no more operations than its rules ask for, and uses the stack only if they do
pub record IsFitting (p : Program) (code : CodeLists) : Type 0 where
  pub stackless : uses_stack p ≡ false → is_stackless code ≡ true
  pub small : length code.ops ≤ most_operations (size_of p)
