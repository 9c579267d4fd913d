-- Forms that wait.
use Rattle.std.proofs.Common.{◌≡◌, refl, sym, ◌∙◌, ap, ℕ, ◌+◌, ◌≤◌, List, [], ◌∷◌, ◌++◌, Bool, true, false, ◌||◌, Bor, arith}
use Rattle.matcher_program.specs.FormWeight.{weight}
use Rattle.matcher_program.specs.declared.form.Form.{Form}
use Rattle.matcher_program.specs.declared.form.Form.TheVariants as form
use Rattle.matcher_compiler.specs.Extents.{any_stack, count_all, count_forms, has_stack, heft, is_stack_form, own_count}

pub or_assoc : (a b c : Bool) → (a || b) || c ≡ a || (b || c)
or_assoc true b c = refl
or_assoc false b c = refl

or_swap : (a b c : Bool) → a || (b || c) ≡ b || (a || c)
or_swap true true c = refl
or_swap true false c = refl
or_swap false b c = refl

-- one form more that waits
heft_last : (fs : List (Bor Form)) (f : Bor Form) → heft (fs ++ (f ∷ [])) ≡ heft fs + weight f.now
heft_last [] f = omega arith
heft_last (g ∷ fs) f = let rest = heft_last fs f in omega arith

pub heavier : (fs gs : List (Bor Form)) (f : Bor Form) → gs ≡ fs ++ (f ∷ []) → heft gs ≡ heft fs + weight f.now
heavier fs gs f h = ap heft h ∙ heft_last fs f

count_last : (fs : List (Bor Form)) (f : Bor Form) → count_all (fs ++ (f ∷ [])) ≡ count_forms f.now + count_all fs
count_last [] f = refl
count_last (g ∷ fs) f = let rest = count_last fs f in omega arith

pub counts : (fs gs : List (Bor Form)) (f : Bor Form) → gs ≡ fs ++ (f ∷ []) → count_all gs ≡ count_forms f.now + count_all fs
counts fs gs f h = ap count_all h ∙ count_last fs f

stack_last : (fs : List (Bor Form)) (f : Bor Form) → any_stack (fs ++ (f ∷ [])) ≡ has_stack f.now || any_stack fs
stack_last [] f = refl
stack_last (g ∷ fs) f =
    ap (λ b. has_stack g.now || b) (stack_last fs f) ∙ or_swap (has_stack g.now) (has_stack f.now) (any_stack fs)

pub stacks : (fs gs : List (Bor Form)) (f : Bor Form) → gs ≡ fs ++ (f ∷ []) → any_stack gs ≡ has_stack f.now || any_stack fs
stacks fs gs f h = ap any_stack h ∙ stack_last fs f

pub stack_both : (fs gs hs : List (Bor Form)) (l r : Bor Form) → gs ≡ fs ++ (r ∷ []) → hs ≡ gs ++ (l ∷ [])
    → any_stack hs ≡ (has_stack l.now || has_stack r.now) || any_stack fs
stack_both fs gs hs l r h i =
    stacks gs hs l i ∙ (ap (λ b. has_stack l.now || b) (stacks fs gs r h) ∙ sym (or_assoc (has_stack l.now) (has_stack r.now) (any_stack fs)))

-- a form that uses the stack has one that does
own_stack : (f : Form) → is_stack_form f ≡ true → has_stack f ≡ true
own_stack (form.Push' p a) e = refl
own_stack (form.PushLiteral s) e = refl
own_stack form.Peek e = refl
own_stack form.Pop e = refl
own_stack form.Discard e = refl
own_stack form.PeekAll e = refl
own_stack form.PopAll e = refl
own_stack (form.PeekSlice i j) e = refl
own_stack _ e = let z : false ≡ true = e in cc

-- the last form that waits is taken, and is one that uses the stack
pub found_last : (whole : Bool) (fs gs : List (Bor Form)) (f : Bor Form) → gs ≡ fs ++ (f ∷ []) → any_stack gs ≡ whole → is_stack_form f.now ≡ true → true ≡ whole
found_last whole fs gs f h e u =
    sym (ap (λ b. b || any_stack fs) (own_stack f.now u)) ∙ (sym (stacks fs gs f h) ∙ e)

-- or its parts take its place
pub next_stack : (whole : Bool) (fs gs hs : List (Bor Form)) (f : Bor Form) → gs ≡ fs ++ (f ∷ []) → any_stack hs ≡ has_stack f.now || any_stack fs
    → any_stack gs ≡ whole → any_stack hs ≡ whole
next_stack whole fs gs hs f h k e = k ∙ (sym (stacks fs gs f h) ∙ e)

pub next_count : (whole n m : ℕ) (fs gs hs : List (Bor Form)) (f : Bor Form) → gs ≡ fs ++ (f ∷ []) → own_count f.now + count_all hs ≡ count_forms f.now + count_all fs
    → m ≤ n + own_count f.now → n + count_all gs ≤ whole → m + count_all hs ≤ whole
next_count whole n m fs gs hs f h k l e = omega (arith, k, l, e, counts fs gs f h)
