-- Why rules are not run: names that mean nothing, and bounds that are no character.
use Prim.Native.Nat.{zero}
use Rattle.std.proofs.Common.{◌≡◌, inl, inr, ℕ, ◌<◌, suc, List, [], ◌∷◌, ◌++◌, Bool, true, false, Option, Some, None, ◌||◌, if◌then◌else◌, length, refl, sym, ap, subst, ◌∙◌, bytes_eq, chars, arith, ◌==◌, ◌+◌, Result, Err, IfErr, drop, get_or}
use Rattle.std.proofs.lemmas.List.{get_or-map, length-map}
use Rattle.std.proofs.lemmas.List.Elements.{Contains-get_or}
use Rattle.std.specs.Prelude.{IfSome, IsUtf8, encode_utf8, is_some}
use Rattle.std.specs.List.{Contains}
use Rattle.std.proofs.lemmas.Str.{chars_past_char, encodes-chars}
use Rattle.std.proofs.Math.Utf8.{encodes}
use Rattle.std.proofs.lemmas.Bool.{false_from_ne_true}
use Rattle.base_ast.specs.Ast.{text_of}
use Rattle.base_language.specs.Language.Builtins.{Property as PropertyOf, builtin_of, is_one_of, property_names}
use Rattle.base_language.specs.Language.Expression.{Expression, Grammar, Ident, Part, Range, rule_of, whole}
use Rattle.base_language.specs.Language.CharacterBounds.{HasCharacterBounds}
use Rattle.base_language.specs.Language.KnownNames.{HasKnownNames}
use Rattle.base_language.specs.Language.Text.{Text}
use Rattle.base_language.specs.Language.WellFormed.{InSomeRule}
use Rattle.base_language.specs.Rewritings.Equality.{text_eq-Decides}
use Rattle.matcher_program.proofs.Compiling.{is_property_of}
use Rattle.matcher_program.specs.Refusals.{IsNoBuiltin, IsNoCharacter, IsReason, IsUnknown, IsWithin, KnowsProperties, IsWrong, IsWrongBound, IsWrongIn, has_property}
use Rattle.matcher_program.specs.declared.compile.Unfit.{Unfit}
use Rattle.matcher_program.specs.declared.compile.Unfit.TheVariants as unfit
use Rattle.base_ast.specs.Optimized.{optimized_expression_of, optimized_rule_of, optimized_rules_of}
use Rattle.base_ast.specs.declared.optimized.OptimizedRule.{OptimizedRule}
use Rattle.matcher_program.specs.Programs.{IsNumberOf}
use Rattle.front_names.proofs.BuiltinLemmas.{next_named, other_meaning}
use Rattle.front_names.specs.Builtins.{builtin_names}
use Rattle.matcher_program.specs.declared.form.Property.{Property}

true_is_false : true ≡ false → ⊥
true_is_false f = cc

empty_list : (ts : List ℕ) → length ts ≡ 0 → ts ≡ []
empty_list [] h = refl
empty_list (t ∷ ts) h = absurd (omega (arith, h))

pub next_property : (ps : List Property) (i : ℕ) (x : Property) (n : Text) → i < length ps → x ≡ get_or ps i x → bytes_eq (text_of x.name) n ≡ false
    → has_property (drop i ps) n ≡ has_property (drop (i + 1) ps) n
next_property ps i x n l e h =
    next_named (λ p. text_of p.name) ps i x n l (subst (λ p. bytes_eq (text_of p.name) n ≡ false) e h)

-- a text of more than one character
pub many_characters : (bs given r left : List ℕ) (c : ℕ) (empty : Bool) → IsUtf8 bs → given ≡ bs → given ≡ encode_utf8 c ++ r → left ≡ r → IsUtf8 left → empty ≡ (length left == 0) → empty ≡ false → length (chars bs) ≡ 1 → ⊥
many_characters bs given r left c empty u g e l v m f one =
    let whole_text : chars bs ≡ c ∷ chars r = chars_past_char bs r c u (sym g ∙ e) in
    let none : length (chars r) ≡ 0 = let k = sym (ap length whole_text) ∙ one in omega (arith, k) in
    let rest : r ≡ [] = sym (encodes-chars r (subst IsUtf8 l v)) ∙ ap encodes (empty_list (chars r) none) in
    let z : length left ≡ 0 = ap length (l ∙ rest) in
    true_is_false (sym (m ∙ rw z refl) ∙ f)

-- what is wrong with a part is wrong with the whole
pub wrong_outside : (knows : Text → Bool) (g : Grammar) (P Q : Expression → Type 0) → ((x : Expression) → P x → Q x) → (u : Unfit) → IsWrong knows g P u → IsWrong knows g Q u
wrong_outside knows g P Q f unfit.Memory h = tt
wrong_outside knows g P Q f (unfit.UnknownName n) h = (f _ h.0, h.1)
wrong_outside knows g P Q f (unfit.Bound t) ((v, b), wrong) = ((v, elim b [ inl p ↦ inl (f _ p) | inr p ↦ inr (f _ p) ]), wrong)

pub low_wrong : (knows : Text → Bool) (g : Grammar) (t v : Text) (u : Unfit) → IsWrongBound t u → IsWrong knows g (Part (Range t v)) u
low_wrong knows g t v unfit.Memory h = tt
low_wrong knows g t v (unfit.UnknownName n) h = absurd h
low_wrong knows g t v (unfit.Bound s) h =
    ((v, inl (subst (λ w. Part (Range t v) (Range w v)) (sym h.0) whole)), subst IsNoCharacter (sym h.0) h.1)

pub high_wrong : (knows : Text → Bool) (g : Grammar) (t v : Text) (u : Unfit) → IsWrongBound v u → IsWrong knows g (Part (Range t v)) u
high_wrong knows g t v unfit.Memory h = tt
high_wrong knows g t v (unfit.UnknownName n) h = absurd h
high_wrong knows g t v (unfit.Bound s) h =
    ((t, inr (subst (λ w. Part (Range t v) (Range t w)) (sym h.0) whole)), subst IsNoCharacter (sym h.0) h.1)

-- a name of neither list is no builtin
pub no_builtin_of : (n : Text) → is_one_of builtin_names n ≡ false → is_one_of property_names n ≡ false → builtin_of n ≡ None
no_builtin_of n h p = other_meaning n h ∙ ap (λ b. if b then Some (PropertyOf n) else None) p

pub unknown_property : (ps : List Property) (n : Text) → is_one_of property_names n ≡ true → has_property ps n ≡ false → IsNoBuiltin (has_property ps) n
unknown_property ps n h k = inr (is_property_of n h, k)

-- the properties at hand are all that are known of those that rules name
pub reason_known : (knows : Text → Bool) (ps : List Property) (g : Grammar) → ((n : Text) → InSomeRule g (Ident n) → knows n ≡ true → has_property ps n ≡ true) → (u : Unfit) → IsReason (has_property ps) g u → IsReason knows g u
reason_known knows ps g f unfit.Memory h = tt
reason_known knows ps g f (unfit.Bound t) h = h
reason_known knows ps g f (unfit.UnknownName s) (i, (none, why)) = (i, (none, elim why [ inl e ↦ inl e | inr p ↦ inr (p.0, not_known p.1) ]))
  where
    not_known : has_property ps (text_of s) ≡ false → knows (text_of s) ≡ false
    not_known h = false_from_ne_true (knows (text_of s)) (λ k. true_is_false (sym (f (text_of s) i k) ∙ h))

-- a refusal of a bound refuses its range
pub low_refused : {X : Type 0} (ps : List Property) (g : Grammar) (e : Expression) (t v : Text) (r : Result X Unfit) (u : Unfit) → e ≡ Range t v → r ≡ Err u → IsWrongBound t u → IfErr r (IsWrongIn ps g e)
low_refused ps g e t v r u h i w = rw (i, h) (low_wrong (has_property ps) g t v u w)

pub high_refused : {X : Type 0} (ps : List Property) (g : Grammar) (e : Expression) (t v : Text) (r : Result X Unfit) (u : Unfit) → e ≡ Range t v → r ≡ Err u → IsWrongBound v u → IfErr r (IsWrongIn ps g e)
high_refused ps g e t v r u h i w = rw (i, h) (high_wrong (has_property ps) g t v u w)

-- a refusal of a part refuses the whole
pub part_refused : {X : Type 0} (ps : List Property) (g : Grammar) (total part : Expression) (r : Result X Unfit) (u : Unfit) → r ≡ Err u → IsWithin total part → IsWrongIn ps g part u → IfErr r (IsWrongIn ps g total)
part_refused ps g total part r u i w h = rw i (wrong_outside (has_property ps) g (Part part) (Part total) w u h)

-- a name that nothing is known of is refused
pub name_refused : (ps : List Property) (g : Grammar) (n m : Text) → m ≡ n → rule_of g n ≡ None → IsNoBuiltin (has_property ps) n → Part (Ident n) (Ident m) × (rule_of g m ≡ None × IsNoBuiltin (has_property ps) m)
name_refused ps g n m e h i =
    let P : Text → Type 0 = λ m. Part (Ident n) (Ident m) × (rule_of g m ≡ None × IsNoBuiltin (has_property ps) m) in
    subst P (sym e) (whole, (h, i))

-- a property of a number is there
number_there : (ps : List Property) (n : Text) (i : ℕ) → IsNumberOf ps n i → has_property ps n ≡ true
number_there [] n i h = absurd (omega (arith, h.within))
number_there (p ∷ ps) n zero h = let same : bytes_eq (text_of p.name) n ≡ true = (text_eq-Decides (text_of p.name) n).1 (h.named p) in rw same refl
number_there (p ∷ ps) n (suc i) h =
    let there = number_there ps n i (record { within = omega (arith, h.within); named = h.named }) in
    go (bytes_eq (text_of p.name) n) there
  where
    go : (b : Bool) → has_property ps n ≡ true → (b || has_property ps n) ≡ true
    go true k = refl
    go false k = k

pub found_there : (ps : List Property) (n : Text) (o : Option ℕ) (b : Bool) → b ≡ is_some o → b ≡ true → IfSome o (IsNumberOf ps n) → has_property ps n ≡ true
found_there ps n None b e t h = absurd (true_is_false (sym t ∙ e))
found_there ps n (Some i) b e t h = number_there ps n i h

pub others_there : (ps qs : List Property) (p : Property) (n : Text) → qs ≡ ps ++ p ∷ [] → has_property ps n ≡ true → has_property qs n ≡ true
others_there ps qs p n e h = subst (λ xs. has_property xs n ≡ true) (sym e) (go ps h)
  where
    one_more : (b : Bool) (xs : List Property) → (has_property xs n ≡ true → has_property (xs ++ p ∷ []) n ≡ true) → (b || has_property xs n) ≡ true → (b || has_property (xs ++ p ∷ []) n) ≡ true
    one_more true xs f h = refl
    one_more false xs f h = f h

    go : (xs : List Property) → has_property xs n ≡ true → has_property (xs ++ p ∷ []) n ≡ true
    go [] h = cc
    go (x ∷ xs) h = one_more (bytes_eq (text_of x.name) n) xs (go xs) h

pub last_there : (ps qs : List Property) (p : Property) (n : Text) → qs ≡ ps ++ p ∷ [] → text_of p.name ≡ n → has_property qs n ≡ true
last_there ps qs p n e h = subst (λ xs. has_property xs n ≡ true) (sym e) (go ps)
  where
    same : bytes_eq (text_of p.name) n ≡ true
    same = (text_eq-Decides (text_of p.name) n).1 h

    one_more : (b : Bool) (xs : List Property) → has_property (xs ++ p ∷ []) n ≡ true → (b || has_property (xs ++ p ∷ []) n) ≡ true
    one_more true xs f = refl
    one_more false xs f = f

    go : (xs : List Property) → has_property (xs ++ p ∷ []) n ≡ true
    go [] = rw same refl
    go (x ∷ xs) = one_more (bytes_eq (text_of x.name) n) xs (go xs)

-- a rule of a number is one of the rules
holds_at : (rules : List OptimizedRule) (i : ℕ) (rule : OptimizedRule) → i < length rules → rule ≡ get_or rules i rule → Contains (optimized_rules_of rules) (optimized_rule_of rule)
holds_at rules i rule l at =
    let xs = optimized_rules_of rules in
    let same : get_or xs i (optimized_rule_of rule) ≡ optimized_rule_of rule = get_or-map optimized_rule_of rules i rule (optimized_rule_of rule) l ∙ ap optimized_rule_of (sym at) in
    let within : i < length xs = omega (arith, l, length-map rules optimized_rule_of) in
    subst (λ r. Contains xs r) same (Contains-get_or xs i (optimized_rule_of rule) within)

-- what is wrong with a body is wrong with the rules
pub rule_refused : {X : Type 0} (ps : List Property) (rules : List OptimizedRule) (i : ℕ) (rule : OptimizedRule) (r : Result X Unfit) (u : Unfit) → r ≡ Err u → i < length rules → rule ≡ get_or rules i rule
    → IsWrongIn ps (optimized_rules_of rules) (optimized_expression_of rule.expr) u → IfErr r (IsReason (has_property ps) (optimized_rules_of rules))
rule_refused ps rules i rule r u e l at h =
    let here : Contains (optimized_rules_of rules) (optimized_rule_of rule) = holds_at rules i rule l at in
    rw e (wrong_outside (has_property ps) (optimized_rules_of rules) (Part (optimized_expression_of rule.expr)) (InSomeRule (optimized_rules_of rules)) (λ x p. (optimized_rule_of rule, here, p)) u h)

pub program_refused : {X : Type 0} (knows : Text → Bool) (ps qs : List Property) (rules others : List OptimizedRule) (r : Result X Unfit) (u : Unfit) → r ≡ Err u → qs ≡ ps → others ≡ rules
    → ((n : Text) → InSomeRule (optimized_rules_of rules) (Ident n) → knows n ≡ true → has_property ps n ≡ true)
    → IsReason (has_property qs) (optimized_rules_of others) u → IfErr r (IsReason knows (optimized_rules_of rules))
program_refused knows ps qs rules others r u e p o f h =
    let P : List Property → List OptimizedRule → Type 0 = λ ps rs. IsReason (has_property ps) (optimized_rules_of rs) u in
    let h' : P ps rules = subst (λ rs. P ps rs) o (subst (λ ps. P ps others) p h) in
    rw e (reason_known knows ps (optimized_rules_of rules) f u h')

-- rules that call rules and builtins alone have no unknown name
pub no_unknown : (knows : Text → Bool) (g : Grammar) → HasKnownNames g → KnowsProperties knows → (n : Text) → InSomeRule g (Ident n) → IsUnknown knows g n → ⊥
no_unknown knows g k p n i (none, inl e) = k n i none e
no_unknown knows g k p n i (none, inr (e, f)) = true_is_false (sym (p n e) ∙ f)

-- and are refused for memory alone, where bounds are characters
pub only_memory : (knows : Text → Bool) (g : Grammar) → HasKnownNames g → HasCharacterBounds g → KnowsProperties knows → (u : Unfit) → IsReason knows g u → u ≡ unfit.Memory
only_memory knows g k b p unfit.Memory h = refl
only_memory knows g k b p (unfit.UnknownName n) h = absurd (no_unknown knows g k p (text_of n) h.0 h.1)
only_memory knows g k b p (unfit.Bound t) ((v, inl i), wrong) = absurd (wrong (b (text_of t) v i).0)
only_memory knows g k b p (unfit.Bound t) ((v, inr i), wrong) = absurd (wrong (b v (text_of t) i).1)
