-- Reasons to refuse rules.
use Rattle.std.specs.Prelude.{◌≡◌, ◌≢◌, ◌⊎◌, ⊤, List, Bool, false, true, Some, None, length, map}
use Rattle.base_language.specs.Language.Builtins.{Property as PropertyOf, builtin_of, is_one_of}
use Rattle.base_language.specs.Language.Expression.{Expression, Grammar, Ident, Part, Range, rule_of}
use Rattle.base_language.specs.Language.Text.{Text}
use Rattle.base_language.specs.Language.WellFormed.{InSomeRule}
use Rattle.base_ast.specs.Ast.{text_of}
use Rattle.matcher_program.specs.declared.compile.Unfit.{Unfit}
use Rattle.matcher_program.specs.declared.compile.Unfit.TheVariants as is
use Rattle.matcher_program.specs.declared.form.Property.{Property}

-- the name is no builtin's, or that of a property that is not known
abbrev pub IsNoBuiltin : (Text → Bool) → Text → Type 0
IsNoBuiltin knows n = (builtin_of n ≡ None) ⊎ ((builtin_of n ≡ Some (PropertyOf n)) × (knows n ≡ false))

-- no rule has the name either
abbrev pub IsUnknown : (Text → Bool) → Grammar → Text → Type 0
IsUnknown knows g n = (rule_of g n ≡ None) × IsNoBuiltin knows n

-- every property is known
abbrev pub KnowsProperties : (Text → Bool) → Type 0
KnowsProperties knows = (n : Text) → builtin_of n ≡ Some (PropertyOf n) → knows n ≡ true

-- a text that is not one character
abbrev pub IsNoCharacter : Text → Type 0
IsNoCharacter t = length t ≢ 1

-- the text is refused as a bound of a range
abbrev pub IsWrongBound : Text → Unfit → Type 0
IsWrongBound t is.Memory = ⊤
IsWrongBound t (is.UnknownName n) = ⊥
IsWrongBound t (is.Bound u) = (text_of u ≡ t) × IsNoCharacter t

-- a bound of a range
abbrev pub IsBoundOf : (Expression → Type 0) → Text → Type 0
IsBoundOf Has t = (u : Text) × (Has (Range t u) ⊎ Has (Range u t))

-- the reason to refuse expressions: an allocation failed; or one of them is an unknown name, or a range
-- with a bound that is no character
abbrev pub IsWrong : (Text → Bool) → Grammar → (Expression → Type 0) → Unfit → Type 0
IsWrong knows g Has is.Memory = ⊤
IsWrong knows g Has (is.UnknownName n) = Has (Ident (text_of n)) × IsUnknown knows g (text_of n)
IsWrong knows g Has (is.Bound t) = IsBoundOf Has (text_of t) × IsNoCharacter (text_of t)

-- the reason to refuse rules
abbrev pub IsReason : (Text → Bool) → Grammar → Unfit → Type 0
IsReason knows g = IsWrong knows g (InSomeRule g)

-- the properties have one of this name
abbrev pub has_property : List Property → Text → Bool
has_property ps n = is_one_of (map (λ p. text_of p.name) ps) n

-- the reason to refuse an expression, where the properties of the list are known
abbrev pub IsWrongIn : List Property → Grammar → Expression → Unfit → Type 0
IsWrongIn ps g e = IsWrong (has_property ps) g (Part e)

-- all parts of the second are parts of the first
abbrev pub IsWithin : Expression → Expression → Type 0
IsWithin whole e = (x : Expression) → Part e x → Part whole x
