-- The grammar of compiled rules.
use Rattle.std.specs.Prelude.{◌≡◌, ◌<◌, ℕ, List, [], ◌∷◌, Option, Some, None, Bool, true, false, ◌&&◌, ◌||◌, ◌==◌, bytes_eq, codes, get_or, length, map, nat_eq, ⊤}
use Rattle.base_language.specs.Language.Text.{Text}
use Rattle.base_ast.specs.Ast.{rule_type_of, text_of}
use Rattle.base_language.specs.Language.Builtins.{Property as PropertyOf, builtin_of, is_between, is_letter, is_lower, is_upper}
use Rattle.base_language.specs.Language.Matching.{starts_in}
use Rattle.base_language.specs.Language.State.{Classes}
use Rattle.base_language.specs.Language.Expression as spec
use Rattle.base_language.specs.Language.Expression.{Expression, Rule, Grammar, rule_of, whitespace, comment}
use Rattle.matcher_program.specs.declared.form.Class.{Class}
use Rattle.matcher_program.specs.declared.form.Class.TheVariants as class
use Rattle.matcher_program.specs.declared.form.Form.{Form}
use Rattle.matcher_program.specs.declared.form.Form.TheVariants as form
use Rattle.matcher_program.specs.declared.form.ProgramRule.{ProgramRule}
use Rattle.matcher_program.specs.declared.form.Property.{Property}

-- the name of a class, and its set
abbrev pub class_name : Class → Text
class_name class.Any = codes "ANY"
class_name class.Digit = codes "ASCII_DIGIT"
class_name class.NonzeroDigit = codes "ASCII_NONZERO_DIGIT"
class_name class.BinDigit = codes "ASCII_BIN_DIGIT"
class_name class.OctDigit = codes "ASCII_OCT_DIGIT"
class_name class.HexDigit = codes "ASCII_HEX_DIGIT"
class_name class.AlphaLower = codes "ASCII_ALPHA_LOWER"
class_name class.AlphaUpper = codes "ASCII_ALPHA_UPPER"
class_name class.Alpha = codes "ASCII_ALPHA"
class_name class.Alphanumeric = codes "ASCII_ALPHANUMERIC"
class_name class.Ascii = codes "ASCII"

abbrev pub set_of : Class → ℕ → Bool
set_of class.Any c = true
set_of class.Digit c = is_between 48 57 c
set_of class.NonzeroDigit c = is_between 49 57 c
set_of class.BinDigit c = is_between 48 49 c
set_of class.OctDigit c = is_between 48 55 c
set_of class.HexDigit c = is_between 48 57 c || (is_between 97 102 c || is_between 65 70 c)
set_of class.AlphaLower c = is_lower c
set_of class.AlphaUpper c = is_upper c
set_of class.Alpha c = is_letter c
set_of class.Alphanumeric c = is_letter c || is_between 48 57 c
set_of class.Ascii c = is_between 0 127 c

-- whether a form matches one character and no more, and is no choice: a character, a range, a builtin's set
abbrev pub is_one : Form → Bool
is_one (form.Str t) = length (text_of t) == 1
is_one (form.Range a b) = true
is_one (form.One k) = true
is_one _ = false

-- whether a form matches one character and no more: such a form, or a choice of such
abbrev pub is_set : Form → Bool
is_set (form.Choice' p a q b) = is_one a && is_set b
is_set f = is_one f

-- the characters that such a form matches
abbrev pub characters_of : Form → ℕ → Bool
characters_of (form.Str t) = λ c. starts_in (λ d. nat_eq d c) (text_of t)
characters_of (form.Range a b) = is_between a b
characters_of (form.One k) = set_of k
characters_of (form.Choice' p a q b) = λ c. characters_of a c || characters_of b c
characters_of _ = λ c. false

-- the character is in one of the ranges
abbrev pub is_in_ranges : List (ℕ × ℕ) → ℕ → Bool
is_in_ranges [] c = false
is_in_ranges (r ∷ rs) c = is_between r.0 r.1 c || is_in_ranges rs c

-- every property has the set of its name; the numbers are those of characters
abbrev pub Fits : List Property → Classes → Type 0
Fits ps classes = (i : ℕ) (d : Property) → i < length ps → (c : ℕ) → c < 1114112
    → is_in_ranges (get_or ps i d).ranges.items c ≡ classes (text_of (get_or ps i d).name) c

-- the name of the rule of a number
abbrev pub name_at : List Text → ℕ → Text
name_at names i = get_or names i []

module _ (names : List Text) where
  -- the expression of a form, where the rules have these names
  abbrev pub expression_of : Form → Expression
  expression_of (form.Str t) = spec.Str (text_of t)
  expression_of (form.Insens t) = spec.Insens (text_of t)
  expression_of (form.Range a b) = spec.Range (a ∷ []) (b ∷ [])
  expression_of (form.One k) = spec.Ident (class_name k)
  expression_of (form.Set' p a) = expression_of a
  expression_of form.Start = spec.Ident (codes "SOI")
  expression_of form.End = spec.Ident (codes "EOI")
  expression_of form.Newline = spec.Ident (codes "NEWLINE")
  expression_of (form.Call i) = spec.Ident (name_at names i)
  expression_of (form.Property n i) = spec.Ident (text_of n)
  expression_of (form.PosPred' p a) = spec.PosPred (expression_of a)
  expression_of (form.NegPred' p a) = spec.NegPred (expression_of a)
  expression_of (form.Seq' p a q b) = spec.Seq (expression_of a) (expression_of b)
  expression_of (form.Choice' p a q b) = spec.Choice (expression_of a) (expression_of b)
  expression_of (form.Opt' p a) = spec.Opt (expression_of a)
  expression_of (form.Rep' p a) = spec.Rep (expression_of a)
  expression_of (form.RepOnce' p a) = spec.RepOnce (expression_of a)
  expression_of (form.Skip ss) = spec.Skip (map text_of ss.items)
  expression_of (form.Push' p a) = spec.Push (expression_of a)
  expression_of (form.PushLiteral s) = spec.PushLiteral (text_of s)
  expression_of (form.Tag' p a t) = spec.NodeTag (expression_of a) (text_of t)
  expression_of (form.Restore' p a) = spec.RestoreOnErr (expression_of a)
  expression_of form.Peek = spec.Ident (codes "PEEK")
  expression_of form.Pop = spec.Ident (codes "POP")
  expression_of form.Discard = spec.Ident (codes "DROP")
  expression_of form.PeekAll = spec.Ident (codes "PEEK_ALL")
  expression_of form.PopAll = spec.Ident (codes "POP_ALL")
  expression_of (form.PeekSlice i j) = spec.PeekSlice i j

  abbrev pub grammar_rule : ProgramRule → Rule
  grammar_rule r =
      record { name = text_of r.name; type_of = rule_type_of r.kind; body = expression_of r.body }

-- the names of program rules, and the grammar that the program rules represent
abbrev pub names_of : List ProgramRule → List Text
names_of rs = map (λ r. text_of r.name) rs

abbrev pub grammar_of : List ProgramRule → Grammar
grammar_of rs = map (grammar_rule (names_of rs)) rs

-- a number is that of the rule that a name means
abbrev pub IsRuleOf : Grammar → Text → ℕ → Type 0
IsRuleOf g n i = record {
  within : i < length g;
  meant : (d : Rule) → rule_of g n ≡ Some (get_or g i d);
  named : (d : Rule) → (get_or g i d).name ≡ n;
}

-- a number is that of a property of a name
abbrev pub IsNumberOf : List Property → Text → ℕ → Type 0
IsNumberOf ps n i = record {
  within : i < length ps;
  named : (d : Property) → text_of (get_or ps i d).name ≡ n;
}

-- a number is that of the property that a name means, which no rule has
abbrev pub IsPropertyOf : Grammar → List Property → Text → ℕ → Type 0
IsPropertyOf g ps n i = record {
  number : IsNumberOf ps n i;
  unnamed : rule_of g n ≡ None;
  is : builtin_of n ≡ Some (PropertyOf n);
}

-- the names in a form mean what they are resolved to
abbrev pub IsBound : Grammar → List Text → List Property → Form → Type 0
IsBound g names ps (form.One k) = rule_of g (class_name k) ≡ None
IsBound g names ps (form.Set' p a) = (is_set a ≡ true) × IsBound g names ps a
IsBound g names ps form.Start = rule_of g (codes "SOI") ≡ None
IsBound g names ps form.End = rule_of g (codes "EOI") ≡ None
IsBound g names ps form.Newline = rule_of g (codes "NEWLINE") ≡ None
IsBound g names ps (form.Call i) = IsRuleOf g (name_at names i) i
IsBound g names ps (form.Property n i) = IsPropertyOf g ps (text_of n) i
IsBound g names ps (form.PosPred' p a) = IsBound g names ps a
IsBound g names ps (form.NegPred' p a) = IsBound g names ps a
IsBound g names ps (form.Seq' p a q b) = IsBound g names ps a × IsBound g names ps b
IsBound g names ps (form.Choice' p a q b) = IsBound g names ps a × IsBound g names ps b
IsBound g names ps (form.Opt' p a) = IsBound g names ps a
IsBound g names ps (form.Rep' p a) = IsBound g names ps a
IsBound g names ps (form.RepOnce' p a) = IsBound g names ps a
IsBound g names ps (form.Push' p a) = IsBound g names ps a
IsBound g names ps (form.Tag' p a t) = IsBound g names ps a
IsBound g names ps (form.Restore' p a) = IsBound g names ps a
IsBound g names ps form.Peek = rule_of g (codes "PEEK") ≡ None
IsBound g names ps form.Pop = rule_of g (codes "POP") ≡ None
IsBound g names ps form.Discard = rule_of g (codes "DROP") ≡ None
IsBound g names ps form.PeekAll = rule_of g (codes "PEEK_ALL") ≡ None
IsBound g names ps form.PopAll = rule_of g (codes "POP_ALL") ≡ None
IsBound g names ps _ = ⊤

abbrev pub IsSkippedRule : Grammar → Text → Option ℕ → Type 0
IsSkippedRule g n None = rule_of g n ≡ None
IsSkippedRule g n (Some i) = IsRuleOf g n i

-- a number is that of some rule
pub record IsKnown (g : Grammar) (number : Option ℕ) : Type 0 where
  pub name : Text
  pub meant : IsSkippedRule g name number

abbrev pub IsProgramRule : Grammar → List Text → List Property → ProgramRule → Type 0
IsProgramRule g names ps r = record {
  bound : IsBound g names ps r.body;
  blank : r.blank ≡ (bytes_eq (text_of r.name) whitespace || bytes_eq (text_of r.name) comment);
}

-- the program rules, and the two that are skipped, are those of their grammar
pub record IsSound (rs : List ProgramRule) (ps : List Property) (white note : Option ℕ) : Type 0 where
  pub rules : (i : ℕ) (d : ProgramRule) → i < length rs
      → IsProgramRule (grammar_of rs) (names_of rs) ps (get_or rs i d)
  pub whitespace_is : IsSkippedRule (grammar_of rs) whitespace white
  pub comment_is : IsSkippedRule (grammar_of rs) comment note
