-- The names that a grammar need not define.
use Rattle.std.specs.Prelude.{ℕ, List, [], ◌∷◌, ◌++◌, Option, Some, None, Bool, true, false, ◌&&◌, ◌||◌, if◌then◌else◌, bytes_eq, codes, nat_le}
use Rattle.base_language.specs.Language.Text.{Text}

-- builtins: one character of a set, one of a property name's set, and the others
pub data Builtin : Type 0 where
  One : (ℕ → Bool) → Builtin
  Property : Text → Builtin
  Newline : Builtin
  Soi : Builtin
  Eoi : Builtin
  Peek : Builtin
  Pop : Builtin
  Drop : Builtin
  PeekAll : Builtin
  PopAll : Builtin

pub record Named : Type 0 where
  pub name : Text
  pub builtin : Builtin

abbrev pub is_between : ℕ → ℕ → ℕ → Bool
is_between a b c = nat_le a c && nat_le c b

abbrev pub is_upper : ℕ → Bool
is_upper c = is_between 65 90 c

abbrev pub is_lower : ℕ → Bool
is_lower c = is_between 97 122 c

abbrev pub is_letter : ℕ → Bool
is_letter c = is_upper c || is_lower c

-- the builtins other than property names
unfoldable pub builtins : List Named
builtins =
    record { name = codes "ANY"; builtin = One (λ c. true) }
    ∷ record { name = codes "SOI"; builtin = Soi }
    ∷ record { name = codes "EOI"; builtin = Eoi }
    ∷ record { name = codes "PEEK"; builtin = Peek }
    ∷ record { name = codes "POP"; builtin = Pop }
    ∷ record { name = codes "DROP"; builtin = Drop }
    ∷ record { name = codes "PEEK_ALL"; builtin = PeekAll }
    ∷ record { name = codes "POP_ALL"; builtin = PopAll }
    ∷ record { name = codes "NEWLINE"; builtin = Newline }
    ∷ record { name = codes "ASCII_DIGIT"; builtin = One (is_between 48 57) }
    ∷ record { name = codes "ASCII_NONZERO_DIGIT"; builtin = One (is_between 49 57) }
    ∷ record { name = codes "ASCII_BIN_DIGIT"; builtin = One (is_between 48 49) }
    ∷ record { name = codes "ASCII_OCT_DIGIT"; builtin = One (is_between 48 55) }
    ∷ record {
      name = codes "ASCII_HEX_DIGIT";
      builtin = One (λ c. is_between 48 57 c || (is_between 97 102 c || is_between 65 70 c));
    }
    ∷ record { name = codes "ASCII_ALPHA_LOWER"; builtin = One is_lower }
    ∷ record { name = codes "ASCII_ALPHA_UPPER"; builtin = One is_upper }
    ∷ record { name = codes "ASCII_ALPHA"; builtin = One is_letter }
    ∷ record { name = codes "ASCII_ALPHANUMERIC"; builtin = One (λ c. is_letter c || is_between 48 57 c) }
    ∷ record { name = codes "ASCII"; builtin = One (is_between 0 127) }
    ∷ []

-- the property names: general categories of Unicode
unfoldable pub general_categories : List Text
general_categories =
    codes "LETTER" ∷ codes "CASED_LETTER" ∷ codes "UPPERCASE_LETTER" ∷ codes "LOWERCASE_LETTER"
    ∷ codes "TITLECASE_LETTER" ∷ codes "MODIFIER_LETTER" ∷ codes "OTHER_LETTER" ∷ codes "MARK"
    ∷ codes "NONSPACING_MARK" ∷ codes "SPACING_MARK" ∷ codes "ENCLOSING_MARK" ∷ codes "NUMBER"
    ∷ codes "DECIMAL_NUMBER" ∷ codes "LETTER_NUMBER" ∷ codes "OTHER_NUMBER" ∷ codes "PUNCTUATION"
    ∷ codes "CONNECTOR_PUNCTUATION" ∷ codes "DASH_PUNCTUATION" ∷ codes "OPEN_PUNCTUATION"
    ∷ codes "CLOSE_PUNCTUATION"
    ∷ codes "INITIAL_PUNCTUATION" ∷ codes "FINAL_PUNCTUATION" ∷ codes "OTHER_PUNCTUATION" ∷ codes "SYMBOL"
    ∷ codes "MATH_SYMBOL" ∷ codes "CURRENCY_SYMBOL" ∷ codes "MODIFIER_SYMBOL" ∷ codes "OTHER_SYMBOL"
    ∷ codes "SEPARATOR" ∷ codes "SPACE_SEPARATOR" ∷ codes "LINE_SEPARATOR" ∷ codes "PARAGRAPH_SEPARATOR"
    ∷ codes "OTHER" ∷ codes "CONTROL" ∷ codes "FORMAT" ∷ codes "SURROGATE" ∷ codes "PRIVATE_USE"
    ∷ codes "UNASSIGNED" ∷ []

-- binary properties
unfoldable pub binary_properties : List Text
binary_properties =
    codes "ALPHABETIC" ∷ codes "BIDI_CONTROL" ∷ codes "CASED" ∷ codes "CASE_IGNORABLE"
    ∷ codes "CHANGES_WHEN_CASEFOLDED" ∷ codes "CHANGES_WHEN_CASEMAPPED" ∷ codes "CHANGES_WHEN_LOWERCASED"
    ∷ codes "CHANGES_WHEN_TITLECASED" ∷ codes "CHANGES_WHEN_UPPERCASED" ∷ codes "DASH"
    ∷ codes "DEFAULT_IGNORABLE_CODE_POINT" ∷ codes "DEPRECATED" ∷ codes "DIACRITIC" ∷ codes "EXTENDER"
    ∷ codes "GRAPHEME_BASE" ∷ codes "GRAPHEME_EXTEND" ∷ codes "HEX_DIGIT" ∷ codes "HYPHEN"
    ∷ codes "IDEOGRAPHIC"
    ∷ codes "ID_CONTINUE" ∷ codes "ID_START" ∷ codes "JOIN_CONTROL" ∷ codes "LOWERCASE" ∷ codes "MATH"
    ∷ codes "NONCHARACTER_CODE_POINT" ∷ codes "PATTERN_SYNTAX" ∷ codes "PATTERN_WHITE_SPACE"
    ∷ codes "QUOTATION_MARK"
    ∷ codes "RADICAL" ∷ codes "REGIONAL_INDICATOR" ∷ codes "SENTENCE_TERMINAL" ∷ codes "SOFT_DOTTED"
    ∷ codes "TERMINAL_PUNCTUATION" ∷ codes "UNIFIED_IDEOGRAPH" ∷ codes "UPPERCASE"
    ∷ codes "VARIATION_SELECTOR"
    ∷ codes "WHITE_SPACE" ∷ codes "XID_CONTINUE" ∷ codes "XID_START" ∷ []

-- scripts
unfoldable pub scripts : List Text
scripts =
    codes "ARABIC" ∷ codes "ARMENIAN" ∷ codes "BENGALI" ∷ codes "BOPOMOFO" ∷ codes "BRAILLE"
    ∷ codes "CHEROKEE"
    ∷ codes "COPTIC" ∷ codes "CYRILLIC" ∷ codes "DEVANAGARI" ∷ codes "ETHIOPIC" ∷ codes "GEORGIAN"
    ∷ codes "GOTHIC"
    ∷ codes "GREEK" ∷ codes "GUJARATI" ∷ codes "GURMUKHI" ∷ codes "HAN" ∷ codes "HANGUL" ∷ codes "HEBREW"
    ∷ codes "HIRAGANA" ∷ codes "KANNADA" ∷ codes "KATAKANA" ∷ codes "KHMER" ∷ codes "LAO" ∷ codes "LATIN"
    ∷ codes "MALAYALAM" ∷ codes "MONGOLIAN" ∷ codes "MYANMAR" ∷ codes "OGHAM" ∷ codes "ORIYA" ∷ codes "RUNIC"
    ∷ codes "SINHALA" ∷ codes "SYRIAC" ∷ codes "TAMIL" ∷ codes "TELUGU" ∷ codes "THAANA" ∷ codes "THAI"
    ∷ codes "TIBETAN" ∷ codes "YI" ∷ []

-- all 115, in the order in which they are listed
unfoldable pub property_names : List Text
property_names = general_categories ++ binary_properties ++ scripts

abbrev pub is_one_of : List Text → Text → Bool
is_one_of [] n = false
is_one_of (t ∷ ts) n = bytes_eq t n || is_one_of ts n

abbrev pub looked_up : List Named → Text → Option Builtin
looked_up [] n = if is_one_of property_names n then Some (Property n) else None
looked_up (b ∷ bs) n = if bytes_eq b.name n then Some b.builtin else looked_up bs n

-- the builtin of a name
abbrev pub builtin_of : Text → Option Builtin
builtin_of n = looked_up builtins n
