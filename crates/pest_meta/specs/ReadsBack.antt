-- Round trip of printing and reading.
use Rattle.std.specs.Prelude.{◌≡◌, ℕ, ℤ, ◌<◌, ◌≤◌, ◌^◌, List, [], ◌∷◌, ◌++◌, Option, Some, None, Bool, true, false, ◌||◌, ◌&&◌, not, nat_eq, codes, length, ◌↔◌, All}
use Rattle.std.specs.Str.{IsUtf8, chars}
use Rattle.base_language.specs.Language.Text.{Text, IsText}
use Rattle.base_language.specs.Language.Builtins.{is_letter, is_between}
use Rattle.base_language.specs.Language.Matching.{begins}
use Rattle.base_language.specs.Language.Expression.{Expression, Str, Insens, Range, Ident, PeekSlice, PosPred, NegPred, Seq, Choice, Opt, Rep, RepOnce, RepExact, RepMin, RepMax, RepMinMax, Skip, Push, RestoreOnErr, RuleType, Normal, Silent, Atomic, CompoundAtomic, NonAtomic, Rule, Grammar, PushLiteral, NodeTag}
use Rattle.base_language.specs.Language.State.{Classes, NonAtomicMode, State, Success, Trees}
use Rattle.base_language.specs.Language.Meaning.{Matches}
use Rattle.base_language.specs.Pieces.MetaRules.{name_of}
use Rattle.front_grammar.specs.MetaGrammar.{meta_grammar}
use Rattle.base_language.specs.declared.grammar.Rule as meta
use Rattle.base_language.specs.declared.grammar.Rule.TheVariants.{grammar_rules, identifier, tag_id}
use Rattle.front_grammar.specs.Outcomes.{Spells}
use Rattle.front_spanned.specs.Spanned.{SpannedRule}
use Rattle.front_spanned.specs.Erasure.{rules_without_spans}
use Rattle.front_reader.specs.Reading.{ReadsRules}
use Rattle.front_reader.specs.Flaws.{first_flaw, fits_i32}
use Rattle.base_ast.specs.Printing.{printed}
use Rattle.pest_meta.specs.Nesting.{nested_rules}

-- a letter or `_`; and a digit too
abbrev pub is_name_start : ℕ → Bool
is_name_start c = nat_eq 95 c || is_letter c

abbrev pub is_name_character : ℕ → Bool
is_name_character c = nat_eq 95 c || (is_letter c || is_between 48 57 c)

abbrev pub are_name_characters : Text → Bool
are_name_characters [] = true
are_name_characters (c ∷ t) = is_name_character c && are_name_characters t

-- a tag, without its `#`: a letter or `_`, then letters, digits and `_`
abbrev pub is_tag : Text → Bool
is_tag [] = false
is_tag (c ∷ t) = is_name_start c && are_name_characters t

-- a name: a tag that does not begin with PUSH
abbrev pub is_name : Text → Bool
is_name t = not (begins nat_eq (codes "PUSH") t) && is_tag t

-- a slice's end, if there is one, is an i32
abbrev pub FitsI32 : Option ℤ → Type 0
FitsI32 None = Unit {0}
FitsI32 (Some i) = fits_i32 i ≡ true

-- an expression that the text of a grammar can say: strings of scalar values, bounds of one character,
-- names, tags, numbers within their types, and no count of at most 0; forward searches and wrappers are
-- the optimizer's alone
abbrev pub IsWritable : Expression → Type 0
IsWritable (Str t) = IsText t
IsWritable (Insens t) = IsText t
IsWritable (Range t u) = IsText t × IsText u × (length t ≡ 1) × (length u ≡ 1)
IsWritable (Ident n) = is_name n ≡ true
IsWritable (PeekSlice i j) = (fits_i32 i ≡ true) × FitsI32 j
IsWritable (PosPred e) = IsWritable e
IsWritable (NegPred e) = IsWritable e
IsWritable (Seq a b) = IsWritable a × IsWritable b
IsWritable (Choice a b) = IsWritable a × IsWritable b
IsWritable (Opt e) = IsWritable e
IsWritable (Rep e) = IsWritable e
IsWritable (RepOnce e) = IsWritable e
IsWritable (RepExact e n) = IsWritable e × (1 ≤ n) × (n < 2 ^ 32)
IsWritable (RepMin e m) = IsWritable e × (m < 2 ^ 32)
IsWritable (RepMax e n) = IsWritable e × (1 ≤ n) × (n < 2 ^ 32)
IsWritable (RepMinMax e m n) = IsWritable e × (m < 2 ^ 32) × (1 ≤ n) × (n < 2 ^ 32)
IsWritable (Skip ts) = ⊥
IsWritable (Push e) = IsWritable e
IsWritable (PushLiteral t) = IsText t
IsWritable (NodeTag e t) = (is_tag t ≡ true) × IsWritable e
IsWritable (RestoreOnErr e) = ⊥

-- a rule of the meta-grammar takes the whole text
pub record TakesAll (rule : meta.Rule) (classes : Classes) (t : Text) : Type 0 where
  pub end : State
  pub trees : Trees
  pub matched : Matches meta_grammar classes (Ident (name_of rule)) NonAtomicMode
      (record { position = 0; rest = t; stack = [] }) (Success end trees)
  pub all : end.rest ≡ []

-- names are the texts that the rule `identifier` takes as a whole
abbrev pub NamesAreIdentifiers : Type 0
NamesAreIdentifiers = (n : Text) (classes : Classes) → (is_name n ≡ true) ↔ TakesAll identifier classes n

-- tags are the texts that the rule `tag_id` takes after `#`, to the end of the text
abbrev pub TagsAreTagIds : Type 0
TagsAreTagIds = (t : Text) (classes : Classes)
    → (is_tag t ≡ true) ↔ TakesAll tag_id classes (codes "#" ++ t)

-- a rule whose name and body can be written
abbrev pub IsWritableRule : Rule → Type 0
IsWritableRule r = (is_name r.name ≡ true) × IsWritable r.body

-- the sign of a type, before the brace
abbrev pub modifier : RuleType → Text
modifier Normal = []
modifier Silent = codes "_"
modifier Atomic = codes "@"
modifier CompoundAtomic = codes "$"
modifier NonAtomic = codes "!"

-- a rule on a line of its own, and all rules of a grammar
abbrev pub rule_line : Rule → Text
rule_line r = r.name ++ codes " = " ++ modifier r.type_of ++ codes "{ " ++ printed r.body ++ codes " }\n"

abbrev pub grammar_text : Grammar → Text
grammar_text [] = []
grammar_text (r ∷ rs) = rule_line r ++ grammar_text rs

-- the text spells rules without a flaw, and they are these up to nesting
pub record IsReadAs (text : List ℕ) (rules : Grammar) : Type 0 where
  pub trees : Trees
  pub spelled : Spells grammar_rules text trees
  pub flawless : first_flaw text trees ≡ None
  pub said : List SpannedRule
  pub read : ReadsRules text trees said
  pub same : nested_rules (rules_without_spans said) ≡ nested_rules rules

-- a Normal rule `x` with that body, and its text
abbrev pub rule_x : Expression → Rule
rule_x e = record { name = codes "x"; type_of = Normal; body = e }

abbrev pub rule_text : Expression → Text
rule_text e = codes "x = { " ++ printed e ++ codes " }"

-- the text of a rule with the printed expression as its body is read as that rule
abbrev pub ReadsBack : Type 0
ReadsBack = (e : Expression) (text : List ℕ) → IsWritable e → IsUtf8 text → chars text ≡ rule_text e
    → IsReadAs text (rule_x e ∷ [])

-- and there is such a text
abbrev pub TextsExist : Type 0
TextsExist = (e : Expression) → IsWritable e → (text : List ℕ) × IsUtf8 text × (chars text ≡ rule_text e)

-- a grammar that is printed a rule a line is read as that grammar
abbrev pub GrammarsReadBack : Type 0
GrammarsReadBack = (rules : Grammar) (text : List ℕ) → All IsWritableRule rules → IsUtf8 text
    → chars text ≡ grammar_text rules → IsReadAs text rules

-- and there is such a text
abbrev pub GrammarTextsExist : Type 0
GrammarTextsExist = (rules : Grammar) → All IsWritableRule rules
    → (text : List ℕ) × IsUtf8 text × (chars text ≡ grammar_text rules)

-- a text is read as one grammar at most, up to nesting
abbrev pub ReadsAsOne : Type 0
ReadsAsOne = (text : List ℕ) (g h : Grammar) → IsReadAs text g → IsReadAs text h
    → nested_rules g ≡ nested_rules h

-- `!e?` is read as a predicate over an option, and as no option of a predicate: that prints `(!e)?`
pub record PredicateBeforeQuestionMark : Type 0 where
  pub without : (text : List ℕ) → IsUtf8 text → chars text ≡ codes "x = { !e? }"
      → IsReadAs text (rule_x (NegPred (Opt (Ident (codes "e")))) ∷ [])
      × (IsReadAs text (rule_x (Opt (NegPred (Ident (codes "e")))) ∷ []) → ⊥)
  pub with_parentheses : (text : List ℕ) → IsUtf8 text → chars text ≡ codes "x = { (!e)? }"
      → IsReadAs text (rule_x (Opt (NegPred (Ident (codes "e")))) ∷ [])
