-- The rules of documents, and parts of documents.
use Rattle.std.specs.Prelude.{◌≡◌, ◌≢◌, ℕ, List, [], ◌∷◌, ◌++◌, Option, Some, None, All, codes, slice_get, string_bytes}
use Rattle.std.specs.Borrow.{Bor}
use Rattle.std.specs.List.{Contains}
use Rattle.std.specs.Str.{chars}
use Rattle.std.specs.declared.alloc.Global.{Global}
use Rattle.std.specs.declared.string.String.{String}
use Rattle.base_ast.specs.Ast.{expression_of}
use Rattle.base_ast.specs.declared.ast.Expr.{Expr}
use Rattle.base_language.specs.Language.Expression.{Grammar, Rule as AnyRule}
use Rattle.doc_diagram.specs.Marks.{Styles, diagram_marks, marks_of}
use Rattle.doc_markup.specs.Pages.{AreMarkdownSections, AreSections}
use Rattle.doc_markup.specs.Tokens.{markup_bytes}
use Rattle.doc_markup.specs.declared.tokens.Markup.{Markup}
use Rattle.front_nodes.specs.declared.forest.Forest.{Forest}
use Rattle.front_reader.specs.Refusals.{IsReadAs}
use Rattle.front_spanned.specs.Erasure.{rules_without_spans}
use Rattle.front_spanned.specs.Spanned.{SpannedRule}

-- the rules that trees are read as, without spans
abbrev pub AreRulesOf : Forest → Grammar → Type 0
AreRulesOf forest rules =
    (read : List SpannedRule) × IsReadAs forest read × (rules ≡ rules_without_spans read)

-- a rule of a name, among rules; rules of which none has it
abbrev pub IsOneNamed : List ℕ → Grammar → AnyRule → Type 0
IsOneNamed name rules r = Contains rules r × (r.name ≡ chars name)

abbrev pub HasNoneNamed : List ℕ → Grammar → Type 0
HasNoneNamed name rules = All (λ r. r.name ≢ chars name) rules

-- the rule that is asked for: one of a name, or the first one if none is given
abbrev pub IsAskedFor : Option (Bor (List ℕ)) → Grammar → AnyRule → Type 0
IsAskedFor None rules r = slice_get rules 0 ≡ Some r
IsAskedFor (Some name) rules r = IsOneNamed name.now rules r

-- rules among which that one is not
abbrev pub HasNoRule : Option (Bor (List ℕ)) → Grammar → Type 0
HasNoRule None rules = rules ≡ []
HasNoRule (Some name) rules = HasNoneNamed name.now rules

-- a diagram of an expression with its style, without links, if rules have numbers by their names
pub record IsDiagramOf (number_of : List ℕ → Option ℕ) (e : Expr) (drawing : String Global) : Type 0 where
  pub tokens : List Markup
  pub written : string_bytes drawing ≡ markup_bytes [] tokens ++ codes "\n"
  pub shown : marks_of tokens ≡ Styles ∷ diagram_marks number_of e

-- a diagram of the rule that is asked for
pub record IsDiagramOfRule (name : Option (Bor (List ℕ))) (rules : Grammar) (d : String Global) : Type 0 where
  pub rule : AnyRule
  pub asked_for : IsAskedFor name rules rule
  pub expression : Expr
  pub body : expression_of expression ≡ rule.body
  pub number_of : List ℕ → Option ℕ
  pub diagram : IsDiagramOf number_of expression d

-- a page that has gained the sections of rules
abbrev pub EndsWithSections : List (Bor (List ℕ)) → Grammar → List ℕ → List ℕ → Type 0
EndsWithSections names rules old new =
    (sections : List ℕ) × AreSections names rules sections × (new ≡ old ++ sections)

abbrev pub EndsWithMarkdownSections : List (Bor (List ℕ)) → Grammar → List ℕ → List ℕ → Type 0
EndsWithMarkdownSections names rules old new =
    (sections : List ℕ) × AreMarkdownSections names rules sections × (new ≡ old ++ sections)
