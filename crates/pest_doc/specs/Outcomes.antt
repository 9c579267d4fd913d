-- The documents that the program prints, and why there is none.
use Rattle.std.specs.Prelude.{◌≡◌, ℕ, List, [], None, string_bytes}
use Rattle.std.specs.Str.{IsUtf8}
use Rattle.std.specs.declared.alloc.Global.{Global}
use Rattle.std.specs.declared.string.String.{String}
use Rattle.base_language.specs.Language.Expression.{Grammar}
use Rattle.doc_pages.specs.Documents.{AreRulesOf, HasNoRule, IsDiagramOfRule}
use Rattle.doc_markup.specs.Pages.{AreDefinitions, IsMarkdownPage, IsPage}
use Rattle.front_names.specs.GrammarNames.{forest_complaints}
use Rattle.front_nodes.specs.declared.forest.Forest.{Forest}
use Rattle.front_reader.specs.Refusals.{first_flaw_in}
use Rattle.pest_doc.specs.Refusals.{IsRefusal}
use Rattle.pest_doc.specs.declared.arguments.DocumentFormat.{DocumentFormat}
use Rattle.pest_doc.specs.declared.arguments.DocumentFormat.TheVariants as format
use Rattle.pest_meta.specs.Opening.{IsForestOf, IsUnvalidatedError}
use Rattle.pest_meta.specs.declared.opened.OpenError.{OpenError}
use Rattle.pest_doc.specs.declared.run.DocumentOutcome.{DocumentOutcome}
use Rattle.pest_doc.specs.declared.run.DocumentOutcome.TheVariants as outcome

-- the rules that a text spells; its names are in order, and it has no flaw
pub record SpellsRules (text : List ℕ) (rules : Grammar) : Type 0 where
  pub forest : Forest
  pub of_text : IsForestOf text forest
  pub well_named : forest_complaints forest ≡ []
  pub flawless : first_flaw_in forest ≡ None
  pub are_rules : AreRulesOf forest rules

-- a document of rules, in a format, under a title
abbrev pub IsDocumentOf : DocumentFormat → List ℕ → Grammar → String Global → Type 0
IsDocumentOf format.Html title rules d = IsPage title rules (string_bytes d)
IsDocumentOf (format.Svg name) title rules d = IsDiagramOfRule name rules d
IsDocumentOf format.Markdown title rules d = IsMarkdownPage title rules (string_bytes d)
IsDocumentOf format.Ebnf title rules d = AreDefinitions rules (string_bytes d)

-- rules among which the one that a diagram is asked for is not
abbrev pub LacksRule : DocumentFormat → Grammar → Type 0
LacksRule (format.Svg name) rules = HasNoRule name rules
LacksRule _ rules = ⊥

-- a document of rules, or a message that they lack one
abbrev pub IsMadeOf : DocumentFormat → Grammar → DocumentOutcome → Type 0
IsMadeOf f rules (outcome.Document d) = (title : List ℕ) × IsDocumentOf f title rules d
IsMadeOf f rules (outcome.Refused message) = LacksRule f rules
IsMadeOf f rules outcome.NotUtf8 = ⊥

-- the same of the rules that a text spells
abbrev pub IsAnswerOf : DocumentFormat → List ℕ → DocumentOutcome → Type 0
IsAnswerOf f text o = (rules : Grammar) × SpellsRules text rules × IsMadeOf f rules o

-- the answer to a request for a document of a file with these bytes
pub data IsOutcome (f : DocumentFormat) (bytes : List ℕ) : DocumentOutcome → Type 0 where
  answered : {o : DocumentOutcome} → IsAnswerOf f bytes o → IsOutcome f bytes o
  refused : (name : List ℕ) (reason : OpenError) (message : String Global)
      → IsUnvalidatedError bytes reason → IsRefusal name bytes reason (string_bytes message)
      → IsOutcome f bytes (outcome.Refused message)
  not_utf8 : (IsUtf8 bytes → ⊥) → IsOutcome f bytes outcome.NotUtf8
