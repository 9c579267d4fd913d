-- The rules to which parts of a page link.
use Rattle.std.specs.Prelude.{◌≡◌, ◌<◌, ◌==◌, ℕ, List, [], ◌∷◌, Option, Some, None, if◌then◌else◌}
use Rattle.std.specs.List.{All, flat_map}
use Rattle.std.specs.Global.{Vec}
use Rattle.base_ast.specs.declared.ast.Expr.{Expr}
use Rattle.doc_diagram.specs.Marks.{LinksTo, Mark, Names, Shows, Styles, diagram_marks}
use Rattle.doc_pages.specs.declared.facts.RuleFacts.{RuleFacts}
use Rattle.doc_pages.specs.declared.source.SourcePart.{SourcePart}
use Rattle.doc_pages.specs.declared.source.SourcePart.TheVariants as part

-- numbers by names, each below a bound
abbrev pub AreNumbersBelow : ℕ → (List ℕ → Option ℕ) → Type 0
AreNumbersBelow n number_of = (name : List ℕ) (r : ℕ) → number_of name ≡ Some r → r < n

-- the callers of each rule, and those that its facts name, each below a bound
abbrev pub AreCallersBelow : ℕ → List (Vec ℕ) → Type 0
AreCallersBelow n lists = All (λ callers. All (λ r. r < n) callers.items) lists

abbrev pub AreFactsBelow : ℕ → List RuleFacts → Type 0
AreFactsBelow n facts = All (λ f. All (λ r. r < n) f.callers.items) facts

-- a diagram links to each rule that it calls
abbrev pub mark_links : Mark → List ℕ
mark_links Styles = []
mark_links (Shows text) = []
mark_links (Names r) = []
mark_links (LinksTo r) = r ∷ []

abbrev pub diagram_links : (List ℕ → Option ℕ) → Expr → List ℕ
diagram_links number_of e = flat_map mark_links (diagram_marks number_of e)

-- a rule's text links to each other rule that it names
abbrev pub other_rule : ℕ → Option ℕ → List ℕ
other_rule own None = []
other_rule own (Some r) = if r == own then [] else r ∷ []

module _ (number_of : List ℕ → Option ℕ) (own : ℕ) where
  abbrev pub part_links : SourcePart → List ℕ
  part_links (part.Name name) = other_rule own (number_of name.now)
  part_links (part.Other text) = []

  abbrev pub source_links : List SourcePart → List ℕ
  source_links = flat_map part_links
