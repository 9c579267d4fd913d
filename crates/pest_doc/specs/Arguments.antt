-- The document that the words of a command line ask for.
use Rattle.std.specs.Prelude.{◌≡◌, ◌≢◌, ℕ, List, Option, Some, None, codes}
use Rattle.std.specs.Option.{option_map}
use Rattle.pest_doc.specs.declared.arguments.DocumentFormat.{DocumentFormat}
use Rattle.pest_doc.specs.declared.arguments.DocumentFormat.TheVariants as format

-- the format of this name; html if the name is no other's
abbrev pub IsNamed : Option (List ℕ) → DocumentFormat → Type 0
IsNamed name format.Html =
    (name ≢ Some (codes "svg")) × (name ≢ Some (codes "markdown")) × (name ≢ Some (codes "ebnf"))
IsNamed name (format.Svg rule) = name ≡ Some (codes "svg")
IsNamed name format.Markdown = name ≡ Some (codes "markdown")
IsNamed name format.Ebnf = name ≡ Some (codes "ebnf")

-- the rule that a diagram is asked of
abbrev pub asked_rule : DocumentFormat → Option (List ℕ)
asked_rule (format.Svg rule) = option_map (λ name. name.now) rule
asked_rule _ = None
