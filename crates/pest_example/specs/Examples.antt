-- Texts that a rule matches to their end.
use Rattle.std.specs.Prelude.{List, ℕ, All, String, chars, length, string_bytes, ⊤}
use Rattle.std.specs.Global.{Global}
use Rattle.base_language.specs.Language.Expression.{Grammar}
use Rattle.matcher_engine.specs.ParseTrees.{HasEnd}
use Rattle.matcher_program.specs.Answers.{start_of}
use Rattle.matcher_support.specs.Sets.{is_in_property}
use Rattle.pest_example.specs.declared.examples.ExampleSearch.{ExampleSearch}
use Rattle.pest_example.specs.declared.examples.ExampleSearch.TheVariants as search

-- the rule of the grammar matches the text, and its match ends with the text
abbrev pub IsExample : Grammar → (rule text : List ℕ) → Type 0
IsExample g rule text = HasEnd g (chars rule) (start_of text) is_in_property (length text)

-- so it is for each of some texts
abbrev pub AreExamples : Grammar → (rule : List ℕ) → List (String Global) → Type 0
AreExamples g rule texts = All (λ text. IsExample g rule (string_bytes text)) texts

-- what was found are examples
abbrev pub HasExamples : Grammar → (rule : List ℕ) → ExampleSearch → Type 0
HasExamples g rule (search.Found texts) = AreExamples g rule texts.items
HasExamples g rule search.NoRule = ⊤
HasExamples g rule search.Unfit = ⊤
