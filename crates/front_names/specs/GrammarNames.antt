-- The names that a grammar's text defines and calls, and the errors about them.
use Rattle.std.specs.Prelude.{◌≡◌, ◌≢◌, ℕ, List, [], ◌∷◌, ◌++◌, if◌then◌else◌, map, bytes_eq, codes, ⊤}
use Rattle.std.specs.Borrow.{Bor}
use Rattle.base_language.specs.Language.Text.{Text}
use Rattle.base_language.specs.Language.State.{Trees, None', Tree}
use Rattle.base_language.specs.Pieces.NamedTrees.{named}
use Rattle.base_language.specs.Pieces.Pairs.{pairs_text, pairs_trees}
use Rattle.base_language.specs.Pieces.Saying.{Span, piece, written, Complaint, AreErrorsFor}
use Rattle.base_language.specs.declared.grammar.Rule.{Rule}
use Rattle.base_language.specs.declared.runtime.faults.Fault.{Fault}
use Rattle.base_language.specs.declared.runtime.faults.Fault.TheVariants as fault_is
use Rattle.base_language.specs.declared.runtime.tokens.Pairs.{Pairs}
use Rattle.front_nodes.specs.Forests.{forest_text, forest_trees}
use Rattle.front_nodes.specs.declared.forest.Forest.{Forest}
use Rattle.front_names.specs.Names.{first_places, pest_keyword_complaints, duplicate_complaints, undefined_complaints}

module _ (text : List ℕ) where
  -- a tree's own name: its piece, if its rule is `identifier`
  abbrev pub own_name : Text → ℕ → ℕ → List Span
  own_name r i j = if bytes_eq r (codes "identifier") then piece text i j ∷ [] else []

  -- all names in some trees, in the order of the text
  abbrev pub names_in : Trees → List Span
  names_in None' = []
  names_in (Tree r i j inner others) = own_name r i j ++ (names_in inner ++ names_in others)

  -- the names that the trees of a rule define: the one that they begin with
  abbrev pub defined_by : Trees → List Span
  defined_by None' = []
  defined_by (Tree r i j inner others) = own_name r i j

  -- the names that they call, after the first tree
  abbrev pub called_by : Trees → List Span
  called_by None' = []
  called_by (Tree r i j inner others) = names_in others

  -- the names that the rules of a grammar define
  abbrev pub definitions : Trees → List Span
  definitions None' = []
  definitions (Tree r i j inner others) =
      (if bytes_eq r (codes "grammar_rule") then defined_by inner else []) ++ definitions others

  -- the names that they call
  abbrev pub calls : Trees → List Span
  calls None' = []
  calls (Tree r i j inner others) =
      (if bytes_eq r (codes "grammar_rule") then called_by inner else []) ++ calls others

-- the errors about a grammar's names: first keywords, then duplicates, then undefined names
abbrev pub name_complaints : List Span → List Span → List Complaint
name_complaints definitions calls =
    pest_keyword_complaints definitions ++ duplicate_complaints definitions
    ++ undefined_complaints definitions calls

-- the first call of each name that has no definition
abbrev pub first_calls : List Span → List Span → List Span
first_calls definitions calls = first_places (map written definitions) calls

-- the names that the pairs of a grammar's text define
abbrev pub definitions_of : Pairs Rule → List Span
definitions_of pairs = definitions (pairs_text pairs) (named (pairs_trees pairs))

abbrev pub calls_of : Pairs Rule → List Span
calls_of pairs = calls (pairs_text pairs) (named (pairs_trees pairs))

abbrev pub complaints_of : Pairs Rule → List Complaint
complaints_of pairs = name_complaints (definitions_of pairs) (calls_of pairs)

abbrev pub first_calls_of : Pairs Rule → List Span
first_calls_of pairs = first_calls (definitions_of pairs) (calls_of pairs)

-- names, errors and first calls in the trees of a text
abbrev pub forest_definitions : Forest → List Span
forest_definitions forest = definitions (forest_text forest) (named (forest_trees forest))

abbrev pub forest_calls : Forest → List Span
forest_calls forest = calls (forest_text forest) (named (forest_trees forest))

abbrev pub forest_complaints : Forest → List Complaint
forest_complaints forest = name_complaints (forest_definitions forest) (forest_calls forest)

abbrev pub forest_first_calls : Forest → List Span
forest_first_calls forest = first_calls (forest_definitions forest) (forest_calls forest)

-- the texts are those of these pieces
abbrev pub AreWrittenAt : List Span → List (Bor (List ℕ)) → Type 0
AreWrittenAt places texts = map (λ t. t.now) texts ≡ map written places

-- allocation failure, or just the errors that there are, at least one
abbrev pub IsNameRefusal : List Complaint → Fault → Type 0
IsNameRefusal complaints (fault_is.Memory e) = ⊤
IsNameRefusal complaints (fault_is.Grammar errors) = (complaints ≢ []) × AreErrorsFor complaints errors.items
