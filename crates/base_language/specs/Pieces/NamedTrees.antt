-- Token trees by their rules' names.
use Rattle.std.specs.Prelude.{List}
use Rattle.base_language.specs.Language.State.{Trees, None', Tree}
use Rattle.base_language.specs.Pieces.TokenTrees.{TokenTrees, NoTokens, Token}
use Rattle.base_language.specs.Pieces.TreeViews.{trees_of}
use Rattle.base_language.specs.Pieces.MetaRules.{name_of}
use Rattle.base_language.specs.declared.grammar.Rule.{Rule}
use Rattle.base_language.specs.declared.runtime.trees.TokenTree.{TokenTree}

-- trees with the names of their rules
abbrev pub named : TokenTrees Rule → Trees
named NoTokens = None'
named (Token rule start end_ inner others) = Tree (name_of rule) start end_ (named inner) (named others)

-- the trees of the code, kept with the last one first
abbrev pub named_trees_of : List (TokenTree Rule) → Trees
named_trees_of trees = named (trees_of trees)
