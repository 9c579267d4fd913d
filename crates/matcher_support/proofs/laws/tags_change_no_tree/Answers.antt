use Rattle.base_language.specs.Pieces.TokenTrees.{NoTokens}
use Rattle.matcher_support.proofs.Untagged.{adds}
use Rattle.matcher_support.proofs.laws.tags_change_no_tree.Goals as goal

pub returns : goal.returns
returns c = λ g classes k s o d. adds g classes d NoTokens
