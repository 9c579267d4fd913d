-- The places of the rules that pairs are read as are those of the rules that the text spells.
use Rattle.std.proofs.Common.{◌≡◌, ℕ, List, map, subst}
use Rattle.std.specs.declared.string.String.{String}
use Rattle.std.specs.declared.alloc.Global.{Global}
use Rattle.base_language.specs.Pieces.NamedTrees.{named}
use Rattle.base_language.specs.Pieces.Pairs.{pairs_text, pairs_trees}
use Rattle.base_language.specs.declared.grammar.Rule.{Rule}
use Rattle.base_language.specs.declared.runtime.tokens.Pairs.{Pairs}
use Rattle.test_calling.specs.NamedPlaces.{AreNamedPlaces, named_place, named_place_of}
use Rattle.front_spanned.specs.Spanned.{SpannedRule}
use Rattle.front_reader.specs.Reading.{ReadsRules}
use Rattle.front_reader.specs.Refusals.{AreReadAs}
use Rattle.front_syntax.specs.Parses.{AreOfAGrammar}
use Rattle.pest_meta.specs.Spelling.{HasTrees}

pub are_named : (text : List ℕ) (pairs : Pairs Rule) (rules : List SpannedRule) (places : List (String Global × (ℕ × ℕ))) → pairs_text pairs ≡ text → AreOfAGrammar pairs → AreReadAs pairs rules → map named_place_of places ≡ map named_place rules → AreNamedPlaces text places
are_named text pairs rules places same spelled read equal =
    record {
      trees = named (pairs_trees pairs);
      of_text = subst (λ t. HasTrees t (named (pairs_trees pairs))) same spelled;
      rules = rules;
      read = subst (λ t. ReadsRules t (named (pairs_trees pairs)) rules) same read;
      same = equal;
    }
