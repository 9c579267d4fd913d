-- A match of the optimized rules.
use Rattle.std.proofs.Common.{◌≡◌, true, IfOk, List, ℕ, Result, Ok, Err, chars}
use Rattle.std.specs.Result.{is_ok}
use Rattle.base_language.specs.Language.Expression.{Grammar}
use Rattle.matcher_engine.specs.ParseTrees.{HasParseTree}
use Rattle.matcher_engine.specs.declared.block.runs.BlockStop.{BlockStop}
use Rattle.matcher_engine.specs.declared.matcher.ParseTree.{ParseTree}
use Rattle.matcher_program.specs.Answers.{start_of}
use Rattle.matcher_support.specs.Sets.{is_in_property}
use Rattle.pest_run.specs.Forms.{HasMatch}

pub preorder_shows_match : (g : Grammar) (rule text : List ℕ) (r : Result ParseTree BlockStop)
    → IfOk r (HasParseTree g (chars rule) (start_of text) is_in_property) → is_ok r ≡ true → HasMatch g rule text
preorder_shows_match g rule text (Ok it) x h = record { end_ = x.state; trees = x.trees; matches = x.found }
preorder_shows_match g rule text (Err why) x h = cc
