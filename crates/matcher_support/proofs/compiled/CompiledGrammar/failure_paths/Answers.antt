use Rattle.std.proofs.Common.{◌∙◌, chars, subst}
use Rattle.std.proofs.lemmas.Str.{IsCharBoundary-start}
use Rattle.base_language.specs.Language.State.{State}
use Rattle.matcher_engine.proofs.Results.{first_state}
use Rattle.matcher_engine.specs.BlockRuns.{ArePaths, IsRefusal}
use Rattle.matcher_engine.specs.Traces.{paths_in}
use Rattle.matcher_support.specs.Sets.{is_in_property}
use Rattle.matcher_support.proofs.CompiledRuns.{refusal_unanswered}
use Rattle.matcher_support.proofs.compiled.CompiledGrammar.failure_paths.Goals as goal

pub of-requires-clause-starts_at_character : goal.of-requires-clause-starts_at_character
of-requires-clause-starts_at_character c = IsCharBoundary-start c.args.text.now c.utf8.text

pub of-requires-clause-ends_at_character : goal.of-requires-clause-ends_at_character
of-requires-clause-ends_at_character c = IsCharBoundary-start c.args.text.now c.utf8.text

pub returns-in-Err-clause-refused : goal.returns-in-Err-clause-refused
returns-in-Err-clause-refused c = λ g of. c.in-Err.ensures.refused g of c.args.text.now c.args.steps

pub returns-in-Ok-paths_block-clause-paths : goal.returns-in-Ok-paths_block-clause-paths
returns-in-Ok-paths_block-clause-paths c = λ g of.
    let n = chars c.args.rule.now in
    let s = first_state c.start_pos-start.result c.args.text.now (c.start_pos-start.ensures.text ∙ c.of.ensures.text) (c.start_pos-start.ensures.place ∙ c.of.ensures.start) in
    let P : State → Type 0 = λ t. ArePaths g n t is_in_property c.args.steps c.args.place (paths_in c.in-Ok-paths_block.paths.items) in
    subst P s (c.in-Ok-paths_block.ensures.paths g is_in_property of.code n (c.in-Ok.ensures.found g of))

pub returns-in-Err-paths_block-clause-refused : goal.returns-in-Err-paths_block-clause-refused
returns-in-Err-paths_block-clause-refused c = λ g of.
    let n = chars c.args.rule.now in
    let s = first_state c.start_pos-start.result c.args.text.now (c.start_pos-start.ensures.text ∙ c.of.ensures.text) (c.start_pos-start.ensures.place ∙ c.of.ensures.start) in
    let P : State → Type 0 = λ t. IsRefusal g n t is_in_property c.args.steps c.in-Err-paths_block.stop in
    refusal_unanswered g c.args.rule.now c.args.text.now c.args.steps c.in-Err-paths_block.stop
    (subst P s (c.in-Err-paths_block.ensures.refused g is_in_property of.code n (c.in-Ok.ensures.found g of)))
