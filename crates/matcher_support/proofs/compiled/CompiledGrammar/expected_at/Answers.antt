use Rattle.std.proofs.Common.{◌∙◌, ap, chars, subst}
use Rattle.std.proofs.lemmas.Str.{IsCharBoundary-start}
use Rattle.base_language.specs.Language.Expected.{expected_at}
use Rattle.base_language.specs.Language.State.{State}
use Rattle.matcher_compiler.proofs.Numbering.{expected_have}
use Rattle.matcher_engine.proofs.Results.{first_state}
use Rattle.matcher_engine.proofs.RuleNumbers.{have_once, rules_once}
use Rattle.matcher_engine.specs.BlockRuns.{AreExpected, IsRefusal}
use Rattle.matcher_program.specs.ExpectedNames.{each_once, name_texts}
use Rattle.matcher_support.specs.Sets.{is_in_property}
use Rattle.matcher_support.proofs.CompiledRuns.{refusal_unanswered}
use Rattle.matcher_support.proofs.compiled.CompiledGrammar.expected_at.Goals as goal

pub of-requires-clause-starts_at_character : goal.of-requires-clause-starts_at_character
of-requires-clause-starts_at_character c = IsCharBoundary-start c.args.text.now c.utf8.text

pub of-requires-clause-ends_at_character : goal.of-requires-clause-ends_at_character
of-requires-clause-ends_at_character c = IsCharBoundary-start c.args.text.now c.utf8.text

pub returns-in-Err-clause-refused : goal.returns-in-Err-clause-refused
returns-in-Err-clause-refused c = λ g of. c.in-Err.ensures.refused g of c.args.text.now c.args.steps

pub returns-in-Ok-names_of-clause-expected : goal.returns-in-Ok-names_of-clause-expected
returns-in-Ok-names_of-clause-expected c = λ g of.
    let n = chars c.args.rule.now in
    let s = first_state c.start_pos-start.result c.args.text.now (c.start_pos-start.ensures.text ∙ c.of.ensures.text) (c.start_pos-start.ensures.place ∙ c.of.ensures.start) in
    let P : State → Type 0 = λ t. AreExpected g n t is_in_property c.args.steps c.args.place c.in-Ok-expected_block.rules.items in
    let y = subst P s (c.in-Ok-expected_block.ensures.expected g is_in_property of.code n (c.in-Ok.ensures.found g of)) in
    let ns = expected_at c.args.place y.1 in
    let have = expected_have g c.args.place y.1 in
    (y.0, y.1, c.in-Ok-names_of.ensures g (ap name_texts c.deref.ensures.value ∙ of.names) (each_once ns) (c.deref-in-Ok-expected_block.ensures.value ∙ (y.2 ∙ rules_once g ns have)) (have_once g ns have))

pub returns-clause-refused : goal.returns-clause-refused
returns-clause-refused c = λ g of.
    let n = chars c.args.rule.now in
    let s = first_state c.start_pos-start.result c.args.text.now (c.start_pos-start.ensures.text ∙ c.of.ensures.text) (c.start_pos-start.ensures.place ∙ c.of.ensures.start) in
    let P : State → Type 0 = λ t. IsRefusal g n t is_in_property c.args.steps c.in-Err-expected_block.stop in
    refusal_unanswered g c.args.rule.now c.args.text.now c.args.steps c.in-Err-expected_block.stop
    (subst P s (c.in-Err-expected_block.ensures.refused g is_in_property of.code n (c.in-Ok.ensures.found g of)))
