use Rattle.std.proofs.Common.{◌∙◌, inl, subst, sym}
use Rattle.program_support.specs.Folders.{EndsInPest, IsGrammarName}
use Rattle.pest_lint.specs.Sources.{IsOfFolder}
use Rattle.pest_lint.proofs.Gaining.{gain_more, gain_none, gain_one}
use Rattle.pest_lint.proofs.sources.read_files.Goals as goal

pub loop-name-init : goal.loop-name-init
loop-name-init c = gain_none IsOfFolder _

pub loop-name-preserved : goal.loop-name-preserved
loop-name-preserved c =
    let item = c.name-item.result in
    let named = subst IsGrammarName (sym c.name-item.is) (c.requires c.loop-name.name-index item c.loop-name-test.true) in
    let same = c.in_ok-read_source.ensures ∙ c.as_str.ensures.value in
    gain_more IsOfFolder _ _ _ c.loop-name.invariant
    (gain_one IsOfFolder _ _ _ c.in_ok-push.ensures.items (inl (subst EndsInPest (sym same) named)))

pub returns : goal.returns
returns c = c.loop-name.invariant
