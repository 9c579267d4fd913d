-- Trees that are spliced one after another.
use Rattle.std.proofs.Common.{◌≡◌, refl, ◌∙◌}
use Rattle.base_language.specs.Language.State.{Trees, None', Tree, joined}
use Rattle.matcher_support.specs.Tags.{TaggedTrees}
use Rattle.matcher_support.specs.Spliced.{spliced}

pub spliced_joined : (us vs : Trees) (ts : TaggedTrees) → spliced (joined us vs) ts ≡ spliced vs (spliced us ts)
spliced_joined None' vs ts = refl
spliced_joined (Tree n i j inner others) vs ts = spliced_joined others vs _

pub spliced_three : (us vs ws : Trees) (ts : TaggedTrees) → spliced (joined us (joined vs ws)) ts ≡ spliced ws (spliced vs (spliced us ts))
spliced_three us vs ws ts = spliced_joined us (joined vs ws) ts ∙ spliced_joined vs ws (spliced us ts)
