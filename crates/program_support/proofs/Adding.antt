-- Arguments that commands gain.
use Rattle.std.proofs.Common.{◌≡◌, ◌∙◌, List, [], ◌∷◌, ◌++◌, ap}
use Rattle.program_support.specs.Arguments.{Form}

-- one argument more
pub one_argument_more : (old new forms : List Form) (form : Form) → old ≡ forms → new ≡ old ++ form ∷ []
    → new ≡ forms ++ form ∷ []
one_argument_more old new forms form before adds = adds ∙ ap (λ fs. fs ++ form ∷ []) before
