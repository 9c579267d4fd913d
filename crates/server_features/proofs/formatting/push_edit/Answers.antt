use Rattle.std.proofs.Common.{◌∙◌, ◌++◌, [], ◌∷◌, ap, map}
use Rattle.std.proofs.lemmas.List.{map-append}
use Rattle.serde_json.specs.View.{view}
use Rattle.server_features.proofs.formatting.push_edit.Goals as goal

pub returns : goal.returns
returns c =
    let old = c.args.values.now.items in
    ap (map view) c.in_ok-push.ensures.items ∙ map-append view old (c.in_ok-value.value ∷ []) ∙ ap (λ d. map view old ++ d ∷ []) c.in_ok-value.ensures
