use Rattle.std.proofs.Common.{sym, ◌∙◌, ap, map}
use Rattle.std.proofs.lemmas.Result.{IfOk-weaker}
use Rattle.std.proofs.lemmas.Simd.{map-map}
use Rattle.lint_findings.specs.Fragments.{fragment_of}
use Rattle.server_features.specs.Renames.{extent_of}
use Rattle.server_features.proofs.renames.stated_names.Goals as goal

pub returns : goal.returns
returns c =
    let starts = c.in_ok-starts.starts.items in
    IfOk-weaker c.extents_of.result _ _
    (λ names h. h ∙ (ap (map (λ part. extent_of (fragment_of part))) c.deref.ensures.value
    ∙ (sym (map-map extent_of fragment_of starts) ∙ ap (map extent_of) c.in_ok-starts.ensures)))
    c.extents_of.ensures
