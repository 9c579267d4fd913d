use Rattle.std.proofs.Common.{◌∙◌, ap, filter, map, not, rules, tests}
use Rattle.std.proofs.lemmas.Fn.{filter_same}
use Rattle.lint_findings.specs.Fragments.{fragment_of, parts_at}
use Rattle.lint_findings.specs.Starts.{is_blank}
use Rattle.lint_findings.proofs.Placing.{filter-map}
use Rattle.lint_findings.proofs.starts.names_in.Goals as goal

pub returns : goal.returns
returns c =
    ap (map fragment_of) (filter_same _ (λ name. not (is_blank (fragment_of name))) _ (λ x b f k. search (rules, tests)) _ _ c.retain.ensures.filtered)
    ∙ filter-map (λ name. not (is_blank name)) c.in_ok-names.names.items
    ∙ ap (filter (λ name. not (is_blank name))) (c.in_ok-names.ensures ∙ ap (parts_at 44) c.inside_of.ensures)
