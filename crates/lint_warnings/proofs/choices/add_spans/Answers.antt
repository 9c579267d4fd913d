use Rattle.std.proofs.Common.{◌∙◌, ◌++◌, ap, map}
use Rattle.std.proofs.lemmas.List.{map-append}
use Rattle.front_spanned.specs.Nodes.{piece_of}
use Rattle.lint_warnings.proofs.choices.add_spans.Goals as goal

pub returns : goal.returns
returns c =
    ap (map piece_of) c.in_ok-extend_from_slice.ensures.items
    ∙ (map-append piece_of c.args.found.now.items _ ∙ ap (λ l. map piece_of c.args.found.now.items ++ map piece_of l) c.as_slice.ensures.value)
