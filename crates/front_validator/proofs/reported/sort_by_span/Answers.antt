use Rattle.std.proofs.Common.{rules}
use Rattle.std.proofs.lemmas.List.Sorted.{answers_always}
use Rattle.base_language.specs.Pieces.Span.{span_start, span_end}
use Rattle.front_validator.proofs.SortedLemmas.{sorted_findings}
use Rattle.front_validator.proofs.reported.sort_by_span.Goals as goal

pub returns : goal.returns
returns c =
    let e = c.in_ok-sort_by_key.ensures in
    sorted_findings c.args.found.now.items c.sort_by_key.new.self.items e.permutation
    (e.sorted (λ f. (span_start f.span, span_end f.span)) (answers_always _ _ _ (λ f a r g h. search rules)))
    (e.stable (λ f. (span_start f.span, span_end f.span)) (answers_always _ _ _ (λ f a r g h. search rules)))
