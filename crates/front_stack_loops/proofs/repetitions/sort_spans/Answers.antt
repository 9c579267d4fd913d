use Rattle.std.proofs.Common.{rules}
use Rattle.std.proofs.lemmas.List.Sorted.{answers_always}
use Rattle.base_language.specs.Pieces.Span.{span_start, span_end}
use Rattle.front_stack_loops.proofs.Telling.{sorted_spans}
use Rattle.front_stack_loops.proofs.repetitions.sort_spans.Goals as goal

pub returns : goal.returns
returns c =
    let e = c.in_ok-sort_by_key.ensures in
    sorted_spans c.args.found.now.items c.sort_by_key.new.self.items e.permutation
    (e.sorted (λ s. (span_start s, span_end s)) (answers_always _ _ _ (λ f a r g h. search rules)))
