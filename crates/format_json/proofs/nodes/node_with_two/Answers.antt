use Rattle.std.proofs.Common.{ap}
use Rattle.std.proofs.lemmas.Result.{err_from_is_err_and}
use Rattle.format_json.proofs.NoNodes.{no_end, no_greatest, no_high, no_least, no_low, no_start, none_of_two, takes_two, unknown_of_two}
use Rattle.format_json.proofs.nodes.node_with_two.Goals as goal

pub returns-in_err-text_of-in-range-clause-refused : goal.returns-in_err-text_of-in-range-clause-refused
returns-in_err-text_of-in-range-clause-refused c =
    let p = err_from_is_err_and c.from_residual.result c.from_residual.ensures.1 in
    rw (p.1, p.2, c.in_err-text_of-in-range.ensures.refused.0) (no_low _ _ _ (ap takes_two c.in-range.is) c.in_err-text_of-in-range.ensures.refused.1)

pub returns-in_err-text_of-in-range-2-clause-refused : goal.returns-in_err-text_of-in-range-2-clause-refused
returns-in_err-text_of-in-range-2-clause-refused c =
    let p = err_from_is_err_and c.from_residual-in_err-text_of-in-range-2.result c.from_residual-in_err-text_of-in-range-2.ensures.1 in
    rw (p.1, p.2, c.in_err-text_of-in-range-2.ensures.refused.0) (no_high _ _ _ (ap takes_two c.in-range.is) c.in_err-text_of-in-range-2.ensures.refused.1)

pub returns-in_err-count_of-in-rep_min_max-clause-refused : goal.returns-in_err-count_of-in-rep_min_max-clause-refused
returns-in_err-count_of-in-rep_min_max-clause-refused c =
    let p = err_from_is_err_and c.from_residual-in_err-count_of-in-rep_min_max.result c.from_residual-in_err-count_of-in-rep_min_max.ensures.1 in
    rw (p.1, p.2, c.in_err-count_of-in-rep_min_max.ensures.refused.0) (no_least _ _ _ (ap takes_two c.in-rep_min_max.is) c.in_err-count_of-in-rep_min_max.ensures.refused.1)

pub returns-in_err-count_of-in-rep_min_max-2-clause-refused : goal.returns-in_err-count_of-in-rep_min_max-2-clause-refused
returns-in_err-count_of-in-rep_min_max-2-clause-refused c =
    let p = err_from_is_err_and c.from_residual-in_err-count_of-in-rep_min_max-2.result c.from_residual-in_err-count_of-in-rep_min_max-2.ensures.1 in
    rw (p.1, p.2, c.in_err-count_of-in-rep_min_max-2.ensures.refused.0) (no_greatest _ _ _ (ap takes_two c.in-rep_min_max.is) c.in_err-count_of-in-rep_min_max-2.ensures.refused.1)

pub returns-in_err-index_of-in-peek_slice-clause-refused : goal.returns-in_err-index_of-in-peek_slice-clause-refused
returns-in_err-index_of-in-peek_slice-clause-refused c =
    let p = err_from_is_err_and c.from_residual-in_err-index_of-in-peek_slice.result c.from_residual-in_err-index_of-in-peek_slice.ensures.1 in
    rw (p.1, p.2, c.in_err-index_of-in-peek_slice.ensures.refused.0) (no_start _ _ _ (ap takes_two c.in-peek_slice.is) c.in_err-index_of-in-peek_slice.ensures.refused.1)

pub returns-in_err-end_of-in-peek_slice-clause-refused : goal.returns-in_err-end_of-in-peek_slice-clause-refused
returns-in_err-end_of-in-peek_slice-clause-refused c =
    let p = err_from_is_err_and c.from_residual-in_err-end_of-in-peek_slice.result c.from_residual-in_err-end_of-in-peek_slice.ensures.1 in
    rw (p.1, p.2, c.in_err-end_of-in-peek_slice.ensures.refused.0) (no_end _ _ _ (ap takes_two c.in-peek_slice.is) c.in_err-end_of-in-peek_slice.ensures.refused.1)

pub returns-in_default-clause-refused : goal.returns-in_default-clause-refused
returns-in_default-clause-refused c = unknown_of_two _ _ _ (none_of_two _ c.in_default.not-range c.in_default.not-rep_min_max c.in_default.not-peek_slice)
