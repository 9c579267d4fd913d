use Rattle.std.proofs.Common.{ap}
use Rattle.std.proofs.lemmas.Result.{err_from_is_err_and}
use Rattle.format_json.proofs.NoNodes.{no_count, no_text, no_texts, none_of_one, takes_one, unknown_of_one}
use Rattle.format_json.proofs.Reasons.{weaker}
use Rattle.format_json.proofs.nodes.node_with.Goals as goal

pub returns-in_err-text_of-in-str-clause-refused : goal.returns-in_err-text_of-in-str-clause-refused
returns-in_err-text_of-in-str-clause-refused c =
    let p = err_from_is_err_and c.from_residual.result c.from_residual.ensures.1 in
    rw (p.1, p.2, c.in_err-text_of-in-str.ensures.refused.0) (no_text _ _ (ap takes_one c.in-str.is) c.in_err-text_of-in-str.ensures.refused.1)

pub returns-in_err-text_of-in-insens-clause-refused : goal.returns-in_err-text_of-in-insens-clause-refused
returns-in_err-text_of-in-insens-clause-refused c =
    let p = err_from_is_err_and c.from_residual-in_err-text_of-in-insens.result c.from_residual-in_err-text_of-in-insens.ensures.1 in
    rw (p.1, p.2, c.in_err-text_of-in-insens.ensures.refused.0) (no_text _ _ (ap takes_one c.in-insens.is) c.in_err-text_of-in-insens.ensures.refused.1)

pub returns-in_err-text_of-in-ident-clause-refused : goal.returns-in_err-text_of-in-ident-clause-refused
returns-in_err-text_of-in-ident-clause-refused c =
    let p = err_from_is_err_and c.from_residual-in_err-text_of-in-ident.result c.from_residual-in_err-text_of-in-ident.ensures.1 in
    rw (p.1, p.2, c.in_err-text_of-in-ident.ensures.refused.0) (no_text _ _ (ap takes_one c.in-ident.is) c.in_err-text_of-in-ident.ensures.refused.1)

pub returns-in_err-text_of-in-push_literal-clause-refused : goal.returns-in_err-text_of-in-push_literal-clause-refused
returns-in_err-text_of-in-push_literal-clause-refused c =
    let p = err_from_is_err_and c.from_residual-in_err-text_of-in-push_literal.result c.from_residual-in_err-text_of-in-push_literal.ensures.1 in
    rw (p.1, p.2, c.in_err-text_of-in-push_literal.ensures.refused.0) (no_text _ _ (ap takes_one c.in-push_literal.is) c.in_err-text_of-in-push_literal.ensures.refused.1)

pub returns-in_err-text_of-in-node_tag-clause-refused : goal.returns-in_err-text_of-in-node_tag-clause-refused
returns-in_err-text_of-in-node_tag-clause-refused c =
    let p = err_from_is_err_and c.from_residual-in_err-text_of-in-node_tag.result c.from_residual-in_err-text_of-in-node_tag.ensures.1 in
    rw (p.1, p.2, c.in_err-text_of-in-node_tag.ensures.refused.0) (no_text _ _ (ap takes_one c.in-node_tag.is) c.in_err-text_of-in-node_tag.ensures.refused.1)

pub returns-in_err-count_of-in-rep_exact-clause-refused : goal.returns-in_err-count_of-in-rep_exact-clause-refused
returns-in_err-count_of-in-rep_exact-clause-refused c =
    let p = err_from_is_err_and c.from_residual-in_err-count_of-in-rep_exact.result c.from_residual-in_err-count_of-in-rep_exact.ensures.1 in
    rw (p.1, p.2, c.in_err-count_of-in-rep_exact.ensures.refused.0) (no_count _ _ (ap takes_one c.in-rep_exact.is) c.in_err-count_of-in-rep_exact.ensures.refused.1)

pub returns-in_err-count_of-in-rep_min-clause-refused : goal.returns-in_err-count_of-in-rep_min-clause-refused
returns-in_err-count_of-in-rep_min-clause-refused c =
    let p = err_from_is_err_and c.from_residual-in_err-count_of-in-rep_min.result c.from_residual-in_err-count_of-in-rep_min.ensures.1 in
    rw (p.1, p.2, c.in_err-count_of-in-rep_min.ensures.refused.0) (no_count _ _ (ap takes_one c.in-rep_min.is) c.in_err-count_of-in-rep_min.ensures.refused.1)

pub returns-in_err-count_of-in-rep_max-clause-refused : goal.returns-in_err-count_of-in-rep_max-clause-refused
returns-in_err-count_of-in-rep_max-clause-refused c =
    let p = err_from_is_err_and c.from_residual-in_err-count_of-in-rep_max.result c.from_residual-in_err-count_of-in-rep_max.ensures.1 in
    rw (p.1, p.2, c.in_err-count_of-in-rep_max.ensures.refused.0) (no_count _ _ (ap takes_one c.in-rep_max.is) c.in_err-count_of-in-rep_max.ensures.refused.1)

pub returns-in_err-texts_of-in-skip-clause-refused : goal.returns-in_err-texts_of-in-skip-clause-refused
returns-in_err-texts_of-in-skip-clause-refused c =
    let p = err_from_is_err_and c.from_residual-in_err-texts_of-in-skip.result c.from_residual-in_err-texts_of-in-skip.ensures.1 in
    rw (p.1, p.2) (weaker _ _ _ (no_texts _ _ (ap takes_one c.in-skip.is)) c.in_err-texts_of-in-skip.ensures.refused)

pub returns-in_default-clause-refused : goal.returns-in_default-clause-refused
returns-in_default-clause-refused c = unknown_of_one _ _ (none_of_one _ c.in_default.not-str c.in_default.not-insens c.in_default.not-ident c.in_default.not-push_literal c.in_default.not-node_tag c.in_default.not-rep_exact c.in_default.not-rep_min c.in_default.not-rep_max c.in_default.not-skip)
