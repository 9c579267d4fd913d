-- The comments right above a rule.
use Rattle.std.proofs.Common.{◌≡◌, ◌∙◌, ◌-◌, ℕ, List, [], ap, arith, cond, drop, length, map, sym, take, true}
use Rattle.std.proofs.lemmas.List.{drop-map, length-drop, length-map, take-map, take_all}
use Rattle.std.specs.List.{suffix_len}
use Rattle.lint_findings.specs.Allowances.{comments_above, has_blank_end, last_comments}
use Rattle.lint_findings.specs.Fragments.{fragment_of}
use Rattle.lint_findings.specs.Starts.{is_comment}
use Rattle.lint_findings.specs.declared.fragments.Fragment as code

-- the last lines, from the first of the comments on
last_viewed : (above : List code.Fragment) (first : ℕ) → first ≡ length above - suffix_len is_comment (map fragment_of above)
    → map fragment_of (take (length above - first) (drop first above)) ≡ last_comments (map fragment_of above)
last_viewed above first e =
    let all = ap (map fragment_of) (take_all (length above - first) (drop first above) (omega (arith, length-drop first above))) in
    let same : first ≡ length (map fragment_of above) - suffix_len is_comment (map fragment_of above) = e ∙ ap (λ n. n - suffix_len is_comment (map fragment_of above)) (sym (length-map above fragment_of)) in
    all ∙ sym (drop-map fragment_of first above) ∙ ap (λ n. drop n (map fragment_of above)) same

pub above_viewed : (lines : List code.Fragment) (first : ℕ) → has_blank_end (map fragment_of lines) ≡ true
    → first ≡ length (take (length lines - 1) lines) - suffix_len is_comment (map fragment_of (take (length lines - 1) lines))
    → map fragment_of (take (length (take (length lines - 1) lines) - first) (drop first (take (length lines - 1) lines))) ≡ comments_above (map fragment_of lines)
above_viewed lines first blank e =
    let above = take (length lines - 1) lines in
    let same : map fragment_of above ≡ take (length (map fragment_of lines) - 1) (map fragment_of lines) =
    sym (take-map fragment_of (length lines - 1) lines) ∙ ap (λ n. take (n - 1) (map fragment_of lines)) (sym (length-map lines fragment_of)) in
    last_viewed above first e ∙ ap last_comments same
    ∙ ap (λ b. cond b (last_comments (take (length (map fragment_of lines) - 1) (map fragment_of lines))) []) (sym blank)
