-- Allowances in a text, rule by rule.
use Rattle.std.proofs.Common.{◌≡◌, ◌∙◌, ◌+◌, ◌<◌, ◌≤◌, ℕ, List, [], ◌∷◌, ◌++◌, ap, append-nil, append_assoc, arith, drop, filter, get_or, inl, inr, length, map, min, subst, sym, take}
use Rattle.std.proofs.lemmas.Bool.{cases_lt}
use Rattle.std.proofs.lemmas.List.{drop_all, drop_more, length-map, map-append, take_all, take_more}
use Rattle.std.proofs.lemmas.List.Elements.{filter-append}
use Rattle.std.proofs.Math.ListN.{get_or-map}
use Rattle.std.specs.List.{AllZip}
use Rattle.std.specs.Str.{IsCharBoundary}
use Rattle.base_language.specs.Pieces.Span.{span_end, span_start, span_text}
use Rattle.front_spanned.specs.Nodes.{rule_view, rule_views}
use Rattle.front_spanned.specs.Spanned.{end_of, span_of}
use Rattle.front_spanned.specs.Spanned.{SpannedRule}
use Rattle.front_spanned.specs.declared.node.ParserRule.{ParserRule}
use Rattle.front_spanned.proofs.Places.{span_of-view}
use Rattle.lint_findings.specs.Allowances.{ArePartsOf, LeavesOutAllowed, WarnsOf, allowance_of, allowances_above, allowances_from, allowances_in, comments_above, counted, is_allowance, is_left, is_unused}
use Rattle.lint_findings.specs.Fragments.{Fragment, between, fragment_of, parts_at}
use Rattle.lint_findings.specs.declared.allowances.Allowance.{Allowance}
use Rattle.lint_findings.specs.declared.diagnostic.Diagnostic.{Diagnostic}
use Rattle.lint_findings.specs.declared.fragments.Fragment as code
use Rattle.lint_findings.proofs.Zips.{zip_both}

-- the spans of a rule are of the text
abbrev pub IsPartOf : List ℕ → SpannedRule → Type 0
IsPartOf text rule = (rule.span.text ≡ text) × ((span_of rule.body).text ≡ text)

pub part_at : (text : List ℕ) (rules : List ParserRule) (i : ℕ) (rule : ParserRule) → i < length rules → rule ≡ get_or rules i rule → ArePartsOf text (rule_views rules) → IsPartOf text (rule_view rule)
part_at text rules i rule h e all =
    let same : rule_view rule ≡ get_or (rule_views rules) i (rule_view rule) = ap rule_view e ∙ sym (get_or-map rule_view rules i rule) in
    subst (IsPartOf text) (sym same) (all i (rule_view rule) (rw length-map h))

-- so they can be cut at a rule's name and behind its body
pub name_bound : (text : List ℕ) (rule : ParserRule) → IsPartOf text (rule_view rule) → IsCharBoundary text (span_start rule.span)
name_bound text rule part = subst (λ t. IsCharBoundary t (span_start rule.span)) part.0 rule.span.starts_at_character

pub body_bound : (text : List ℕ) (rule : ParserRule) → IsPartOf text (rule_view rule) → IsCharBoundary text (span_end rule.node.span)
body_bound text rule part =
    let same : span_text rule.node.span ≡ text = sym (ap (λ s. s.text) (span_of-view rule.node)) ∙ part.1 in
    subst (λ t. IsCharBoundary t (span_end rule.node.span)) same rule.node.span.ends_at_character

-- one rule more
pub rule_allowed : (text : List ℕ) (rules : List ParserRule) (i : ℕ) (rule : ParserRule) (from next : ℕ) (gap : Fragment) (old new all : List Allowance) → i < length rules → rule ≡ get_or rules i rule
    → gap ≡ between text from (span_start rule.span) → new ≡ old ++ map (allowance_of (rule_view rule)) (filter is_allowance (comments_above (parts_at 10 gap))) → next ≡ span_end rule.node.span
    → old ++ allowances_from text from (rule_views (drop i rules)) ≡ all → new ++ allowances_from text next (rule_views (drop (i + 1) rules)) ≡ all
rule_allowed text rules i rule from next gap old new all h e g n k w =
    let view = rule_view rule in
    let rest = allowances_from text (end_of view.body) (rule_views (drop (i + 1) rules)) in
    let added : new ≡ old ++ allowances_above text from view = n ∙ ap (λ f. old ++ map (allowance_of view) (filter is_allowance (comments_above (parts_at 10 f)))) g in
    let behind : next ≡ end_of view.body = k ∙ sym (ap (λ s. s.end) (span_of-view rule.node)) in
    let split : drop i rules ≡ rule ∷ drop (i + 1) rules = drop_more rules i rule h ∙ ap (λ r. r ∷ drop (i + 1) rules) (sym e) in
    ap (λ m. new ++ allowances_from text m (rule_views (drop (i + 1) rules))) behind
    ∙ ap (λ xs. xs ++ rest) added
    ∙ append_assoc old (allowances_above text from view) rest
    ∙ ap (λ rs. old ++ allowances_from text from (rule_views rs)) (sym split) ∙ w

-- no rule more
pub rules_allowed : (text : List ℕ) (rules : List ParserRule) (i from : ℕ) (found all : List Allowance) → length rules ≤ i → found ++ allowances_from text from (rule_views (drop i rules)) ≡ all → found ≡ all
rules_allowed text rules i from found all h e =
    sym (append-nil found) ∙ ap (λ rs. found ++ allowances_from text from (rule_views rs)) (sym (drop_all i rules h)) ∙ e

-- one comment more
pub comment_allowed : (rule : SpannedRule) (comments : List code.Fragment) (i : ℕ) (comment : code.Fragment) (first old new : List Allowance) → i < length comments → comment ≡ get_or comments i comment
    → new ≡ old ++ map (allowance_of rule) (filter is_allowance (fragment_of comment ∷ [])) → old ≡ first ++ map (allowance_of rule) (filter is_allowance (map fragment_of (take i comments)))
    → new ≡ first ++ map (allowance_of rule) (filter is_allowance (map fragment_of (take (i + 1) comments)))
comment_allowed rule comments i comment first old new h e n o =
    let of : List Fragment → List Allowance = λ fs. map (allowance_of rule) (filter is_allowance fs) in
    let more : take (i + 1) comments ≡ take i comments ++ comment ∷ [] = take_more comments i comment h ∙ ap (λ c. take i comments ++ c ∷ []) (sym e) in
    let views : map fragment_of (take (i + 1) comments) ≡ map fragment_of (take i comments) ++ fragment_of comment ∷ [] = ap (map fragment_of) more ∙ map-append fragment_of (take i comments) (comment ∷ []) in
    let whole : of (map fragment_of (take (i + 1) comments)) ≡ of (map fragment_of (take i comments)) ++ of (fragment_of comment ∷ []) =
    ap of views ∙ ap (map (allowance_of rule)) (filter-append is_allowance (map fragment_of (take i comments)) (fragment_of comment ∷ []))
    ∙ map-append (allowance_of rule) (filter is_allowance (map fragment_of (take i comments))) (filter is_allowance (fragment_of comment ∷ [])) in
    n ∙ ap (λ xs. xs ++ of (fragment_of comment ∷ [])) o ∙ append_assoc first (of (map fragment_of (take i comments))) (of (fragment_of comment ∷ [])) ∙ ap (λ xs. first ++ xs) (sym whole)

-- the first of some, if there may be fewer, and the others
pub take-least : {A : Type 0} (xs : List A) (n : ℕ) → take (min (length xs) n) xs ≡ take n xs
take-least xs n =
    elim (cases_lt (length xs) n) [
      | inl few ↦ take_all (min (length xs) n) xs (omega arith) ∙ sym (take_all n xs (omega arith))
      | inr many ↦ ap (λ k. take k xs) (let e : min (length xs) n ≡ n = omega arith in e)
    ]

pub drop-least : {A : Type 0} (xs : List A) (n : ℕ) → drop (min (length xs) n) xs ≡ drop n xs
drop-least xs n =
    elim (cases_lt (length xs) n) [
      | inl few ↦ drop_all (min (length xs) n) xs (omega arith) ∙ sym (drop_all n xs (omega arith))
      | inr many ↦ ap (λ k. drop k xs) (let e : min (length xs) n ≡ n = omega arith in e)
    ]

-- what is left, from its parts
pub left_out : (text : List ℕ) (rules : List SpannedRule) (all left : List Diagnostic) (found first others unused : List Allowance) (kept warned told : List Diagnostic) → found ≡ allowances_in text rules
    → first ≡ take 256 found → others ≡ drop 256 found → unused ≡ filter (is_unused all) first → AllZip WarnsOf unused warned → AllZip WarnsOf others told → kept ≡ filter (is_left first) all → left ≡ kept ++ (warned ++ told)
    → LeavesOutAllowed text rules all left
left_out text rules all left found first others unused kept warned told f c o u w t k whole =
    let count : first ≡ counted text rules = c ∙ ap (take 256) f in
    record {
      unused = warned ++ told;
      warned = subst (λ us. AllZip WarnsOf us (warned ++ told))
          (ap (λ us. us ++ others) (u ∙ ap (filter (is_unused all)) count) ∙ ap (λ us. filter (is_unused all) (counted text rules) ++ us) (o ∙ ap (drop 256) f))
          (zip_both WarnsOf unused others warned told w t);
      rest = whole ∙ ap (λ ds. ds ++ (warned ++ told)) (k ∙ ap (λ comments. filter (is_left comments) all) count);
    }
