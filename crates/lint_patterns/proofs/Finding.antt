-- Rules whose lists are written otherwise, one by one.
use Rattle.std.proofs.Common.{◌≡◌, ◌∙◌, ℕ, suc, ◌+◌, ◌<◌, ◌≤◌, List, [], ◌∷◌, ◌++◌, Bool, true, false, if◌then◌else◌, length, drop, get_or, map, refl, sym, ap, subst, add-one, append_assoc, append-nil, drop-cons}
use Rattle.std.proofs.lemmas.List.{drop_all}
use Rattle.base_language.specs.Language.Expression.{Expression}
use Rattle.base_language.specs.Language.Text.{Text}
use Rattle.lint_patterns.specs.Rewritten.{AddsLists, FindsEach, has_list, next_rule, no_rules, passed, searched, span_if_list}
use Rattle.front_spanned.specs.Nodes.{rule_view, rule_views}
use Rattle.front_spanned.specs.Spanned.{Span, SpannedRule}
use Rattle.front_spanned.specs.declared.node.ParserRule.{ParserRule}

-- what a rule adds
adds_here : (f : Text → Bool) (r : SpannedRule) (old new : List Span) → AddsLists f r old new → (here : List Span) × AddsLists f r [] here × (new ≡ old ++ here)
adds_here f r old new (searched a s e) = ([], searched a s refl, e ∙ sym (append-nil old))
adds_here f r old new (passed {b = b} a s p e) = (span_if_list f b r, passed a s p refl, e)

pub found_more : (f : Text → Bool) (rules : List ParserRule) (i : ℕ) (x : ParserRule) (old new more : List Span) → i < length rules → x ≡ get_or rules i x → AddsLists f (rule_view x) old new
    → ((others : List Span) → FindsEach f (rule_views (drop i rules)) others → FindsEach f (rule_views rules) (old ++ others))
    → FindsEach f (rule_views (drop (i + 1) rules)) more → FindsEach f (rule_views rules) (new ++ more)
found_more f rules i x old new more h at adds so_far left =
    let one = adds_here f (rule_view x) old new adds in
    let next : drop i rules ≡ x ∷ drop (i + 1) rules = rw add-one (drop-cons rules i x h ∙ ap (λ z. z ∷ drop (suc i) rules) (sym at)) in
    let from_here : FindsEach f (rule_views (drop i rules)) (one.0 ++ more) = subst (λ l. FindsEach f (rule_views l) (one.0 ++ more)) (sym next) (next_rule one.1 left refl) in
    subst (λ l. FindsEach f (rule_views rules) l) (sym (append_assoc old one.0 more) ∙ ap (λ l. l ++ more) (sym one.2)) (so_far (one.0 ++ more) from_here)

pub found_all : (f : Text → Bool) (rules : List ParserRule) (i : ℕ) (found : List Span) → length rules ≤ i
    → ((others : List Span) → FindsEach f (rule_views (drop i rules)) others → FindsEach f (rule_views rules) (found ++ others)) → FindsEach f (rule_views rules) found
found_all f rules i found h so_far =
    subst (λ l. FindsEach f (rule_views rules) l) (append-nil found)
    (so_far [] (subst (λ l. FindsEach f (rule_views l) []) (sym (drop_all i rules h)) no_rules))

pub list_told : (f : Text → Bool) (b : Expression) (r : SpannedRule) (old new : List Span) → has_list f b ≡ true → new ≡ old ++ r.span ∷ [] → new ≡ old ++ span_if_list f b r
list_told f b r old new h e = e ∙ ap (λ x. old ++ (if x then r.span ∷ [] else [])) (sym h)

pub list_untold : (f : Text → Bool) (b : Expression) (r : SpannedRule) (old new : List Span) → has_list f b ≡ false → new ≡ old → new ≡ old ++ span_if_list f b r
list_untold f b r old new h e = e ∙ (sym (append-nil old) ∙ ap (λ x. old ++ (if x then r.span ∷ [] else [])) (sym h))
