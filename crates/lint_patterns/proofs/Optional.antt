-- Names of rules that cannot fail, rule by rule.
use Rattle.std.proofs.Common.{◌≡◌, ◌∙◌, ℕ, ◌+◌, ◌<◌, List, [], ◌∷◌, ◌++◌, Bool, ◌||◌, length, take, get_or, map, sym, ap}
use Rattle.std.specs.List.{list_any}
use Rattle.std.proofs.Math.Bool.{or-false}
use Rattle.std.proofs.lemmas.List.{map-append, take_more}
use Rattle.std.proofs.lemmas.List.Folds.{list_any-append}
use Rattle.base_language.specs.Language.Text.{Text}
use Rattle.lint_patterns.specs.Rewritten.{is_optional_as, is_optional_name}
use Rattle.front_spanned.specs.Nodes.{rule_view, rule_views}
use Rattle.front_spanned.specs.declared.node.ParserRule.{ParserRule}

pub optional_more : (rules : List ParserRule) (i : ℕ) (x : ParserRule) (n : Text) (old new : Bool) → i < length rules → x ≡ get_or rules i x
    → new ≡ (old || is_optional_as (rule_view x) n) → old ≡ is_optional_name (rule_views (take i rules)) n → new ≡ is_optional_name (rule_views (take (i + 1) rules)) n
optional_more rules i x n old new h at e o =
    let more : take (i + 1) rules ≡ take i rules ++ x ∷ [] = take_more rules i x h ∙ ap (λ r. take i rules ++ r ∷ []) (sym at) in
    let all : is_optional_name (rule_views (take (i + 1) rules)) n ≡ (is_optional_name (rule_views (take i rules)) n || is_optional_as (rule_view x) n) =
    ap (λ l. is_optional_name (rule_views l) n) more
    ∙ (ap (λ l. is_optional_name l n) (map-append rule_view (take i rules) (x ∷ []))
    ∙ (list_any-append (λ r. is_optional_as r n) (rule_views (take i rules)) (rule_view x ∷ [])
    ∙ ap (λ b. is_optional_name (rule_views (take i rules)) n || b) (or-false (is_optional_as (rule_view x) n))))
    in
    e ∙ (ap (λ b. b || is_optional_as (rule_view x) n) o ∙ sym all)
