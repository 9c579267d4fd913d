-- Starts of matching.
use Rattle.std.proofs.Common.{◌≡◌, ◌∙◌, ◌+◌, ◌<◌, ℕ, Bool, Bor, List, [], ◌∷◌, ◌++◌, ap, chars, get_or, length, map, sym, take}
use Rattle.std.proofs.lemmas.List.{map-append, take_more}
use Rattle.base_language.specs.Language.Text.{Text}
use Rattle.doc_pages.specs.Starts.{is_start}
use Rattle.front_spanned.specs.Nodes.{rule_view, rule_views}
use Rattle.front_spanned.specs.declared.node.ParserRule.{ParserRule}
use Rattle.lint_findings.specs.Fragments.{fragment_of}
use Rattle.lint_findings.specs.Starts.{names_of}
use Rattle.lint_findings.specs.declared.fragments.Fragment as code_fragment
use Rattle.lint_warnings.specs.Lists.{texts_of}

-- one text more
pub text_more : (fragments : List code_fragment.Fragment) (i : ℕ) (fragment : code_fragment.Fragment)
    (old new : List (Bor (List ℕ))) → i < length fragments → fragment ≡ get_or fragments i fragment
    → new ≡ old ++ fragment.text ∷ [] → texts_of old ≡ names_of (map fragment_of (take i fragments))
    → texts_of new ≡ names_of (map fragment_of (take (i + 1) fragments))
text_more fragments i fragment old new h e n o =
    let of : List code_fragment.Fragment → List Text = λ fs. names_of (map fragment_of fs) in
    let more : of (take (i + 1) fragments) ≡ of (take i fragments) ++ chars fragment.text.now ∷ [] =
    ap of (take_more fragments i fragment h ∙ ap (λ f. take i fragments ++ f ∷ []) (sym e))
    ∙ ap names_of (map-append fragment_of (take i fragments) (fragment ∷ []))
    ∙ map-append (λ f. chars f.text) (map fragment_of (take i fragments)) (fragment_of fragment ∷ []) in
    ap texts_of n ∙ map-append (λ t. chars t.now) old (fragment.text ∷ [])
    ∙ ap (λ ts. ts ++ chars fragment.text.now ∷ []) o ∙ sym more

-- one rule more
pub start_more : (text : List ℕ) (rules : List ParserRule) (i : ℕ) (rule : ParserRule) (flag : Bool)
    (old new : List Bool) → i < length rules → rule ≡ get_or rules i rule → new ≡ old ++ flag ∷ []
    → flag ≡ is_start text (rule_view rule) → old ≡ map (is_start text) (rule_views (take i rules))
    → new ≡ map (is_start text) (rule_views (take (i + 1) rules))
start_more text rules i rule flag old new h e n f o =
    let of : List ParserRule → List Bool = λ rs. map (is_start text) (rule_views rs) in
    let more : of (take (i + 1) rules) ≡ of (take i rules) ++ is_start text (rule_view rule) ∷ [] =
    ap of (take_more rules i rule h ∙ ap (λ r. take i rules ++ r ∷ []) (sym e))
    ∙ ap (map (is_start text)) (map-append rule_view (take i rules) (rule ∷ []))
    ∙ map-append (is_start text) (rule_views (take i rules)) (rule_view rule ∷ []) in
    n ∙ ap (λ xs. xs ++ flag ∷ []) o ∙ ap (λ b. of (take i rules) ++ b ∷ []) f ∙ sym more
