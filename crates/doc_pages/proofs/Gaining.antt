-- Documents that gain one rule after another.
use Rattle.std.proofs.Common.{◌≡◌, ℕ, ◌+◌, ◌<◌, List, [], ◌∷◌, ◌++◌, ap, append_assoc, get_or, length, map, subst, sym, take, ◌∙◌}
use Rattle.std.proofs.lemmas.List.{append-nil, length-map, map-append, take_more}
use Rattle.std.specs.Borrow.{Bor}
use Rattle.std.specs.Str.{chars}
use Rattle.base_ast.specs.Ast.{rule_of_code, rules_of}
use Rattle.base_ast.specs.declared.ast.Rule as code
use Rattle.base_language.specs.Language.Expression.{Grammar, Rule}
use Rattle.doc_pages.specs.Documents.{EndsWithMarkdownSections, EndsWithSections}
use Rattle.doc_markup.specs.Links.{AreLinksWithin, AreMarkdownLinksWithin}
use Rattle.doc_markup.specs.Pages.{AreDefinitions, AreMarkdownSections, AreNames, AreSections, definition_bytes, markdown_section, more_definitions, more_markdown, more_sections, no_markdown, no_sections, section_bytes}
use Rattle.doc_markup.specs.declared.ebnf.EbnfToken.{EbnfToken}
use Rattle.doc_markup.specs.declared.markdown.MarkdownToken.{MarkdownToken}
use Rattle.doc_markup.specs.declared.tokens.Markup.{Markup}

-- one rule more
pub rules_more : (rs : List code.Rule) (i : ℕ) (r : code.Rule) → i < length rs → r ≡ get_or rs i r
    → rules_of (take (i + 1) rs) ≡ rules_of (take i rs) ++ rule_of_code r ∷ []
rules_more rs i r h is =
    ap rules_of (take_more rs i r h ∙ ap (λ x. take i rs ++ x ∷ []) (sym is))
    ∙ map-append rule_of_code (take i rs) (r ∷ [])

pub no_sections_yet : (names : List (Bor (List ℕ))) (page : List ℕ) → EndsWithSections names [] page page
no_sections_yet names page = ([], no_sections, sym (append-nil page))

pub one_section_more : (names : List (Bor (List ℕ))) (rules others : Grammar) (r : Rule) (before after : List Markup)
    (old page new : List ℕ) → AreLinksWithin (length names) before → AreLinksWithin (length names) after
    → EndsWithSections names rules old page → new ≡ page ++ section_bytes names r before after
    → others ≡ rules ++ r ∷ [] → EndsWithSections names others old new
one_section_more names rules others r before after old page new first last gained step same =
    let section = section_bytes names r before after in (
      gained.0 ++ section,
      subst (λ rs. AreSections names rs (gained.0 ++ section)) (sym same) (more_sections r before after first last gained.1),
      step ∙ ap (λ t. t ++ section) gained.2 ∙ append_assoc old gained.0 section,
    )

-- there is a name for each rule
pub same_length : (names : List (Bor (List ℕ))) (rules : List code.Rule) → AreNames (rules_of rules) names
    → length names ≡ length rules
same_length names rules are =
    sym (length-map names (λ n. chars n.now)) ∙ ap length are ∙ length-map (rules_of rules) (λ x. x.name)
    ∙ length-map rules rule_of_code

pub links_named : (names : List (Bor (List ℕ))) (rules : List code.Rule) (tokens : List Markup)
    → AreNames (rules_of rules) names → AreLinksWithin (length rules) tokens → AreLinksWithin (length names) tokens
links_named names rules tokens are h = subst (λ n. AreLinksWithin n tokens) (sym (same_length names rules are)) h

pub markdown_links_named : (names : List (Bor (List ℕ))) (rules : List code.Rule) (tokens : List MarkdownToken)
    → AreNames (rules_of rules) names → AreMarkdownLinksWithin (length rules) tokens
    → AreMarkdownLinksWithin (length names) tokens
markdown_links_named names rules tokens are h =
    subst (λ n. AreMarkdownLinksWithin n tokens) (sym (same_length names rules are)) h

pub no_markdown_yet : (names : List (Bor (List ℕ))) (page : List ℕ) → EndsWithMarkdownSections names [] page page
no_markdown_yet names page = ([], no_markdown, sym (append-nil page))

pub one_markdown_more : (names : List (Bor (List ℕ))) (rules others : Grammar) (r : Rule)
    (before after : List MarkdownToken) (old page new : List ℕ) → AreMarkdownLinksWithin (length names) before
    → AreMarkdownLinksWithin (length names) after → EndsWithMarkdownSections names rules old page
    → new ≡ page ++ markdown_section names r before after → others ≡ rules ++ r ∷ []
    → EndsWithMarkdownSections names others old new
one_markdown_more names rules others r before after old page new first last gained step same =
    let section = markdown_section names r before after in (
      gained.0 ++ section,
      subst (λ rs. AreMarkdownSections names rs (gained.0 ++ section)) (sym same) (more_markdown r before after first last gained.1),
      step ∙ ap (λ t. t ++ section) gained.2 ∙ append_assoc old gained.0 section,
    )

pub one_definition_more : (rules others : Grammar) (r : Rule) (body : List EbnfToken) (old new : List ℕ)
    → AreDefinitions rules old → new ≡ old ++ definition_bytes r body → others ≡ rules ++ r ∷ []
    → AreDefinitions others new
one_definition_more rules others r body old new gained step same =
    subst (λ t. AreDefinitions others t) (sym step)
    (subst (λ rs. AreDefinitions rs (old ++ definition_bytes r body)) (sym same) (more_definitions r body gained))

pub one_name_more : (rules others : Grammar) (r : Rule) (names : List (Bor (List ℕ))) (name : Bor (List ℕ))
    → AreNames rules names → chars name.now ≡ r.name → others ≡ rules ++ r ∷ []
    → AreNames others (names ++ name ∷ [])
one_name_more rules others r names name are same grown =
    map-append (λ n. chars n.now) names (name ∷ [])
    ∙ ap (λ t. t ++ chars name.now ∷ []) are ∙ ap (λ t. map (λ x. x.name) rules ++ t ∷ []) same
    ∙ sym (map-append (λ x. x.name) rules (r ∷ [])) ∙ ap (λ rs. map (λ x. x.name) rs) (sym grown)
