-- Links that lead to sections.
use Rattle.std.proofs.Common.{◌≡◌, ◌∙◌, ap, refl, subst, sym, ℕ, ◌<◌, ◌≤◌, ◌⊎◌, inl, inr, List, [], ◌∷◌, ◌++◌, Option, Some, None, append_assoc, arith, codes, length, map, slice_get}
use Rattle.std.proofs.lemmas.List.{length-map}
use Rattle.std.proofs.lemmas.List.Elements.{Contains-push_cases}
use Rattle.std.proofs.lemmas.Option.{slice_get-map, slice_get_cases}
use Rattle.std.specs.Borrow.{Bor}
use Rattle.std.specs.List.{Contains}
use Rattle.std.specs.Option.{option_map}
use Rattle.std.specs.Str.{chars}
use Rattle.base_language.specs.Language.Expression.{Grammar, Rule}
use Rattle.doc_markup.specs.Escape.{escaped_text}
use Rattle.doc_markup.specs.Laws.{LeadsToSection, LinksLead, NoLinksElsewhere}
use Rattle.doc_markup.specs.Pages.{AreNames, AreSections, IsPage, expression_bytes, more_sections, no_sections, page_start, section_bytes}
use Rattle.doc_markup.specs.Template.{foot}
use Rattle.doc_markup.specs.Tokens.{link_bytes, markup_bytes}
use Rattle.doc_markup.specs.declared.tokens.Markup.{Markup}

-- a text with the start of a section of this id
pub record HasSection (id text : List ℕ) : Type 0 where
  pub before : List ℕ
  pub after : List ℕ
  pub is : text ≡ before ++ codes "<section id=\"" ++ id ++ codes "\">" ++ after

-- a text before and a text after
longer : (p b s i e a q : List ℕ) → p ++ (b ++ s ++ i ++ e ++ a) ++ q ≡ p ++ b ++ s ++ i ++ e ++ (a ++ q)
longer p b s i e a q =
    ap (λ t. t ++ q) (sym (append_assoc p (b ++ s ++ i ++ e) a)) ∙ append_assoc (p ++ (b ++ s ++ i ++ e)) a q
    ∙ ap (λ t. t ++ (a ++ q)) (sym (append_assoc p (b ++ s ++ i) e)
    ∙ ap (λ t. t ++ e) (sym (append_assoc p (b ++ s) i) ∙ ap (λ t. t ++ i) (sym (append_assoc p b s))))

before_and_after : (id text p q : List ℕ) → HasSection id text → HasSection id (p ++ text ++ q)
before_and_after id text p q h = record {
  before = p ++ h.before;
  after = h.after ++ q;
  is = ap (λ t. p ++ t ++ q) h.is ∙ longer p h.before (codes "<section id=\"") id (codes "\">") h.after q;
}

-- a section begins with its id
from_third : (a b c d e f g h : List ℕ) → a ++ b ++ c ++ d ++ e ++ f ++ g ++ h ≡ a ++ b ++ (c ++ (d ++ (e ++ (f ++ (g ++ h)))))
from_third a b c d e f g h =
    append_assoc (a ++ b ++ c ++ d ++ e ++ f) g h ∙ append_assoc (a ++ b ++ c ++ d ++ e) f (g ++ h)
    ∙ append_assoc (a ++ b ++ c ++ d) e (f ++ (g ++ h)) ∙ append_assoc (a ++ b ++ c) d (e ++ (f ++ (g ++ h)))
    ∙ append_assoc (a ++ b) c (d ++ (e ++ (f ++ (g ++ h))))

after_text : (text s i e r : List ℕ) → text ++ (s ++ i ++ (e ++ r)) ≡ text ++ s ++ i ++ e ++ r
after_text text s i e r =
    sym (append_assoc text (s ++ i) (e ++ r)) ∙ ap (λ t. t ++ (e ++ r)) (sym (append_assoc text s i))
    ∙ sym (append_assoc (text ++ s ++ i) e r)

section_begins : (names : List (Bor (List ℕ))) (text : List ℕ) (r : Rule) (before after : List Markup)
    → HasSection (escaped_text r.name) (text ++ section_bytes names r before after)
section_begins names text r before after =
    let id = escaped_text r.name in
    let b = markup_bytes names before in
    let a = markup_bytes names after in
    let rest = id ++ (codes "</h2>\n" ++ (b ++ (expression_bytes r ++ (a ++ codes "</section>\n")))) in record {
      before = text;
      after = codes "\n<a class=\"back\" href=\"#all-rules\">all rules</a>\n<h2>" ++ rest;
      is = ap (λ t. text ++ t) (from_third (codes "<section id=\"" ++ id) (codes "\">\n<a class=\"back\" href=\"#all-rules\">all rules</a>\n<h2>") id (codes "</h2>\n") b (expression_bytes r) a (codes "</section>\n")
          ∙ append_assoc (codes "<section id=\"" ++ id) (codes "\">\n<a class=\"back\" href=\"#all-rules\">all rules</a>\n<h2>") rest
          ∙ ap (λ t. codes "<section id=\"" ++ id ++ t) (append_assoc (codes "\">") (codes "\n<a class=\"back\" href=\"#all-rules\">all rules</a>\n<h2>") rest))
          ∙ after_text text (codes "<section id=\"") id (codes "\">") (codes "\n<a class=\"back\" href=\"#all-rules\">all rules</a>\n<h2>" ++ rest);
    }

-- each rule has its section
has_section : (names : List (Bor (List ℕ))) (rules : Grammar) (text : List ℕ) (r : Rule)
    → AreSections names rules text → Contains rules r → HasSection (escaped_text r.name) text
has_section names rules text r no_sections h = absurd (let l = h.1 in omega (arith, l))
has_section names rules text r (more_sections {rules = others} {bytes = fewer} q before after p s sections) h =
    elim (Contains-push_cases others q r h) [
      | inl k ↦ before_and_after (escaped_text r.name) fewer [] (section_bytes names q before after)
          (has_section names others fewer r sections k)
      | inr same ↦ subst (λ x. HasSection (escaped_text x.name) (fewer ++ section_bytes names q before after)) same
          (section_begins names fewer q before after)
    ]

-- a rule of a page, by its name among the names
named_rule : (names : List (Bor (List ℕ))) (rules : Grammar) (r : ℕ) (name : Bor (List ℕ)) (rule : Rule)
    → AreNames rules names → slice_get names r ≡ Some name → slice_get rules r ≡ Some rule → chars name.now ≡ rule.name
named_rule names rules r name rule are h k =
    let same : Some (chars name.now) ≡ Some rule.name =
    sym (ap (option_map (λ n. chars n.now)) h) ∙ sym (slice_get-map (λ n. chars n.now) names r)
    ∙ ap (λ t. slice_get t r) are ∙ slice_get-map (λ x. x.name) rules r ∙ ap (option_map (λ x. x.name)) k
    in cc

same_length : (names : List (Bor (List ℕ))) (rules : Grammar) → AreNames rules names → length names ≡ length rules
same_length names rules are =
    sym (length-map names (λ n. chars n.now)) ∙ ap length are ∙ length-map rules (λ x. x.name)

leads : (title : List ℕ) (rules : Grammar) (page : List ℕ) (p : IsPage title rules page) (name : Bor (List ℕ)) (rule : Rule)
    → chars name.now ≡ rule.name → Contains rules rule → LeadsToSection page (link_bytes (Some name))
leads title rules page p name rule same h =
    let found = before_and_after _ _ (page_start title p.names p.introduction p.index) foot
    (has_section p.names rules p.sections rule p.are_sections h) in
    record {
      id = escaped_text rule.name;
      target = ap (λ n. codes " href=\"#" ++ escaped_text n ++ codes "\"") same;
      before = found.before;
      after = found.after;
      section = p.whole ∙ found.is;
    }

pub links_lead : LinksLead
links_lead title rules page p r l =
    let equal = same_length p.names rules p.are_names in
    elim ((slice_get_cases p.names r).1) [
      | inl n ↦ elim ((slice_get_cases rules r).1) [
        | inl q ↦ subst (λ o. LeadsToSection page (link_bytes o)) (sym n.2)
            (leads title rules page p n.0 q.0 (named_rule p.names rules r n.0 q.0 p.are_names n.2 q.2) (r, l, q.3))
        | inr none ↦ absurd (let k = none.0 in omega arith)
      ]
      | inr none ↦ absurd (let k = none.0 in omega arith)
    ]

pub no_links_elsewhere : NoLinksElsewhere
no_links_elsewhere title rules page p r l =
    let equal = same_length p.names rules p.are_names in
    elim ((slice_get_cases p.names r).1) [
      | inl n ↦ absurd (let k = n.1 in omega arith)
      | inr none ↦ ap link_bytes none.1
    ]
