-- Texts that are escaped stay texts: nothing in them is markup. Links lead to sections.
use Rattle.std.specs.Prelude.{◌≡◌, ℕ, ◌<◌, ◌≤◌, List, [], ◌∷◌, ◌++◌, Bool, ◌||◌, ◌==◌, false, true, codes, length}
use Rattle.std.specs.List.{Contains, flat_map}
use Rattle.base_language.specs.Language.Expression.{Grammar}
use Rattle.doc_markup.specs.Ebnf.{comment_character, is_plain, plain_character}
use Rattle.doc_markup.specs.Escape.{escaped, visible}
use Rattle.doc_markup.specs.Markdown.{code_character, inline_character, is_punctuation}
use Rattle.doc_markup.specs.Pages.{IsPage}
use Rattle.doc_markup.specs.Tokens.{token_bytes}
use Rattle.doc_markup.specs.declared.tokens.Markup.TheVariants as token

-- `<`, `>`, `&` or a quote
abbrev pub is_special : ℕ → Bool
is_special c = c == 60 || (c == 62 || (c == 38 || (c == 34 || c == 39)))

-- the entities that are written for them
abbrev pub entities : List (List ℕ)
entities = codes "&lt;" ∷ codes "&gt;" ∷ codes "&amp;" ∷ codes "&quot;" ∷ codes "&#39;" ∷ []

-- entities, and characters that are shown and not special, one after another
pub data IsInert : List ℕ → Type 0 where
  inert_end : IsInert []
  inert_shown : {t : List ℕ} (c : ℕ) → is_special c ≡ false → visible c ≡ c → IsInert t → IsInert (c ∷ t)
  inert_entity : {t : List ℕ} (e : List ℕ) → Contains entities e → IsInert t → IsInert (e ++ t)

-- characters that are shown, in one line, each punctuation character after a backslash
pub data IsInertInline : List ℕ → Type 0 where
  inline_end : IsInertInline []
  inline_shown : {t : List ℕ} (c : ℕ) → is_punctuation c ≡ false → (c == 10) ≡ false → visible c ≡ c
      → IsInertInline t → IsInertInline (c ∷ t)
  inline_punctuation : {t : List ℕ} (c : ℕ) → is_punctuation c ≡ true → IsInertInline t
      → IsInertInline (92 ∷ c ∷ t)

-- characters that are shown, each line after the first indented by four blanks
pub data IsIndented : List ℕ → Type 0 where
  code_end : IsIndented []
  code_shown : {t : List ℕ} (c : ℕ) → (c == 10) ≡ false → visible c ≡ c → IsIndented t → IsIndented (c ∷ t)
  code_line : {t : List ℕ} → IsIndented t → IsIndented (codes "\n    " ++ t)

-- characters that stand for themselves between quotes
pub data IsPlainText : List ℕ → Type 0 where
  plain_end : IsPlainText []
  plain_more : {t : List ℕ} (c : ℕ) → is_plain c ≡ true → IsPlainText t → IsPlainText (c ∷ t)

-- characters that are shown, each slash after a blank, so that no comment ends there
pub data IsInertComment : List ℕ → Type 0 where
  comment_end : IsInertComment []
  comment_shown : {t : List ℕ} (c : ℕ) → (c == 47) ≡ false → visible c ≡ c → IsInertComment t
      → IsInertComment (c ∷ t)
  comment_slash : {t : List ℕ} → IsInertComment t → IsInertComment (codes " /" ++ t)

-- every text is inert as it is written
abbrev pub EscapedIsInert : Type 0
EscapedIsInert = (t : List ℕ) → IsInert (escaped t)

abbrev pub InlineIsInert : Type 0
InlineIsInert = (t : List ℕ) → IsInertInline (flat_map inline_character t)

abbrev pub CodeIsIndented : Type 0
CodeIsIndented = (t : List ℕ) → IsIndented (flat_map code_character t)

abbrev pub StringsArePlain : Type 0
StringsArePlain = (t : List ℕ) → IsPlainText (flat_map plain_character t)

abbrev pub CommentsAreInert : Type 0
CommentsAreInert = (t : List ℕ) → IsInertComment (flat_map comment_character t)

-- a link to a section that is on a page
pub record LeadsToSection (page link : List ℕ) : Type 0 where
  pub id : List ℕ
  pub target : link ≡ codes " href=\"#" ++ id ++ codes "\""
  pub before : List ℕ
  pub after : List ℕ
  pub section : page ≡ before ++ codes "<section id=\"" ++ id ++ codes "\">" ++ after

-- on a page, a link to one of its rules leads to a section, and a link to any other is not written
abbrev pub LinksLead : Type 0
LinksLead = (title : List ℕ) (rules : Grammar) (page : List ℕ) (p : IsPage title rules page) (r : ℕ)
    → r < length rules → LeadsToSection page (token_bytes p.names (token.Link r))

abbrev pub NoLinksElsewhere : Type 0
NoLinksElsewhere = (title : List ℕ) (rules : Grammar) (page : List ℕ) (p : IsPage title rules page) (r : ℕ)
    → length rules ≤ r → token_bytes p.names (token.Link r) ≡ []
