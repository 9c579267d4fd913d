-- Starts that a comment of a text names.
use Rattle.std.specs.Prelude.{ℕ, ◌+◌, ◌==◌, List, [], Bool, not, None, Option, Some, codes, chars, drop, filter, find, length, map, nat_eq}
use Rattle.std.specs.List.{before_first, starts_with}
use Rattle.base_language.specs.Language.Builtins.{is_one_of}
use Rattle.base_language.specs.Language.Text.{Text}
use Rattle.base_language.specs.Pieces.Saying.{Span, piece}
use Rattle.front_spanned.specs.Spanned.{SpannedRule}
use Rattle.lint_findings.specs.Fragments.{Fragment, parts_at, whole}

abbrev pub is_blank : Fragment → Bool
is_blank line = length line.text == 0

abbrev pub is_comment : Fragment → Bool
is_comment line = starts_with nat_eq line.text (codes "//")

-- how a comment that names starts begins
abbrev pub start_prefix : List ℕ
start_prefix = codes "//! pest-lint: start("

abbrev pub has_starts : Fragment → Bool
has_starts line = starts_with nat_eq line.text start_prefix

-- the comment of a text that names starts: the first such line
abbrev pub start_comment : List ℕ → Option Fragment
start_comment text = find has_starts (parts_at 10 (whole text))

-- the part of such a comment behind its bracket, up to the next one or to its end
abbrev pub inside : Fragment → Fragment
inside comment = record {
  start = comment.start + length start_prefix;
  text = before_first (λ b. b == 41) (drop (length start_prefix) comment.text);
}

-- the names in it, between commas
abbrev pub names_in : Option Fragment → List Fragment
names_in None = []
names_in (Some comment) = filter (λ name. not (is_blank name)) (parts_at 44 (inside comment))

abbrev pub stated_starts : List ℕ → List Fragment
stated_starts text = names_in (start_comment text)

-- their characters
abbrev pub names_of : List Fragment → List Text
names_of names = map (λ name. chars name.text) names

-- no rule has the name
abbrev pub is_unknown : List SpannedRule → Fragment → Bool
is_unknown rules name = not (is_one_of (map (λ rule. rule.name) rules) (chars name.text))

-- the place of a fragment in a text
abbrev pub place_of : List ℕ → Fragment → Span
place_of text name = piece text name.start (name.start + length name.text)

abbrev pub unknown_starts : List ℕ → List SpannedRule → List Span
unknown_starts text rules = map (place_of text) (filter (is_unknown rules) (stated_starts text))
