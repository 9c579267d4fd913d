-- Findings of tags on pieces that give no token.
use Rattle.std.specs.Prelude.{ℕ, List, [], ◌∷◌, Option, Some, None, Bool, true, false, flat_map}
use Rattle.base_language.specs.Language.Text.{Text}
use Rattle.base_language.specs.Language.Expression.{Expression, Ident, RuleType, Silent, Rule, Grammar, rule_of}
use Rattle.front_names.specs.Messages.{tag_on_builtin, tag_on_silent_rule}
use Rattle.front_names.specs.Names.{is_builtin}
use Rattle.front_spanned.specs.Erasure.{rules_without_spans}
use Rattle.front_spanned.specs.Spanned.{Span, Spanned, Leaf, One, Two, Tag, SpannedRule, span_of}
use Rattle.front_spanned.specs.Walk.{preorder}
use Rattle.base_language.specs.Pieces.Saying.{Complaint}

abbrev pub name_of : Expression → Option Text
name_of (Ident n) = Some n
name_of _ = None

-- the name in a node, if the node is a name inside operators; inside another tag no name counts
abbrev pub name_within : Spanned → Option Text
name_within (Leaf s e) = name_of e
name_within (One s (Tag t) x) = None
name_within (One s f x) = name_within x
name_within (Two s f x y) = None

abbrev pub of_type : RuleType → Option (List ℕ)
of_type Silent = Some tag_on_silent_rule
of_type _ = None

-- the message of a tag on a name that means a rule, or else a builtin
abbrev pub of_meant : Option Rule → Bool → Option (List ℕ)
of_meant (Some r) builtin = of_type r.type_of
of_meant None true = Some tag_on_builtin
of_meant None false = None

abbrev pub told_at : Span → Option (List ℕ) → List Complaint
told_at place None = []
told_at place (Some message) = record { message = message; span = place } ∷ []

module _ (g : Grammar) where
  abbrev pub of_name : Option Text → Option (List ℕ)
  of_name None = None
  of_name (Some n) = of_meant (rule_of g n) (is_builtin n)

  -- the message of a node as a tag
  abbrev pub message_at : Spanned → Option (List ℕ)
  message_at (One s (Tag t) x) = of_name (name_within x)
  message_at _ = None

  -- the findings of a node, and those in a body, in the order of the text
  abbrev pub of_tag : Spanned → List Complaint
  of_tag x = told_at (span_of x) (message_at x)

  abbrev pub of_tags_in : Spanned → List Complaint
  of_tags_in body = flat_map of_tag (preorder body)

-- the findings of all tags
abbrev pub of_tags : List SpannedRule → List Complaint
of_tags rules = flat_map (λ r. of_tags_in (rules_without_spans rules) r.body) rules
