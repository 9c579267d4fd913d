-- Names of rules, and what is found of a tag.
use Rattle.std.proofs.Common.{◌≡◌, ℕ, List, [], ◌∷◌, ◌++◌, Option, Some, None, slice_get, Bor, length, refl, sym, ◌∙◌, ap, subst}
use Rattle.std.specs.Option.{option_map}
use Rattle.std.specs.Slice.{IsItemAt}
use Rattle.std.proofs.lemmas.Option.{slice_get_past, slice_get_read}
use Rattle.std.proofs.lemmas.List.{map-append}
use Rattle.base_language.specs.Language.Text.{Text}
use Rattle.base_language.specs.Language.Expression.{rule_of, last_place}
use Rattle.front_spanned.specs.declared.node.ParserRule.{ParserRule}
use Rattle.front_analysis.specs.Names.{grammar_of, rule_said}
use Rattle.front_spanned.specs.Nodes.{piece_of}
use Rattle.front_spanned.specs.Spanned.{Span}
use Rattle.base_language.specs.Pieces.Saying.{written}
use Rattle.front_validator.specs.Problems.{message_of}
use Rattle.front_validator.specs.Reporting.{finding_of, findings_of}
use Rattle.front_validator.specs.Tags.{told_at}
use Rattle.front_validator.specs.declared.problems.RuleFinding.{RuleFinding}
use Rattle.front_analysis.proofs.Resolved.{Named, absent, named, resolved}

-- the rule that is lent is the one at its place
pub lent_rule : (rules : List ParserRule) (i : ℕ) (r : Option (Bor ParserRule)) → IsItemAt rules i r
    → option_map (λ rule. rule_said rule.now) r ≡ option_map rule_said (slice_get rules i)
lent_rule rules i None h = ap (option_map rule_said) (sym (slice_get_past rules i h.3))
lent_rule rules i (Some rule) h =
    ap (option_map rule_said) (sym (slice_get_read rules (length rules) i rule.now refl h.3.0 h.1))

-- a name means the rule at its place
pub rule_at_place : (rules : List ParserRule) (n : Text) (r : ℕ) → last_place (grammar_of rules) n ≡ Some r
    → option_map rule_said (slice_get rules r) ≡ rule_of (grammar_of rules) n
rule_at_place rules n r e = go (last_place (grammar_of rules) n) e (resolved rules n)
  where
    go : (o : Option ℕ) → o ≡ Some r → Named rules n o → option_map rule_said (slice_get rules r) ≡ rule_of (grammar_of rules) n
    go o h (absent f) = cc
    go o h (named {r = m} rule at f) =
        let same : m ≡ r = cc in
        ap (option_map rule_said) (subst (λ z. slice_get rules z ≡ Some rule) same at) ∙ sym f

-- and none where it has no place
pub no_rule_named : (rules : List ParserRule) (n : Text) → last_place (grammar_of rules) n ≡ None
    → None ≡ rule_of (grammar_of rules) n
no_rule_named rules n e = go (last_place (grammar_of rules) n) e (resolved rules n)
  where
    go : (o : Option ℕ) → o ≡ None → Named rules n o → None ≡ rule_of (grammar_of rules) n
    go o h (absent f) = sym f
    go o h (named rule at f) = cc

-- what is told behind others
pub told_more : (found : List RuleFinding) (finding : RuleFinding) (place : Span) (message : Option (List ℕ))
    → message ≡ Some (message_of finding.problem (written (piece_of finding.span))) → place ≡ piece_of finding.span
    → findings_of (found ++ finding ∷ []) ≡ findings_of found ++ told_at place message
told_more found finding place message e h =
    map-append finding_of found (finding ∷ [])
    ∙ ap (λ told. findings_of found ++ told) (sym (ap (λ p. told_at p message) h ∙ ap (told_at (piece_of finding.span)) e))
