-- Names of rules, with one rule more.
use Rattle.std.proofs.Common.{◌≡◌, ◌∙◌, ap, ap₂, refl, sym, ℕ, ◌+◌, ◌<◌, Bool, true, false, List, [], ◌∷◌, ◌++◌, append-nil, append_assoc, codes, cond, filter, get_or, length, take}
use Rattle.std.specs.Prelude.{chars, string_bytes}
use Rattle.std.specs.Borrow.{Bor}
use Rattle.std.specs.List.{flat_map}
use Rattle.std.proofs.lemmas.Grind.{flat_map-append}
use Rattle.std.proofs.lemmas.List.{map-append, take_more}
use Rattle.std.proofs.lemmas.Str.{IsUtf8-string_bytes, encodes-chars}
use Rattle.std.proofs.lemmas.List.Elements.{filter-append}
use Rattle.base_ast.specs.Ast.{rules_of, text_of}
use Rattle.base_ast.specs.declared.ast.Rule.{Rule}
use Rattle.base_language.specs.Language.Text.{Text}
use Rattle.matcher_program.specs.ExpectedNames.{name_texts}
use Rattle.pest_run.specs.RuleNames.{name_line, name_lines, rule_names}

names_after : (rules : List Rule) (x : Rule) → rule_names (rules_of (rules ++ x ∷ [])) ≡ rule_names (rules_of rules) ++ text_of x.name ∷ []
names_after [] x = refl
names_after (rule ∷ rules) x = ap (λ ns. text_of rule.name ∷ ns) (names_after rules x)

module _ (rules : List Rule) (i : ℕ) (x : Rule) (within : i < length rules) (at : x ≡ get_or rules i x) where
  abbrev before : List Text
  before = rule_names (rules_of (take i rules))

  names_more : rule_names (rules_of (take (i + 1) rules)) ≡ before ++ text_of x.name ∷ []
  names_more =
      let more : take (i + 1) rules ≡ take i rules ++ x ∷ [] = take_more rules i x within ∙ ap (λ r. take i rules ++ r ∷ []) (sym at) in
      ap (λ rs. rule_names (rules_of rs)) more ∙ names_after (take i rules) x

  -- the line of one rule more
  pub line_more : (old new : List ℕ) → new ≡ old ++ string_bytes x.name ++ codes "\n" → old ≡ name_lines (rules_of (take i rules)) → new ≡ name_lines (rules_of (take (i + 1) rules))
  line_more old new e o =
      let line : old ++ string_bytes x.name ++ codes "\n" ≡ old ++ name_line (text_of x.name) =
      append_assoc old (string_bytes x.name) (codes "\n") ∙ ap (λ t. old ++ (t ++ codes "\n")) (sym (encodes-chars (string_bytes x.name) (IsUtf8-string_bytes x.name))) in
      e ∙ line ∙ ap (λ l. l ++ name_line (text_of x.name)) o
      ∙ sym (ap (λ ns. flat_map name_line ns) names_more
      ∙ flat_map-append name_line before (text_of x.name ∷ [])
      ∙ ap (λ l. flat_map name_line before ++ l) (append-nil (name_line (text_of x.name))))

-- one name more, which passes a test or not
module _ (names : List (Bor (List ℕ))) (i : ℕ) (d : Bor (List ℕ)) (within : i < length names) (f : Text → Bool) where
  one_text : name_texts (take (i + 1) names) ≡ name_texts (take i names) ++ chars (get_or names i d).now ∷ []
  one_text = ap name_texts (take_more names i d within) ∙ map-append (λ (m : Bor (List ℕ)). chars m.now) (take i names) (get_or names i d ∷ [])

  tested : (b : Bool) → b ≡ f (chars (get_or names i d).now) → (old : List Text) → old ≡ filter f (name_texts (take i names))
      → old ++ cond b (chars (get_or names i d).now ∷ []) [] ≡ filter f (name_texts (take (i + 1) names))
  tested b t old o =
      ap₂ (λ ns c. ns ++ cond c (chars (get_or names i d).now ∷ []) []) o t
      ∙ sym (ap (λ ns. filter f ns) one_text ∙ filter-append f (name_texts (take i names)) (chars (get_or names i d).now ∷ []))

  pub text_pushed : (old new : List (Bor (List ℕ))) → true ≡ f (chars (get_or names i d).now) → new ≡ old ++ get_or names i d ∷ []
      → name_texts old ≡ filter f (name_texts (take i names)) → name_texts new ≡ filter f (name_texts (take (i + 1) names))
  text_pushed old new t e h =
      ap name_texts e ∙ (map-append (λ (m : Bor (List ℕ)). chars m.now) old (get_or names i d ∷ []) ∙ tested true t (name_texts old) h)

  pub text_passed : (old : List (Bor (List ℕ))) → false ≡ f (chars (get_or names i d).now)
      → name_texts old ≡ filter f (name_texts (take i names)) → name_texts old ≡ filter f (name_texts (take (i + 1) names))
  text_passed old t h = sym (append-nil (name_texts old)) ∙ tested false t (name_texts old) h
