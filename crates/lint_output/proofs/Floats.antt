-- What is written has no floats, so its text is what the library's clause says.
use Rattle.std.proofs.Common.{◌≡◌, ℕ, Bool, false, ◌||◌, ◌++◌, Bor, List, [], ◌∷◌, None, Option, Some, ap, map, refl, string_bytes}
use Rattle.std.proofs.lemmas.Bool.{or_from}
use Rattle.serde_json.specs.Data.{Data, Items, string}
use Rattle.serde_json.specs.View.{items_of}
use Rattle.serde_json.specs.Written.{has_float, items_have_float}
use Rattle.base_language.proofs.Basics.{first_of_neither, second_of_neither}
use Rattle.lint_findings.specs.declared.codes.Code.{Code}
use Rattle.lint_findings.specs.declared.diagnostic.Diagnostic.{Diagnostic}
use Rattle.lint_hints.specs.declared.help.Fix.{Fix}
use Rattle.lint_hints.specs.declared.help.Help.{Help}
use Rattle.lint_hints.specs.declared.help.Related.{Related}
use Rattle.lint_output.specs.Json.{fix_data, help_data, line_data, mended_data, related_data}
use Rattle.lint_output.specs.Sarif.{IsRule, fixes_for, fixes_of, log_data, result_data}

pub log_without_floats : (rules results : Items) → items_have_float rules ≡ false → items_have_float results ≡ false
    → has_float (log_data rules results) ≡ false
log_without_floats rules results no_rule none = rw (no_rule, none) refl

map_free : {A : Type 0} (f : A → Data) → ((x : A) → has_float (f x) ≡ false) → (xs : List A) → items_have_float (items_of (map f xs)) ≡ false
map_free f h [] = refl
map_free f h (x ∷ xs) = or_from (has_float (f x)) _ (h x) (map_free f h xs)

help_free : (help : Option Help) → has_float (help_data help) ≡ false
help_free None = refl
help_free (Some help) = refl

fix_free : (fix : Option Fix) → has_float (fix_data fix) ≡ false
fix_free None = refl
fix_free (Some fix) = refl

mended_free : (help : Option Help) → has_float (mended_data help) ≡ false
mended_free None = refl
mended_free (Some help) = fix_free help.fix

related_free : (text : List ℕ) (parts : List Related) → has_float (related_data text parts) ≡ false
related_free text parts = map_free _ (λ part. refl) parts

names_free : (names : List (Bor (List ℕ))) → items_have_float (items_of (map (λ name. string name.now) names)) ≡ false
names_free names = map_free _ (λ name. refl) names

four_free : (a b c d : Bool) → a ≡ false → b ≡ false → c ≡ false → d ≡ false → (a || (b || (c || (d || false)))) ≡ false
four_free a b c d h i j k = or_from a _ h (or_from b _ i (or_from c _ j (or_from d false k refl)))

pub line_without_floats : (name text : List ℕ) (d : Diagnostic) → has_float (line_data name text d) ≡ false
line_without_floats name text d =
    four_free _ _ _ _ (names_free d.expected.items) (mended_free d.help) (help_free d.help) (related_free text d.related.items)

pub append_free : (ds es : List Data) → items_have_float (items_of ds) ≡ false → items_have_float (items_of es) ≡ false → items_have_float (items_of (ds ++ es)) ≡ false
append_free [] es h k = k
append_free (d ∷ ds) es h k = or_from (has_float d) _ (first_of_neither (has_float d) _ h) (append_free ds es (second_of_neither (has_float d) _ h) k)

file_fix_free : (name text message : List ℕ) (fix : Option Fix) → items_have_float (fixes_for name text message fix) ≡ false
file_fix_free name text message None = refl
file_fix_free name text message (Some fix) = refl

fixes_free : (name text : List ℕ) (help : Option Help) → items_have_float (fixes_of name text help) ≡ false
fixes_free name text None = refl
fixes_free name text (Some help) = file_fix_free name text (string_bytes help.message) help.fix

result_free : (name text : List ℕ) (d : Diagnostic) → has_float (result_data name text d) ≡ false
result_free name text d = or_from (items_have_float (fixes_of name text d.help)) _ (fixes_free name text d.help) refl

-- a rule has none either
pub rule_free : (code : Code) (page : List ℕ) (d : Data) → IsRule code page d → has_float d ≡ false
rule_free code page d rule = ap has_float rule.1

pub results_free : (name text : List ℕ) (ds : List Diagnostic) → items_have_float (items_of (map (result_data name text) ds)) ≡ false
results_free name text ds = map_free (result_data name text) (λ d. result_free name text d) ds
