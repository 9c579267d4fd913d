-- Texts of the calls that are open where rules are expected.
use Rattle.std.proofs.Common.{◌≡◌, ◌∙◌, ℕ, ◌&&◌, ◌++◌, Bool, false, List, [], ◌∷◌, ap, map, nat_eq, refl, sym}
use Rattle.std.proofs.Math.Bool.{and_assoc}
use Rattle.std.proofs.lemmas.Bool.{or_from}
use Rattle.std.specs.Global.{Vec}
use Rattle.base_language.specs.Language.Text.{Text}
use Rattle.matcher_code.specs.Steps.{is_same}
use Rattle.matcher_code.specs.declared.state.OpenCall.{OpenCall}
use Rattle.serde_json.specs.Data.{Data}
use Rattle.serde_json.specs.View.{items_of}
use Rattle.serde_json.specs.Written.{has_float, items_have_float}
use Rattle.pest_run.specs.Paths.{call_data, expected_rule, path_data, paths_data}
use lib.Pointwise.{pointwise}

-- the last call of some is the one behind the others
pub last_rule_index : (calls : List OpenCall) (c : OpenCall) → expected_rule (calls ++ c ∷ []) ≡ c.rule
last_rule_index [] c = refl
last_rule_index (d ∷ []) c = refl
last_rule_index (d ∷ e ∷ calls) c = last_rule_index (e ∷ calls) c

-- a test of two lists of calls
abbrev same_call : OpenCall → OpenCall → Bool
same_call c d = nat_eq c.rule d.rule && nat_eq c.start d.start

pub same_lists : (cs ds : List OpenCall) → is_same cs ds ≡ pointwise same_call cs ds
same_lists [] [] = refl
same_lists [] (d ∷ ds) = refl
same_lists (c ∷ cs) [] = refl
same_lists (c ∷ cs) (d ∷ ds) =
    ap (λ b. nat_eq c.rule d.rule && (nat_eq c.start d.start && b)) (same_lists cs ds)
    ∙ sym (and_assoc (nat_eq c.rule d.rule) (nat_eq c.start d.start) (pointwise same_call cs ds))

-- data of paths have no floats
free_items : {A : Type 0} (f : A → Data) → ((x : A) → has_float (f x) ≡ false) → (xs : List A) → items_have_float (items_of (map f xs)) ≡ false
free_items f h [] = refl
free_items f h (x ∷ xs) = or_from (has_float (f x)) _ (h x) (free_items f h xs)

pub free_of_floats : (names : List Text) (place : ℕ) (paths : List (Vec OpenCall)) → has_float (paths_data names place paths) ≡ false
free_of_floats names place paths =
    or_from _ _ (free_items (λ p. path_data names p.items) (λ p. free_items (call_data names) (λ c. refl) p.items) paths) refl
